-- METHOD 7.14: the sheet of a series reads back as the series with its revisions, and old figures do not show in the series.
use Prim.Native.Nat.{ℕ, zero, suc, ◌+◌, ◌*◌, ◌^◌, ◌≤◌, ◌<◌}
use mathlib.Core.Path.{◌≡◌, refl, sym, ap, subst, ◌∙◌}
use mathlib.Core.Bool.{true, not}
use mathlib.Core.List.{List, [], ◌∷◌, ◌++◌, map, append_assoc}
use native.Mathlib.Omega.{arith}
use borrow.Author.Tests.{le-ltb, eq-eqb}
use lib.IntN.{ℤ, pos}
use lib.ListN.{length, get_or, drop, length-append, get_or-append}
use lib.Ieee.{Float, binary64, to_bits, of_bits}
use lib.Ieee.Bits.{of_bits-to_bits, to_bits-lt}
use lib.Ieee.Fits.{of_int-fits}
use Rattle.integers.specs.Lists.{tab}
use Rattle.integers.specs.Sums.{sum_z}
use Rattle.integers.proofs.FillingLaws.{length-tab, at-tab, tab-same}
use Rattle.integers.proofs.SumLaws.{sum_same}
use Rattle.refusals.specs.Sheet.{Answer, success}
use Rattle.refusals.specs.Sheet as answers
use Rattle.refusals.specs.Inside.{start_inside, figure_inside}
use Rattle.refusals.specs.Promises.{Before}
use Rattle.refusals.proofs.InsideLaws.{start-inside, figure-inside}
use Rattle.refusals.proofs.CheckLaws.{◌&◌, none-applies, all_before}
use Rattle.little_endian.specs.Bytes.{bytes_of, number_at}
use Rattle.little_endian.proofs.NumberLaws.{length-bytes, number_past, number_back}
use Rattle.desk_forms.specs.Header.{count_in, start_in}
use Rattle.desk_forms.specs.After.{front_after}
use Rattle.doubles.specs.Doubles.{double_at, unused_at, number_in, counts, IsNumber, double_of}
use Rattle.doubles.proofs.Counting.{number_counts}
use Rattle.doubles.proofs.Exact.{double-exact, zero-positive}
use Rattle.sheet_cells.specs.declared.Cell.TheVariants.{Gap, Figure, Revision}
use Rattle.sheet_cells.specs.declared.Cell.{Cell}
use Rattle.std.specs.Prelude.{Option, Some, None, Result}
use Rattle.refusals.specs.declared.Refusal.{Refusal}
use Rattle.sheet_cells.specs.Cells.{sheet_length, with_month, imported_at, kind_at, first_at, second_at, cell_at, newest, revision}
use Rattle.sheet_cells.specs.CellChecks.{is_malformed, is_gap, cell_checks}
use Rattle.sheet_cells.proofs.CellLaws.{Takes, cell-figure, cell-revision, cell_passed}
use Rattle.members_sheet.specs.declared.SheetSeries.{SheetSeries}
use Rattle.members_sheet.specs.Series.{figures_in, revision_of_first, total_revision}
use Rattle.members_sheet.specs.ReadSheet.{SheetAccepted, sheet_accepted, sheet_says, sheet_checks, sheet_answer, SheetDone}
use Rattle.members_sheet.specs.SheetTheorems.{Entry, figure, revised, kind_of, first_bits, second_bits, newest_of, revision_of, cells_of, sheet_of, entry_at, total_of, EntryInside, InsideLimits, ReadsEntries, ReadsSeries, without_old, OldFiguresChanged, OldFigures}
use Rattle.members_sheet.proofs.CheckingLaws as checking

-- ---- the bytes of a cell
pattern : (z : ℤ) → to_bits binary64 (double_of z) < 256 ^ 8
pattern z = to_bits-lt binary64 (double_of z) (of_int-fits binary64 z)

first_small : (e : Entry) → first_bits e < 256 ^ 8
first_small (figure z) = pattern z
first_small (revised old new) = pattern old

second_small : (e : Entry) → second_bits e < 256 ^ 8
second_small (figure z) = omega arith
second_small (revised old new) = pattern new

abbrev cell_of : Entry → List ℕ
cell_of e = bytes_of 8 (first_bits e) ++ bytes_of 8 (second_bits e)

length-cell : (e : Entry) → length (cell_of e) ≡ 16
length-cell e =
    length-append (bytes_of 8 (first_bits e)) (bytes_of 8 (second_bits e))
    ∙ omega (arith, length-bytes 8 (first_bits e), length-bytes 8 (second_bits e))

length-cells : (entries : List Entry) → length (cells_of entries) ≡ 16 * length entries
unfolding cells_of
length-cells [] = refl
length-cells (e ∷ es) = length-append (cell_of e) (cells_of es) ∙ omega (arith, length-cell e, length-cells es)

first-double : (e : Entry) (rest : List ℕ) → number_at (cell_of e ++ rest) 0 8 ≡ first_bits e
first-double e rest =
    rw (append_assoc (bytes_of 8 (first_bits e)) (bytes_of 8 (second_bits e)) rest) (number_back 8 (first_bits e) (bytes_of 8 (second_bits e) ++ rest) (first_small e))

second-double : (e : Entry) (rest : List ℕ) → number_at (cell_of e ++ rest) 8 8 ≡ second_bits e
second-double e rest =
    let w = first_bits e in
    let v = second_bits e in
    let p : length (bytes_of 8 w) + 0 ≡ 8 = omega (arith, length-bytes 8 w) in
    rw (append_assoc (bytes_of 8 w) (bytes_of 8 v) rest)
    (subst (λ (k : ℕ). number_at (bytes_of 8 w ++ (bytes_of 8 v ++ rest)) k 8 ≡ v) p
    (number_past (bytes_of 8 w) (bytes_of 8 v ++ rest) 0 8 ∙ number_back 8 v rest (second_small e)))

-- a number in the cell of month t, k bytes behind its start
in_cell : (entries : List Entry) (t k width v : ℕ) → t < length entries → ((rest : List ℕ) → number_at (cell_of (entry_at entries t) ++ rest) k width ≡ v)
    → number_at (cells_of entries) (16 * t + k) width ≡ v
unfolding cells_of
in_cell [] t k width v h f = absurd (omega arith)
in_cell (e ∷ es) zero k width v h f = let p : 16 * 0 + k ≡ k = omega arith in rw p (f (cells_of es))
in_cell (e ∷ es) (suc t) k width v h f =
    let p : 16 * suc t + k ≡ length (cell_of e) + (16 * t + k) = omega (arith, length-cell e) in
    rw (p, number_past (cell_of e) (cells_of es) (16 * t + k) width) (in_cell es t k width v (omega arith) f)

-- ---- lists of months
length-map : {A B : Type 0} (f : A → B) (xs : List A) → length (map f xs) ≡ length xs
length-map f [] = refl
length-map f (x ∷ xs) = ap suc (length-map f xs)

at_map : {A B : Type 0} (f : A → B) (xs : List A) (d : A) (e : B) (t : ℕ) → t < length xs → get_or (map f xs) t e ≡ f (get_or xs t d)
at_map f [] d e t h = absurd (omega arith)
at_map f (x ∷ xs) d e zero h = refl
at_map f (x ∷ xs) d e (suc t) h = at_map f xs d e t (omega arith)

-- ---- what a cell that was made means
abbrev meant : ℕ → Entry → Option Cell
meant t (figure z) = Some (Figure (with_month t (double_of z)))
meant t (revised old new) = Some (Revision (with_month t (double_of old)) (with_month t (double_of new)))

exact : (z : ℤ) → figure_inside z ≡ true → IsNumber (double_of z) z
exact z h = double-exact z (omega (arith, figure-inside z h))

double-counts : (z : ℤ) → figure_inside z ≡ true → counts (double_of z) ≡ true
double-counts z h = number_counts (double_of z) z (exact z h) h

meant_taken : (t : ℕ) (e : Entry) → EntryInside e → Takes (meant t e)
meant_taken t (figure z) h = double-counts z h
meant_taken t (revised old new) h = (double-counts old h.0, double-counts new h.1)

meant-newest : (t : ℕ) (e : Entry) → EntryInside e → number_in (newest (meant t e)) ≡ newest_of e
meant-newest t (figure z) h = (exact z h).number
meant-newest t (revised old new) h = (exact new h.1).number

meant-revision : (t : ℕ) (e : Entry) → EntryInside e → revision (meant t e) ≡ revision_of e
meant-revision t (figure z) h = refl
meant-revision t (revised old new) h = rw ((exact old h.0).number, (exact new h.1).number)

bits_back : (z : ℤ) {w : ℕ} → w ≡ to_bits binary64 (double_of z) → of_bits binary64 w ≡ double_of z
bits_back z e = ap (of_bits binary64) e ∙ of_bits-to_bits binary64 (double_of z) (of_int-fits binary64 z)

-- a cell with this kind and these doubles
cell_meant : (sheet : List ℕ) (t : ℕ) (e : Entry) → kind_at sheet t ≡ kind_of e → number_at sheet (first_at sheet t) 8 ≡ first_bits e → number_at sheet (second_at sheet t) 8 ≡ second_bits e
    → cell_at sheet t ≡ meant t e
unfolding double_at unused_at imported_at
cell_meant sheet t (figure z) k f s = cell-figure sheet t k (rw s) ∙ ap (λ (x : Float). Some (Figure (with_month t x))) (bits_back z f)
cell_meant sheet t (revised old new) k f s =
    cell-revision sheet t k
    ∙ ap (λ (x : Float). Some (Revision (with_month t x) (imported_at sheet t (second_at sheet t)))) (bits_back old f)
    ∙ ap (λ (x : Float). Some (Revision (with_month t (double_of old)) (with_month t x))) (bits_back new s)

-- ---- the sheet of a series
module _ (start : ℕ) (entries : List Entry) where
  abbrev kinds : List ℕ
  kinds = map kind_of entries

  abbrev tail : List ℕ
  tail = kinds ++ cells_of entries

  sheet_is : sheet_of start entries ≡ bytes_of 2 (length entries) ++ (bytes_of 1 start ++ tail)
  unfolding sheet_of
  sheet_is =
      append_assoc (bytes_of 2 (length entries) ++ bytes_of 1 start) kinds (cells_of entries)
      ∙ append_assoc (bytes_of 2 (length entries)) (bytes_of 1 start) tail

  -- behind the sizes, and behind the kinds
  past-sizes : (at width : ℕ) → number_at (sheet_of start entries) (3 + at) width ≡ number_at tail at width
  past-sizes at width =
      let two : 3 + at ≡ length (bytes_of 2 (length entries)) + (1 + at) = omega (arith, length-bytes 2 (length entries)) in
      let one : 1 + at ≡ length (bytes_of 1 start) + at = omega (arith, length-bytes 1 start) in
      rw (sheet_is, two, number_past (bytes_of 2 (length entries)) (bytes_of 1 start ++ tail) (1 + at) width, one) (number_past (bytes_of 1 start) tail at width)

  past_kinds : (at width : ℕ) → number_at (sheet_of start entries) (3 + length entries + at) width ≡ number_at (cells_of entries) at width
  past_kinds at width =
      let e : 3 + length entries + at ≡ 3 + (length kinds + at) = omega (arith, length-map kind_of entries) in
      rw (e, past-sizes (length kinds + at) width, number_past kinds (cells_of entries) at width)

  length-sheet : length (sheet_of start entries) ≡ sheet_length (length entries)
  length-sheet =
      ap length sheet_is
      ∙ length-append (bytes_of 2 (length entries)) (bytes_of 1 start ++ tail)
      ∙ omega (arith, length-bytes 2 (length entries), length-append (bytes_of 1 start) tail, length-bytes 1 start, length-append kinds (cells_of entries), length-map kind_of entries, length-cells entries)

  module _ (w : InsideLimits start entries) where
    count-back : count_in (sheet_of start entries) ≡ length entries
    unfolding count_in
    count-back = ap (λ (b : List ℕ). number_at b 0 2) sheet_is ∙ number_back 2 (length entries) (bytes_of 1 start ++ tail) (omega (arith, w.most))

    start_back : start_in (sheet_of start entries) ≡ start
    unfolding start_in
    start_back =
        let two : 2 ≡ length (bytes_of 2 (length entries)) + 0 = omega (arith, length-bytes 2 (length entries)) in
        ap (λ (b : List ℕ). number_at b 2 1) sheet_is
        ∙ ap (λ (k : ℕ). number_at (bytes_of 2 (length entries) ++ (bytes_of 1 start ++ tail)) k 1) two
        ∙ number_past (bytes_of 2 (length entries)) (bytes_of 1 start ++ tail) 0 1
        ∙ number_back 1 start tail (omega (arith, (start-inside start w.inside).1))

    module _ (t : ℕ) (h : t < length entries) where
      abbrev here : Entry
      here = entry_at entries t

      kind_back : kind_at (sheet_of start entries) t ≡ kind_of here
      unfolding kind_at number_at
      kind_back = past-sizes t 1 ∙ omega (arith, get_or-append kinds (cells_of entries) 0 t (omega (arith, length-map kind_of entries)), at_map kind_of entries (figure (pos 0)) 0 t h)

      first_back : number_at (sheet_of start entries) (first_at (sheet_of start entries) t) 8 ≡ first_bits here
      unfolding first_at
      first_back =
          let e : 3 + count_in (sheet_of start entries) + 16 * t ≡ 3 + length entries + (16 * t + 0) = omega (arith, count-back) in
          rw (e, past_kinds (16 * t + 0) 8) (in_cell entries t 0 8 (first_bits here) h (first-double here))

      second_back : number_at (sheet_of start entries) (second_at (sheet_of start entries) t) 8 ≡ second_bits here
      unfolding second_at first_at
      second_back =
          let e : 3 + count_in (sheet_of start entries) + 16 * t + 8 ≡ 3 + length entries + (16 * t + 8) = omega (arith, count-back) in
          rw (e, past_kinds (16 * t + 8) 8) (in_cell entries t 8 8 (second_bits here) h (second-double here))

      cell_back : cell_at (sheet_of start entries) t ≡ meant t here
      cell_back = cell_meant (sheet_of start entries) t here kind_back first_back second_back

      cell_taken : Before 3 (cell_checks (sheet_of start entries) t)
      cell_taken = cell_passed (sheet_of start entries) t (rw cell_back (meant_taken t here (w.each t h)))

      figure-back : get_or (map newest_of entries) t (pos 0) ≡ number_in (newest (cell_at (sheet_of start entries) t))
      figure-back = at_map newest_of entries (figure (pos 0)) (pos 0) t h ∙ rw cell_back (sym (meant-newest t here (w.each t h)))

      revision-back : revision (cell_at (sheet_of start entries) t) ≡ revision_of here
      revision-back = rw cell_back (meant-revision t here (w.each t h))

    figures_back : map newest_of entries ≡ figures_in (sheet_of start entries)
    unfolding figures_in
    figures_back = rw count-back (tab-same (pos 0) (length entries) (λ t. number_in (newest (cell_at (sheet_of start entries) t))) (map newest_of entries) (length-map newest_of entries) figure-back)

    total_back : total_revision (sheet_of start entries) ≡ total_of entries
    unfolding total_revision revision_of_first
    total_back = rw count-back (sum_same (length entries) (λ t. revision (cell_at (sheet_of start entries) t)) (λ t. revision_of (entry_at entries t)) revision-back)

    answer_back : (room : ℕ) → length entries ≤ room → sheet_answer (sheet_of start entries) room ≡ sheet_accepted (length entries) start (double_of (total_of entries))
    unfolding sheet_answer
    answer_back room l =
        let s = sheet_of start entries in
        let ks = sheet_checks s room in
        sym (none-applies ks (sheet_accepted (count_in s) (start_in s) (double_of (total_revision s)))
        (le-ltb (length s) 3 (omega (arith, length-sheet))
        & le-ltb (count_in s) 72 (omega (arith, count-back, w.least))
        & le-ltb 600 (count_in s) (omega (arith, count-back, w.most))
        & ap not (ap start_inside start_back ∙ w.inside)
        & ap not (eq-eqb (length s) (sheet_length (count_in s)) (omega (arith, length-sheet, count-back)))
        & le-ltb room (count_in s) (omega (arith, count-back))
        & checking.all_passed (record { each = λ j m. cell_taken j (omega (arith, count-back)) })))
        ∙ rw (count-back, start_back, total_back) refl

pub entries_back : ReadsEntries
entries_back start entries figures₀ left r w room p =
    let a = answer_back start entries w (length figures₀) room in
    let n = length-map newest_of entries in
    record {
      answer = p.answer ∙ a ∙ ap (λ (k : ℕ). sheet_accepted k start (double_of (total_of entries))) (sym n);
      figures_left = p.figures_left ∙ rw (a, ← figures_back start entries w) refl;
    }

-- every month of kind 1
newest-figures : (figures : List ℤ) → map newest_of (map figure figures) ≡ figures
newest-figures [] = refl
newest-figures (z ∷ zs) = ap (λ (l : List ℤ). z ∷ l) (newest-figures zs)

no-revision : (figures : List ℤ) (t : ℕ) → revision_of (entry_at (map figure figures) t) ≡ pos 0
no-revision [] t = refl
no-revision (z ∷ zs) zero = refl
no-revision (z ∷ zs) (suc t) = no-revision zs t

nothing-summed : (k : ℕ) (f : ℕ → ℤ) → ((t : ℕ) → f t ≡ pos 0) → sum_z k f ≡ pos 0
unfolding sum_z
nothing-summed zero f h = refl
nothing-summed (suc k) f h = rw (nothing-summed k f h, h k)

pub series-back : ReadsSeries
series-back start figures figures₀ left r w room p =
    let es = map figure figures in
    let b = entries_back start es figures₀ left r w (omega (arith, length-map figure figures)) p in
    let z = nothing-summed (length es) (λ t. revision_of (entry_at es t)) (no-revision figures) in
    rw (newest-figures figures, z, zero-positive) at b

-- ---- old figures
-- the count and the start month in an answer
abbrev count_of : Answer SheetAccepted → ℕ
count_of (success a) = a.count
count_of (answers.refusal number place) = 0

abbrev start_of : Answer SheetAccepted → ℕ
start_of (success a) = a.start
start_of (answers.refusal number place) = 0

newest-same : (c : Option Cell) → newest (without_old c) ≡ newest c
newest-same None = refl
newest-same (Some Gap) = refl
newest-same (Some (Figure x)) = refl
newest-same (Some (Revision old new)) = refl

malformed_same : (c : Option Cell) → is_malformed (without_old c) ≡ is_malformed c
malformed_same None = refl
malformed_same (Some Gap) = refl
malformed_same (Some (Figure x)) = refl
malformed_same (Some (Revision old new)) = refl

gap_same : (c : Option Cell) → is_gap (without_old c) ≡ is_gap c
gap_same None = refl
gap_same (Some Gap) = refl
gap_same (Some (Figure x)) = refl
gap_same (Some (Revision old new)) = refl

module _ {sheet sheet' : List ℕ} (o : OldFiguresChanged sheet sheet') where
  same-series : figures_in sheet ≡ figures_in sheet'
  unfolding figures_in
  same-series =
      tab-same (pos 0) (count_in sheet') (λ t. number_in (newest (cell_at sheet' t))) (tab (count_in sheet) (λ t. number_in (newest (cell_at sheet t))))
      (length-tab (count_in sheet) (λ t. number_in (newest (cell_at sheet t))) ∙ o.same_count)
      (λ t l. let m : t < count_in sheet = omega (arith, o.same_count) in
      at-tab (pos 0) (count_in sheet) (λ t. number_in (newest (cell_at sheet t))) t m
      ∙ ap number_in (sym (newest-same (cell_at sheet t)) ∙ ap newest (o.same_cells t m) ∙ newest-same (cell_at sheet' t)))

  cell_taken' : (t : ℕ) → t < count_in sheet → Before 3 (cell_checks sheet t) → Before 3 (cell_checks sheet' t)
  cell_taken' t l h =
      let e = o.same_cells t l in
      (sym (malformed_same (cell_at sheet' t)) ∙ ap is_malformed (sym e) ∙ malformed_same (cell_at sheet t) ∙ h.0)
      & (sym (gap_same (cell_at sheet' t)) ∙ ap is_gap (sym e) ∙ gap_same (cell_at sheet t) ∙ h.1.0)
      & ap not (o.counting t l)
      & tt

  accepted-too : (room : ℕ) (a : SheetAccepted) → sheet_answer sheet room ≡ success a
      → sheet_answer sheet' room ≡ sheet_accepted a.count a.start (double_of (total_revision sheet'))
  unfolding sheet_answer
  accepted-too room a e =
      let b = all_before (sheet_checks sheet room) (sheet_accepted (count_in sheet) (start_in sheet) (double_of (total_revision sheet))) a e in
      let h = b.0 in
      let taken = checking.all_taken h.1.1.1.1.1.1 in
      let n : a.count ≡ count_in sheet' = sym (ap count_of b.1) ∙ o.same_count in
      let m : a.start ≡ start_in sheet' = sym (ap start_of b.1) ∙ o.same_start in
      sym (rw (n, m) (none-applies (sheet_checks sheet' room) (sheet_accepted (count_in sheet') (start_in sheet') (double_of (total_revision sheet')))
      (rw (← o.same_length) h.0
      & rw (← o.same_count) h.1.0
      & rw (← o.same_count) h.1.1.0
      & rw (← o.same_start) h.1.1.1.0
      & rw (← o.same_length, ← o.same_count) h.1.1.1.1.0
      & rw (← o.same_count) h.1.1.1.1.1.0
      & checking.all_passed (record { each = λ t l. let k : t < count_in sheet = omega (arith, o.same_count) in cell_taken' t k (taken.each t k) }))))

-- what a success leaves
success-leaves : (sheet : List ℕ) (figures₀ left : List ℤ) (r : Result SheetSeries Refusal) (a : SheetAccepted) → SheetDone sheet figures₀ r left → sheet_says r ≡ success a
    → left ≡ figures_in sheet ++ drop (length (figures_in sheet)) figures₀
success-leaves sheet figures₀ left r a p e = p.figures_left ∙ ap (λ (s : Answer SheetAccepted). front_after s (figures_in sheet) figures₀) (sym p.answer ∙ e)

pub old_figures : OldFigures
old_figures sheet sheet' figures₀ left left' r r' a o p p' s =
    let s' = p'.answer ∙ accepted-too o (length figures₀) a (sym p.answer ∙ s) in
    record {
      total' = double_of (total_revision sheet');
      answer = s';
      same_left =
          success-leaves sheet figures₀ left r a p s
          ∙ ap (λ (fs : List ℤ). fs ++ drop (length fs) figures₀) (same-series o)
          ∙ sym (success-leaves sheet' figures₀ left' r' _ p' s');
    }
