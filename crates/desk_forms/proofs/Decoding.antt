-- In both forms a file means what was written, and what a byte string means is written as that byte string.
use Prim.Native.Nat.{ℕ, ◌+◌, ◌*◌, ◌^◌, ◌<◌, ◌≤◌}
use mathlib.Core.Path.{◌≡◌, refl, sym, ap, ◌∙◌}
use mathlib.Core.List.{List, [], ◌++◌, append_assoc, append-nil}
use native.Mathlib.Omega.{arith}
use lib.IntN.{ℤ, pos}
use lib.ListN.{length, get_or, take, drop}
use lib.Seq.{take-add, take_all}
use Rattle.refusals.specs.Limits.{months_of_year}
use Rattle.little_endian.specs.Bytes.{AreBytes, FourBytes, bytes_of, number_at, word, signed, array}
use Rattle.little_endian.proofs.NumberLaws.{number_past, number_back, bytes_back}
use Rattle.little_endian.proofs.SignedLaws.{four_bytes, word_fits, signed_word, word-signed}
use Rattle.little_endian.proofs.ArrayLaws.{array_back, array_again}
use Rattle.chart.specs.Chart.{Starts, month_order}
use Rattle.chart.proofs.Rearranging.{length-month_order, month_order-each, columns_back, columns_again}
use Rattle.desk_arrays.specs.Arrays.{figures_bytes, weights_bytes, stored_figure, stored_weight, figures_at, weights_at}
use Rattle.desk_forms.specs.declared.Form.{Form}
use Rattle.desk_forms.specs.declared.Form.TheVariants.{Plain, Columns}
use Rattle.desk_forms.specs.Header.{SeriesWithWeights, Storable, header, count_in, start_in, period_in, weights_start, length_for}
use Rattle.desk_forms.specs.File.{file_bytes}
use Rattle.desk_forms.specs.ColumnsFile.{columns_bytes, first_year_in}
use Rattle.desk_forms.specs.Forms.{front_of, months_in, start_of, front_bytes, year_of, bytes_in, meaning_of, Sized}
use Rattle.desk_forms.proofs.FormLaws.{form_starts, figures_by, weights-by, form_figures, form-weights, meaning_start, meaning-whole, meaning-months}
use Rattle.desk_forms.proofs.FileLaws.{length-header, length_front, figures_part, weights_part, front_part, in_parts, weights-start}

-- ---- written, then read: the header
module _ (count start period : ℕ) (rest : List ℕ) where
  count-first : count < 2 ^ 16 → count_in (header count start period ++ rest) ≡ count
  unfolding count_in header
  count-first h = simp append_assoc (number_back 2 count _ h)

  start_next : start < 2 ^ 8 → start_in (header count start period ++ rest) ≡ start
  unfolding start_in header bytes_of number_at
  start_next h = omega arith

  period_next : period < 2 ^ 8 → period_in (header count start period ++ rest) ≡ period
  unfolding period_in header bytes_of number_at
  period_next h = omega arith

year_next : (count start period year : ℕ) (rest : List ℕ) → year < 2 ^ 16 → first_year_in (header count start period ++ (bytes_of 2 year ++ rest)) ≡ year
unfolding first_year_in
year_next count start period year rest h =
    let behind = bytes_of 2 year ++ rest in
    (rw (length-header count start period) at (number_past (header count start period) behind 0 2)) ∙ number_back 2 year rest h

-- what stands behind the header
abbrev behind : Form → ℕ → SeriesWithWeights → List ℕ
behind Plain year s = figures_bytes s.figures ++ weights_bytes s.weights
behind Columns year s = bytes_of 2 year ++ (figures_part Columns s ++ weights_part Columns s)

header-first : (form : Form) (year : ℕ) (s : SeriesWithWeights) → bytes_in form year s ≡ header (length s.figures) s.start months_of_year ++ behind form year s
unfolding file_bytes columns_bytes
header-first Plain year s = append_assoc (header (length s.figures) s.start months_of_year) (figures_bytes s.figures) (weights_bytes s.weights)
header-first Columns year s =
    let h = header (length s.figures) s.start months_of_year in
    append_assoc (h ++ bytes_of 2 year) (figures_part Columns s) (weights_part Columns s) ∙ append_assoc h (bytes_of 2 year) (figures_part Columns s ++ weights_part Columns s)

-- and the arrays
module _ (form : Form) (year : ℕ) (s : SeriesWithWeights) (a : Storable s) (v : Starts (months_in form) (start_of form s.start)) where
  abbrev months : ℕ
  months = length s.figures

  pub count-back : count_in (bytes_in form year s) ≡ months
  count-back = rw (header-first form year s) (count-first months s.start months_of_year (behind form year s) a.count)

  pub start_back : start_in (bytes_in form year s) ≡ s.start
  start_back = rw (header-first form year s) (start_next months s.start months_of_year (behind form year s) a.start)

  pub period_back : period_in (bytes_in form year s) ≡ months_of_year
  period_back = rw (header-first form year s) (period_next months s.start months_of_year (behind form year s) (omega arith))

  figures_back : month_order (pos 0) (months_in form) (start_of form s.start) s.figures ≡ figures_at (bytes_in form year s) (front_of form) months
  unfolding figures_at stored_figure figures_bytes
  figures_back =
      let xs = month_order (pos 0) (months_in form) (start_of form s.start) s.figures in
      rw (in_parts form year s)
      (rw (length_front form months s.start year, length-month_order (pos 0) (months_in form) (start_of form s.start) v s.figures)
      at (array_back (pos 0) 4 word signed xs (front_part form year s) (weights_part form s)
      (λ t h. fits (get_or xs t (pos 0)) (month_order-each FourBytes (pos 0) (months_in form) (start_of form s.start) v s.figures a.figures_fit t h))))
    where
      fits : (x : ℤ) → FourBytes x → (word x < 256 ^ 4) × (signed (word x) ≡ x)
      fits x h = let f = four_bytes x h in (word_fits x f, signed_word x f)

  weights-back : month_order 0 (months_in form) (start_of form s.start) s.weights ≡ weights_at (bytes_in form year s) (weights_start (front_of form) months) months
  unfolding weights_at stored_weight weights_bytes
  weights-back =
      let xs = month_order 0 (months_in form) (start_of form s.start) s.weights in
      let front = front_part form year s ++ figures_part form s in
      let small = month_order-each (λ (w : ℕ). w < 2 ^ 16) 0 (months_in form) (start_of form s.start) v s.weights a.weights_fit in
      rw (in_parts form year s)
      (rw (append-nil (front ++ array 2 (λ (w : ℕ). w) xs), weights-start form year s v, length-month_order 0 (months_in form) (start_of form s.start) v s.weights, a.same)
      at (array_back 0 2 (λ w. w) (λ w. w) xs front [] (λ t h. (small t h, refl))))

  pub meaning_back : meaning_of form (bytes_in form year s) ≡ s
  meaning_back =
      let file = bytes_in form year s in
      let p = months_in form in
      let m = start_of form s.start in
      let figures : (meaning_of form file).figures ≡ s.figures =
      sym (figures_by form file) ∙ rw (start_back, count-back, ← figures_back) (columns_back (pos 0) p m v s.figures) in
      let weights : (meaning_of form file).weights ≡ s.weights =
      sym (weights-by form file) ∙ rw (start_back, count-back, ← weights-back) (columns_back 0 p m v s.weights) in
      meaning-whole form file ∙ rw (start_back, figures, weights)

pub year_back : (form : Form) (year : ℕ) (s : SeriesWithWeights) → year < 2 ^ 16 → year_of form year (bytes_in form year s) ≡ year
year_back Plain year s h = refl
year_back Columns year s h = rw (header-first Columns year s) (year_next (length s.figures) s.start months_of_year year (figures_part Columns s ++ weights_part Columns s) h)

-- ---- read, then written
module _ (file : List ℕ) (b : AreBytes file) where
  header-again : 4 ≤ length file → header (count_in file) (start_in file) (period_in file) ≡ take 4 file
  unfolding header count_in start_in period_in
  header-again h =
      rw (bytes_back file b 0 2 (omega arith), bytes_back file b 2 1 (omega arith), bytes_back file b 3 1 (omega arith), ← take-add 2 1 file, ← take-add 3 1 file)

  front_again : (form : Form) (given : ℕ) → front_of form ≤ length file → period_in file ≡ months_of_year
      → front_bytes form (count_in file) (start_in file) (year_of form given file) ≡ take (front_of form) file
  unfolding first_year_in
  front_again Plain given h p = ap (header (count_in file) (start_in file)) (sym p) ∙ header-again h
  front_again Columns given h p =
      rw (ap (header (count_in file) (start_in file)) (sym p) ∙ header-again (omega arith), bytes_back file b 4 2 (omega arith), ← take-add 4 2 file)

  figures_again : (from n : ℕ) → from + 4 * n ≤ length file → figures_bytes (figures_at file from n) ≡ take (4 * n) (drop from file)
  unfolding figures_bytes figures_at stored_figure
  figures_again from n h = array_again 4 word signed word-signed file b from n h

  weights-again : (from n : ℕ) → from + 2 * n ≤ length file → weights_bytes (weights_at file from n) ≡ take (2 * n) (drop from file)
  unfolding weights_bytes weights_at stored_weight
  weights-again from n h = array_again 2 (λ w. w) (λ w. w) (λ w l. refl) file b from n h

  -- the bytes of what a file means, from its year on, are the file
  pub bytes_again : {form : Form} {n start year : ℕ} (given : ℕ) → Sized form file n start → period_in file ≡ months_of_year → year ≡ year_of form given file
      → bytes_in form year (meaning_of form file) ≡ file
  bytes_again {form} {n} {start} {year} given z p y =
      let s = meaning_of form file in
      let v = form_starts form start z.inside in
      let h = front_of form in
      let begins : s.start ≡ start = meaning_start form file ∙ sym z.begins in
      let front : front_bytes form n start year ≡ take h file =
      rw (z.count, z.begins, y) (front_again form given (omega (arith, z.size)) p) in
      let figures : month_order (pos 0) (months_in form) (start_of form start) s.figures ≡ figures_at file h n =
      rw (← form_figures z) (columns_again (pos 0) (months_in form) (start_of form start) v _) in
      let weights : month_order 0 (months_in form) (start_of form start) s.weights ≡ weights_at file (weights_start h n) n =
      rw (← form-weights z) (columns_again 0 (months_in form) (start_of form start) v _) in
      in_parts form year s
      ∙ rw (
        begins,
        (meaning-months z).0,
        front,
        figures,
        weights,
        figures_again h n (omega (arith, z.size)),
        weights-again (weights_start h n) n (omega (arith, z.size)),
        ← take-add h (4 * n) file,
        ← take-add (weights_start h n) (2 * n) file,
      )
      (take_all (length_for h n) file (omega (arith, z.size)))
