-- Laws of the arrays of a desk file: their lengths, their values by month, and how they are stored in month order.
use Prim.Native.Nat.{ℕ, ◌+◌, ◌*◌, ◌^◌, min, ◌<◌, ◌≤◌}
use mathlib.Core.Path.{◌≡◌, refl, sym, ap, ◌∙◌}
use mathlib.Core.Bool.{Bool, true, false, not}
use mathlib.Core.Logic.{⊎_elim}
use borrow.Author.Tests.{lt-ltb, le-ltb}
use mathlib.Core.List.{List, ◌++◌}
use native.Mathlib.Nat.{mul-suc, mul-le-mul_left}
use native.Mathlib.Decide.{dec_le, ℕ_discrete}
use native.Mathlib.Omega.{arith}
use lib.IntN.{ℤ}
use lib.ListN.{length, get_or, set, drop, length-set}
use lib.Seq.{sets, length-sets, get_or-set_same, get_or-set_other}
use Rattle.std.specs.Prelude.{ltb}
use Rattle.std.specs.Bool.{then_some}
use Rattle.integers.specs.Lists.{tab}
use Rattle.integers.specs.Filling.{Filled}
use Rattle.integers.proofs.FillingLaws.{length-tab, at-tab, filled_front}
use Rattle.refusals.specs.First.{first_failing}
use Rattle.refusals.proofs.FirstLaws.{NoneBefore, first_here, first-none}
use Rattle.little_endian.specs.Bytes.{AreBytes, bytes_of, number_at, word, signed, array}
use Rattle.little_endian.proofs.NumberLaws.{number_small}
use Rattle.little_endian.proofs.ArrayLaws.{length-array, array-more, array-none, array_same}
use Rattle.chart.specs.Chart.{Starts, place, month_order, order_of_t}
use Rattle.chart.specs.Promises.{Stands}
use Rattle.chart.proofs.Places.{place-below}
use Rattle.chart.proofs.Rearranging.{length-month_order, length-order_of_t, place-one, at-place, month_order-pair, order_of_t-pair}
use Rattle.chart.proofs.Loops.{length-order_of_t-tab, at-order_of_t-tab, order_of_t-tab}
use Rattle.desk_arrays.specs.Arrays.{stored_figure, stored_weight, figures_at, weights_at, figures_bytes, weights_bytes}
use Rattle.desk_arrays.specs.Promises.{numbers_at, entries_at}

-- ---- lengths
module _ (file : List ℕ) (from n : ℕ) where
  pub length-figures_at : length (figures_at file from n) ≡ n
  unfolding figures_at
  length-figures_at = length-tab n (stored_figure file from)

  pub length-weights_at : length (weights_at file from n) ≡ n
  unfolding weights_at
  length-weights_at = length-tab n (stored_weight file from)

  -- the two kinds of entries
  pub figures_are : entries_at 4 signed file from n ≡ figures_at file from n
  unfolding entries_at figures_at stored_figure
  figures_are = refl

  pub weights_are : entries_at 2 (λ w. w) file from n ≡ weights_at file from n
  unfolding entries_at weights_at stored_weight
  weights_are = refl

pub length-numbers_at : (width : ℕ) (file : List ℕ) (from n : ℕ) → length (numbers_at width file from n) ≡ n
unfolding numbers_at
length-numbers_at width file from n = length-tab n _

pub length-figures_bytes : (figures : List ℤ) → length (figures_bytes figures) ≡ 4 * length figures
unfolding figures_bytes
length-figures_bytes figures = length-array 4 word figures

pub length-weights_bytes : (weights : List ℕ) → length (weights_bytes weights) ≡ 2 * length weights
unfolding weights_bytes
length-weights_bytes weights = length-array 2 (λ w. w) weights

-- an entry of an array that lies in a slice lies in it
pub part_fits : (from width n long i : ℕ) → from + width * n ≤ long → i < n → from + width * (i + 1) ≤ long
part_fits from width n long i h l = omega (arith, mul-le-mul_left width l)

-- ---- place by place, with the month that stands there: an array f 0, .., f (n - 1) in month order
-- a month that stands before place i + 1 and is not the one at place i stands before that
earlier : (p s n i t u : ℕ) → Starts p s → Stands p s n i t → u < n → place p s n u < i + 1 → (u ≡ t → ⊥) → place p s n u < i
earlier p s n i t u v q k l m =
    let apart : place p s n u ≡ i → ⊥ = λ e. m (place-one p s v n u t k q.inside (e ∙ sym q.here)) in
    omega arith

-- the months before place i are looked at: `lowest` is the lowest of them whose value is bad, and n where there is none
pub record Lowest {A : Type 0} (test : A → Bool) (f : ℕ → A) (p s n i lowest : ℕ) : Type 0 where
  pub most : lowest ≤ n
  pub bad : lowest < n → test (f (place p s n lowest)) ≡ false
  pub passed : (u : ℕ) → u < n → place p s n u < i → u < lowest → test (f (place p s n u)) ≡ true

module _ {A : Type 0} {test : A → Bool} {f : ℕ → A} {p s n : ℕ} (v : Starts p s) where
  -- one value more, x, which passes or fails
  pub lowest_passed : {i t lowest : ℕ} {x : A} → Lowest test f p s n i lowest → Stands p s n i t → x ≡ f i → test x ≡ true → Lowest test f p s n (i + 1) lowest
  lowest_passed {i} {t} {lowest} q k e h = record { most = q.most; bad = q.bad; passed = λ u a b l. at u a b l (ℕ_discrete u t) }
    where
      at : (u : ℕ) → u < n → place p s n u < i + 1 → u < lowest → Dec (u ≡ t) → test (f (place p s n u)) ≡ true
      at u a b l (yes z) = ap test (ap f (ap (place p s n) z ∙ k.here) ∙ sym e) ∙ h
      at u a b l (no z) = q.passed u a (earlier p s n i t u v k a b z) l

  pub lowest_failed : {i t lowest : ℕ} {x : A} → Lowest test f p s n i lowest → Stands p s n i t → x ≡ f i → test x ≡ false → Lowest test f p s n (i + 1) (min lowest t)
  lowest_failed {i} {t} {lowest} {x} q k e h =
      record {
        most = omega (arith, q.most);
        bad = λ l. bad (dec_le t lowest) l;
        passed = λ u a b l. q.passed u a (earlier p s n i t u v k a b (λ z. omega arith)) (omega arith);
      }
    where
      bad : Dec (t ≤ lowest) → min lowest t < n → test (f (place p s n (min lowest t))) ≡ false
      bad (yes l) m = let z : min lowest t ≡ t = omega arith in rw z (ap test (ap f k.here ∙ sym e) ∙ h)
      bad (no l) m = let z : min lowest t ≡ lowest = omega arith in rw z (q.bad (omega arith))

  pub lowest_told : {i lowest : ℕ} (d : A) → Lowest test f p s n i lowest → n ≤ i → then_some (ltb lowest n) lowest ≡ first_failing test (order_of_t d p s (tab n f))
  lowest_told {i} {lowest} d q h = by (dec_le (lowest + 1) n)
    where
      before : NoneBefore d test (order_of_t d p s (tab n f)) lowest
      before = record { each = λ u l. let k : u < n = omega (arith, q.most) in ap test (at-order_of_t-tab d p s v n f u k) ∙ q.passed u k (omega (arith, place-below p s v n u k)) l }

      by : Dec (lowest + 1 ≤ n) → then_some (ltb lowest n) lowest ≡ first_failing test (order_of_t d p s (tab n f))
      by (yes l) =
          let k : lowest < n = omega arith in
          rw (lt-ltb lowest n k) (first_here before (rw (length-order_of_t-tab d p s v n f) k) (at-order_of_t-tab d p s v n f lowest k) refl (ap not (q.bad k)))
      by (no l) = rw (le-ltb lowest n (omega arith)) (first-none before (omega (arith, length-order_of_t-tab d p s v n f, q.most)))

-- a slice filled by month: the months before place i hold their values, and what is past the n months is as it was
pub record WalkFilled {A : Type 0} (d : A) (f : ℕ → A) (p s n i : ℕ) (old new : List A) : Type 0 where
  pub long : length new ≡ length old
  pub here : (u : ℕ) → u < n → place p s n u < i → get_or new u d ≡ f (place p s n u)
  pub rest : (u : ℕ) → n ≤ u → get_or new u d ≡ get_or old u d

module _ {A : Type 0} {d : A} {f : ℕ → A} {p s n : ℕ} {old : List A} where
  module _ (v : Starts p s) (room : n ≤ length old) where
    pub walk_more : {i t : ℕ} {x : A} {new : List A} → WalkFilled d f p s n i old new → Stands p s n i t → x ≡ f i → WalkFilled d f p s n (i + 1) old (set new t x)
    walk_more {i} {t} {x} {new} q k e = record {
      long = length-set new t x ∙ q.long;
      here = λ u a b. at u a b (ℕ_discrete u t);
      rest = λ u a. get_or-set_other new t u x d (λ z. omega (arith, k.inside)) ∙ q.rest u a;
    }
      where
        at : (u : ℕ) → u < n → place p s n u < i + 1 → Dec (u ≡ t) → get_or (set new t x) u d ≡ f (place p s n u)
        at u a b (yes z) = rw z (get_or-set_same new t x d (omega (arith, k.inside, q.long)) ∙ e ∙ ap f (sym k.here))
        at u a b (no z) = get_or-set_other new t u x d z ∙ q.here u a (earlier p s n i t u v k a b z)

    pub walk_all : {i : ℕ} {new : List A} → WalkFilled d f p s n i old new → n ≤ i → new ≡ order_of_t d p s (tab n f) ++ drop n old
    walk_all {i} {new} q h = filled_front filled refl room ∙ ap (λ (xs : List A). xs ++ drop n old) (sym (order_of_t-tab d p s v n f))
      where
        filled : Filled d (λ u. f (place p s n u)) 0 n old new
        filled = record {
          long = q.long;
          here = λ u a b. q.here u b (omega (arith, place-below p s v n u b));
          rest = λ u a. q.rest u (⊎_elim (λ (l : u < 0). absurd (omega arith)) (λ l. l) a);
        }

-- the number of month t, of an array in month order
pub number_of : (width : ℕ) (file : List ℕ) (from p s n t : ℕ) → Starts p s → t < n
    → get_or (order_of_t 0 p s (numbers_at width file from n)) t 0 ≡ number_at file (from + width * place p s n t) width
unfolding numbers_at
number_of width file from p s n t v h = at-order_of_t-tab 0 p s v n _ t h

-- ---- a series xs of n months stored in month order, from byte `from` on
-- i values are stored; d is what `get_or` gives past the end
pub record Stored {A : Type 0} (d : A) (width : ℕ) (code : A → ℕ) (p s : ℕ) (xs : List A) (from : ℕ) (old : List ℕ) (i : ℕ) (new : List ℕ) : Type 0 where
  pub long : length new ≡ length old
  pub left : sets old from (array width code (month_order d p s xs)) ≡ sets new (from + width * i) (array width code (drop i (month_order d p s xs)))

module _ {A : Type 0} {d : A} {width : ℕ} {code : A → ℕ} {p s : ℕ} {xs : List A} {from : ℕ} {old : List ℕ} where
  module _ (v : Starts p s) where
    pub stored_more : {i t value : ℕ} {new next : List ℕ} → Stored d width code p s xs from old i new → Stands p s (length xs) i t → value ≡ code (get_or xs t d)
        → next ≡ sets new (from + width * i) (bytes_of width value) → Stored d width code p s xs from old (i + 1) next
    stored_more {i} {t} {value} {new} {next} q k e m =
        let ys = month_order d p s xs in
        let here : code (get_or ys i d) ≡ value = ap code (ap (λ (j : ℕ). get_or ys j d) (sym k.here) ∙ at-place d p s v xs t k.inside) ∙ sym e in
        let l : i < length ys = omega (arith, length-month_order d p s v xs, k.here, place-below p s v (length xs) t k.inside) in
        record {
          long = ap length m ∙ length-sets new (from + width * i) (bytes_of width value) ∙ q.long;
          left = q.left ∙ array-more d width code ys new from i l ∙ rw (here, m);
        }

    pub stored_all : {i : ℕ} {new : List ℕ} → Stored d width code p s xs from old i new → length xs ≤ i → new ≡ sets old from (array width code (month_order d p s xs))
    stored_all {i} {new} q h =
        sym (q.left ∙ array-none d width code (month_order d p s xs) new from i (omega (arith, length-month_order d p s v xs)))

-- ---- moved as numbers: the entries of an array, put into another order as numbers of so many bytes, are its entries
module _ {A : Type 0} (d : A) (width : ℕ) (code : A → ℕ) (decode : ℕ → A) (kept : (w : ℕ) → w < 256 ^ width → code (decode w) ≡ w)
    {bytes : List ℕ} (b : AreBytes bytes) (from n : ℕ) (room : from + width * n ≤ length bytes) where
  as_number : (i : ℕ) → i < n → get_or (numbers_at width bytes from n) i 0 ≡ code (get_or (entries_at width decode bytes from n) i d)
  unfolding numbers_at entries_at
  as_number i h =
      let small = number_small bytes b (from + width * i) width (omega (arith, part_fits from width n (length bytes) i room h, mul-suc width i)) in
      at-tab 0 n _ i h ∙ sym (ap code (at-tab d n _ i h) ∙ kept (number_at bytes (from + width * i) width) small)

  pub moved_entries : (p s q r : ℕ) (v : Starts p s) (u : Starts q r) → array width (λ (w : ℕ). w) (month_order 0 q r (order_of_t 0 p s (numbers_at width bytes from n)))
      ≡ array width code (month_order d q r (order_of_t d p s (entries_at width decode bytes from n)))
  unfolding entries_at
  moved_entries p s q r v u =
      let numbers = numbers_at width bytes from n in
      let entries = entries_at width decode bytes from n in
      let long : length numbers ≡ n = length-numbers_at width bytes from n in
      let same : length numbers ≡ length entries = long ∙ sym (length-tab n (λ (i : ℕ). decode (number_at bytes (from + width * i) width))) in
      let there : length (order_of_t 0 p s numbers) ≡ length (order_of_t d p s entries) = length-order_of_t 0 p s v numbers ∙ same ∙ sym (length-order_of_t d p s v entries) in
      let R : ℕ → A → Type 0 = λ (w : ℕ) (z : A). w ≡ code z in
      array_same 0 d width (λ (w : ℕ). w) code _ _
      (length-month_order 0 q r u (order_of_t 0 p s numbers) ∙ there ∙ sym (length-month_order d q r u (order_of_t d p s entries)))
      (month_order-pair R 0 d q r u (order_of_t 0 p s numbers) (order_of_t d p s entries) there (order_of_t-pair R 0 d p s v numbers entries same (λ i h. as_number i (omega (arith, h, long)))))
