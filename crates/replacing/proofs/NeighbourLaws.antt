-- The neighbours by cases, the sum of their values, and the value that stays or becomes a mean.
use mathlib.Core.Path.{◌≡◌, refl, ap, ap₂, ◌∙◌}
use mathlib.Core.Bool.{Bool, true, false, ◌&&◌}
use mathlib.Core.List.{List, [], ◌∷◌}
use Prim.Native.Nat.{ℕ, ◌+◌, ◌*◌, ◌≤◌, ◌<◌, min}
use native.Mathlib.Omega.{arith}
use lib.Dec.{ltb}
use lib.ListN.{length, get_or}
use lib.IntN.{ℤ, pos, ◌+ℤ◌, ◌*ℤ◌}
use mir.Syntax.{w64}
use mir.Val.{to_z, of_z}
use borrow.Author.Tests.{lt-ltb, le-ltb}
use Rattle.integers.specs.Sizes.{◌within◌}
use Rattle.integers.specs.Lists.{◌‼◌, AllWithin}
use Rattle.integers.specs.Rounding.{to_grain}
use Rattle.integers.proofs.Differences.{rep, ringℤ}
use Rattle.integers.proofs.SizeLaws.{w_lit, w+, w*, w≤}
use Rattle.integers.proofs.Signed64.{Reads, i_cast, i_lit, i+, i*, i_in, i_kept}
use Rattle.refusals.specs.Limits.{full_weight}
use Rattle.filters.specs.Promises.{largest}
use Rattle.replacing.specs.Neighbours.{full_before, full_after, nearest, neighbours}
use Rattle.replacing.specs.Replaced.{sum_at, is_replaced, counted_sum, counted, replaced_at}
use Rattle.replacing.specs.Promises.{SumAndCountOf}
use Rattle.replacing.proofs.ReplacedLaws.{neighbours-most}

-- ---- three, or two on each side
module _ (period : ℕ) (w : List ℕ) (t : ℕ) where
  pub three_of : min (length (full_before period w t)) (length (full_after period w t)) < 2 → nearest 3 t (full_before period w t) (full_after period w t) ≡ neighbours period w t
  unfolding neighbours
  three_of h = simp (lt-ltb (min (length (full_before period w t)) (length (full_after period w t))) 2 h)

  four_of : {a b c d : ℕ} (es ls : List ℕ) → full_before period w t ≡ a ∷ c ∷ es → full_after period w t ≡ b ∷ d ∷ ls → a ∷ c ∷ b ∷ d ∷ [] ≡ neighbours period w t
  unfolding neighbours
  four_of {a} {b} {c} {d} es ls e f = rw (e, f) (simp (le-ltb (min (length (a ∷ c ∷ es)) (length (b ∷ d ∷ ls))) 2 (omega arith)))

  pub four-summed : {x : List ℤ} {a b c d : ℕ} (es ls : List ℕ) → full_before period w t ≡ a ∷ c ∷ es → full_after period w t ≡ b ∷ d ∷ ls
      → SumAndCountOf x (neighbours period w t) ((x ‼ a) +ℤ (x ‼ c) +ℤ (x ‼ b) +ℤ (x ‼ d)) 4
  unfolding sum_at
  four-summed {x} {a} {b} {c} {d} es ls e f = let k = four_of es ls e f in
      record { sum_is = in_turn (x ‼ a) (x ‼ c) (x ‼ b) (x ‼ d) ∙ ap (sum_at x) k; count_is = ap length k }
    where
      in_turn : (p q r s : ℤ) → p +ℤ q +ℤ r +ℤ s ≡ p +ℤ (q +ℤ (r +ℤ (s +ℤ pos 0)))
      in_turn p q r s = rw (rep p, rep q, rep r, rep s) (simp ringℤ (omega arith))

pub summed-as : {x : List ℤ} {ps all : List ℕ} {s : ℤ} {count : ℕ} → SumAndCountOf x ps s count → ps ≡ all → SumAndCountOf x all s count
summed-as {x} g e = record { sum_is = g.sum_is ∙ ap (sum_at x) e; count_is = g.count_is ∙ ap length e }

-- ---- as the code adds four values: each sum is held as bits
abbrev pub held : ℤ → ℤ
held z = to_z w64 (of_z w64 z)

module _ {x : List ℤ} (y : AllWithin largest x) where
  pub two_read : (a c : ℕ) → Reads (held (x ‼ a) +ℤ held (x ‼ c)) ((x ‼ a) +ℤ (x ‼ c)) (largest + largest)
  two_read a c = i+ (i_in (y.at a) tt) (i_in (y.at c) tt)

  pub three_read : (a c b : ℕ) → Reads (held (held (x ‼ a) +ℤ held (x ‼ c)) +ℤ held (x ‼ b)) ((x ‼ a) +ℤ (x ‼ c) +ℤ (x ‼ b)) (largest + largest + largest)
  three_read a c b = i+ (i_kept (two_read a c) tt) (i_in (y.at b) tt)

  pub four_read : (a c b d : ℕ) → Reads (held (held (held (x ‼ a) +ℤ held (x ‼ c)) +ℤ held (x ‼ b)) +ℤ held (x ‼ d)) ((x ‼ a) +ℤ (x ‼ c) +ℤ (x ‼ b) +ℤ (x ‼ d)) (largest + largest + largest + largest)
  four_read a c b d = i+ (i_kept (three_read a c b) tt) (i_in (y.at d) tt)

  sum-within : (ps : List ℕ) → sum_at x ps within length ps * largest
  unfolding sum_at
  sum-within [] = omega arith
  sum-within (p ∷ ps) = w≤ (w+ (y.at p) (sum-within ps)) (omega arith)

-- ---- as the code sums for a mean: the value, counted by its weight, and the neighbours
module _ {own count : ℕ} {value sum : ℤ} (l : own < full_weight) (v : value within largest) (s : sum within count * largest) (m : count ≤ 4) where
  pub total_read : Reads (held (to_z w64 own *ℤ held value) +ℤ held (pos full_weight *ℤ held sum)) (pos own *ℤ value +ℤ pos full_weight *ℤ sum)
      (full_weight * largest + full_weight * (4 * largest))
  total_read = i+ (i_kept (i* (i_cast {n = own} {B = full_weight} (omega arith) tt) (i_in v tt)) tt)
      (i_kept (i* (i_lit full_weight) (i_in {B = 4 * largest} (w≤ s (omega arith)) tt)) tt)

  -- no larger than the largest value, counted as often as they are
  pub total-within : (pos own *ℤ value +ℤ pos full_weight *ℤ sum) within (own * largest + full_weight * (count * largest))
  total-within = w+ (w* (w_lit own) v) (w* (w_lit full_weight) s)

-- ---- the value of a place
module _ (period : ℕ) (w : List ℕ) (x : List ℤ) (t : ℕ) where
  pub full-stays : full_weight ≤ get_or w t 0 → x ‼ t ≡ replaced_at period w x t
  unfolding replaced_at is_replaced
  full-stays h = simp (le-ltb (get_or w t 0) full_weight h)

  module _ {s : ℤ} {count : ℕ} (g : SumAndCountOf x (neighbours period w t) s count) where
    pub alone_stays : count ≡ 0 → x ‼ t ≡ replaced_at period w x t
    unfolding replaced_at is_replaced
    alone_stays k = let n : length (neighbours period w t) ≤ 0 = omega (arith, g.count_is) in
        simp (le-ltb 0 (length (neighbours period w t)) n, and_false (ltb (get_or w t 0) full_weight))
      where
        and_false : (a : Bool) → a && false ≡ false
        and_false true = refl
        and_false false = refl

    pub count_most : count ≤ 4
    count_most = omega (arith, g.count_is, neighbours-most period w t)

    pub summed-within : AllWithin largest x → s within count * largest
    summed-within y = rw (g.sum_is, g.count_is) (sum-within y (neighbours period w t))

    pub mean_is : get_or w t 0 < full_weight → 0 < count → to_grain (pos (get_or w t 0) *ℤ (x ‼ t) +ℤ pos full_weight *ℤ s) (get_or w t 0 + full_weight * count) ≡ replaced_at period w x t
    unfolding replaced_at is_replaced counted_sum counted
    mean_is h k = let n : 0 < length (neighbours period w t) = omega (arith, g.count_is) in
        simp (lt-ltb (get_or w t 0) full_weight h, lt-ltb 0 (length (neighbours period w t)) n)
        (ap₂ to_grain (ap (λ (z : ℤ). pos (get_or w t 0) *ℤ (x ‼ t) +ℤ pos full_weight *ℤ z) g.sum_is) (ap (λ (c : ℕ). get_or w t 0 + full_weight * c) g.count_is))
