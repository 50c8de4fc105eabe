-- The sum of changes: split, without the last months, and as the code works it.
use mathlib.Core.Path.{◌≡◌, refl, sym, ap, ap₂, ◌∙◌}
use mathlib.Core.List.{List, [], ◌∷◌}
use Prim.Native.Nat.{ℕ, zero, suc, ◌+◌, ◌*◌, ◌-◌, ◌≤◌, ◌<◌}
use native.Mathlib.Nat.{le_trans}
use native.Mathlib.Omega.{arith}
use lib.ListN.{length, take, drop}
use lib.Seq.{get_or-take, get_or-drop}
use lib.IntN.{ℤ, pos, nat_abs, ◌-ℤ◌}
use Rattle.std.specs.List.{zip}
use Rattle.std.proofs.lemmas.List.Sums.{sum_by-cons}
use Rattle.integers.proofs.SizeLaws.{w-}
use Rattle.integers.proofs.SumLaws.{sum_n-split, sum_n-same, sum_n-front, sum_n-most}
use Rattle.integers.proofs.Parts.{part_long}
use Rattle.integers.specs.Lists.{◌‼◌}
use Rattle.integers.specs.Sums.{sum_n}
use Rattle.series.specs.Operations.{change_into, changes}
use Rattle.series.specs.Promises.{widest, most_change, distance, Changing}

module _ (x : List ℤ) (span first : ℕ) where
  -- m months and k more
  pub changes-split : (m k : ℕ) → changes x span first (m + k) ≡ changes x span first m + changes x span (first + m) k
  unfolding changes
  changes-split m k = sum_n-split m k (λ i. change_into x span (first + i)) ∙ ap (λ (n : ℕ). sum_n m (λ i. change_into x span (first + i)) + n)
      (sum_n-same k _ _ (λ i l. ap (change_into x span) (omega arith)))

  -- the first m months of a series are enough for the changes into them
  pub changes-front : (m count : ℕ) → first + count ≤ m → changes (take m x) span first count ≡ changes x span first count
  unfolding changes
  changes-front m count h = sum_n-same count _ _ (λ i l. same (first + i) (omega arith))
    where
      same : (t : ℕ) → t < m → change_into (take m x) span t ≡ change_into x span t
      same t l = rw (get_or-take m x t (pos 0) l, get_or-take m x (t - span) (pos 0) (omega arith)) refl

-- ---- as the code sums them: the months from `first` on, and those a span before them, as two lists
paired : (n : ℕ) (xs ys : List ℤ) → length xs ≡ n → length ys ≡ n → distance xs ys ≡ sum_n n (λ i. nat_abs ((xs ‼ i) -ℤ (ys ‼ i)))
unfolding sum_n
paired zero [] ys e f = refl
paired zero (x ∷ xs) ys e f = absurd (omega arith)
paired (suc n) [] ys e f = absurd (omega arith)
paired (suc n) (x ∷ xs) [] e f = absurd (omega arith)
paired (suc n) (x ∷ xs) (y ∷ ys) e f = sum_by-cons (λ (p : ℤ × ℤ). nat_abs (p.0 -ℤ p.1)) (x, y) (zip xs ys)
    ∙ ap (λ (m : ℕ). nat_abs (x -ℤ y) + m) (paired n xs ys (omega arith) (omega arith)) ∙ sym (sum_n-front n (λ i. nat_abs (((x ∷ xs) ‼ i) -ℤ ((y ∷ ys) ‼ i))))

-- the numbers of a part of a list
part_at : (x : List ℤ) (n from i : ℕ) → i < n → take n (drop from x) ‼ i ≡ x ‼ (from + i)
part_at x n from i l = get_or-take n (drop from x) i (pos 0) l ∙ get_or-drop from x i (pos 0)

module _ {x : List ℤ} {span first hi : ℕ} (h : Changing x span first hi) where
  pub distance-changes : distance (take (hi - first) (drop first x)) (take (hi - span - (first - span)) (drop (first - span) x)) ≡ changes x span first (hi - first)
  unfolding changes
  distance-changes =
      let m : hi - span - (first - span) ≡ hi - first = omega (arith, h.back, h.order) in
      let long = part_long (first - span) (hi - span) x (omega (arith, h.order)) (omega (arith, h.inside)) in
      paired (hi - first) _ _ (part_long first hi x h.order h.inside) (long ∙ m) ∙ sum_n-same (hi - first) _ _ (λ i l. ap₂ (λ (u v : ℤ). nat_abs (u -ℤ v)) (part_at x (hi - first) first i l)
      (part_at x (hi - span - (first - span)) (first - span) i (omega arith) ∙ ap (λ (t : ℕ). x ‼ t) (omega (arith, h.back))))

  pub changes-most : changes x span first (hi - first) ≤ most_change
  unfolding changes
  changes-most = le_trans (sum_n-most (hi - first) (2 * widest) (λ i. change_into x span (first + i)) (λ i l. (w- (h.small.at (first + i)) (h.small.at (first + i - span))).abs))
      (omega (arith, h.inside, h.short))
