-- A part of a slice, lent to a call and handed back.
use Prim.Native.Nat.{ℕ, ◌+◌, ◌-◌, ◌≤◌, ◌<◌}
use mathlib.Core.Path.{◌≡◌, ap, ◌∙◌}
use mathlib.Core.Logic.{◌⊎◌, inl, inr}
use mathlib.Core.List.{List, ◌++◌}
use native.Mathlib.Omega.{arith}
use lib.ListN.{length, get_or, take, drop, length-append, length-drop, get_or-append}
use lib.Seq.{length-take-le, take_at, drop_at, get_or-append-add, get_or-take, get_or-drop}
use Rattle.integers.specs.Filling.{Filled}

-- the places from lo to below hi of xs are lent
module _ {A : Type 0} (lo hi : ℕ) (xs : List A) (order : lo ≤ hi) (inside : hi ≤ length xs) where
  pub part_long : length (take (hi - lo) (drop lo xs)) ≡ hi - lo
  part_long = length-take-le (hi - lo) (drop lo xs) (simp length-drop (omega arith))

  front : length (take lo xs) ≡ lo
  front = length-take-le lo xs (omega arith)

  -- to a call that leaves ys there
  module _ (ys : List A) (e : length ys ≡ length (take (hi - lo) (drop lo xs))) where
    pub part_kept : length (take lo xs ++ (ys ++ drop (hi - lo) (drop lo xs))) ≡ length xs
    part_kept = simp (length-append, length-drop) (omega (arith, front, e, part_long))

    pub part_back : take (hi - lo) (drop lo (take lo xs ++ (ys ++ drop (hi - lo) (drop lo xs)))) ≡ ys
    part_back = ap (take (hi - lo)) (drop_at (take lo xs) _ lo front) ∙ take_at ys _ (hi - lo) (e ∙ part_long)

    pub part_filled : (d : A) → Filled d (λ t. get_or ys (t - lo) d) lo hi xs (take lo xs ++ (ys ++ drop (hi - lo) (drop lo xs)))
    part_filled d = record { long = part_kept; here = here; rest = rest }
      where
        tail : List A
        tail = ys ++ drop (hi - lo) (drop lo xs)

        -- what stands from place lo on
        after : (k : ℕ) → lo ≤ k → get_or (take lo xs ++ tail) k d ≡ get_or tail (k - lo) d
        after k l = let i : k ≡ length (take lo xs) + (k - lo) = omega (arith, front) in ap (λ (j : ℕ). get_or (take lo xs ++ tail) j d) i ∙ get_or-append-add (take lo xs) tail (k - lo) d

        here : (k : ℕ) → lo ≤ k → k < hi → get_or (take lo xs ++ tail) k d ≡ get_or ys (k - lo) d
        here k l m = after k l ∙ get_or-append ys _ d (k - lo) (omega (arith, e, part_long))

        rest : (k : ℕ) → (k < lo) ⊎ (hi ≤ k) → get_or (take lo xs ++ tail) k d ≡ get_or xs k d
        rest k (inl l) = get_or-append (take lo xs) tail d k (omega (arith, front)) ∙ get_or-take lo xs k d l
        rest k (inr l) =
            let i : k - lo ≡ length ys + (k - hi) = omega (arith, e, part_long) in
            let j : lo + (hi - lo + (k - hi)) ≡ k = omega arith in
            after k (omega arith) ∙ ap (λ (n : ℕ). get_or tail n d) i ∙ get_or-append-add ys _ (k - hi) d ∙ get_or-drop (hi - lo) (drop lo xs) (k - hi) d ∙ get_or-drop lo xs _ d ∙ ap (λ (n : ℕ). get_or xs n d) j
