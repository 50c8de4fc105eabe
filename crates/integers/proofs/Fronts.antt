-- The front of a slice, lent to a call and handed back.
use Prim.Native.Nat.{ℕ, ◌+◌, ◌-◌, ◌≤◌}
use mathlib.Core.Path.{◌≡◌, sym, ap, ◌∙◌}
use mathlib.Core.List.{List, ◌++◌}
use native.Mathlib.Omega.{arith}
use lib.ListN.{length, take, drop}
use lib.Seq.{length-take-le, take_at, length_front, drop-append-add, drop-drop}

-- k elements of l are lent, to a call that leaves m there
module _ {A : Type 0} (k : ℕ) (l : List A) (h : k ≤ length l) where
  pub front_long : k ≡ length (take k l)
  front_long = sym (length-take-le k l h)

  pub front_back : (m : List A) → length m ≡ length (take k l) → take k (m ++ drop k l) ≡ m
  front_back m e = take_at m (drop k l) k (e ∙ length-take-le k l h)

  pub front_kept : (m : List A) → length m ≡ length (take k l) → length (m ++ drop k l) ≡ length l
  front_kept m e = length_front l m k e

  -- what stands after the first n, of which the k are some
  pub front_rest : (m : List A) → length m ≡ length (take k l) → (n : ℕ) → k ≤ n → drop n (m ++ drop k l) ≡ drop n l
  front_rest m e n g =
      let i : n ≡ length m + (n - k) = omega (arith, length-take-le k l h) in
      let j : k + (n - k) ≡ n = omega arith in
      ap (λ (d : ℕ). drop d (m ++ drop k l)) i ∙ drop-append-add m (drop k l) (n - k) ∙ drop-drop (n - k) k l ∙ ap (λ (d : ℕ). drop d l) j
