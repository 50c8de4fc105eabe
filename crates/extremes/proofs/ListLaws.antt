-- Laws of lists: a function over a list made place by place, natural numbers held as signed ones, and lists with no number above a bound.
use Prim.Native.Nat.{ℕ, zero, suc, ◌≤◌}
use mathlib.Core.Path.{◌≡◌, refl, ap, ◌∙◌}
use mathlib.Core.List.{List, [], ◌∷◌, map, map-map, map-id}
use native.Mathlib.Omega.{arith}
use lib.ListN.{get_or, take, drop}
use lib.Seq.{get_or-drop}
use lib.IntN.{pos, nat_abs}
use Rattle.integers.specs.Lists.{tab_from, tab}
use Rattle.extremes.specs.Promises.{AllBelow}

-- a list made place by place, each value put through f
module _ {A : Type 0} {B : Type 0} (f : A → B) where
  map-tab_from : (lo n : ℕ) (g : ℕ → A) → map f (tab_from lo n g) ≡ tab_from lo n (λ t. f (g t))
  unfolding tab_from
  map-tab_from lo zero g = refl
  map-tab_from lo (suc n) g = ap (λ (r : List B). f (g lo) ∷ r) (map-tab_from (suc lo) n g)

  pub map-tab : (n : ℕ) (g : ℕ → A) → map f (tab n g) ≡ tab n (λ t. f (g t))
  unfolding tab
  map-tab n g = map-tab_from 0 n g

-- natural numbers held as signed ones, read back
pub read_back : (l : List ℕ) → map nat_abs (map pos l) ≡ l
read_back l = map-map nat_abs pos l ∙ map-id l

-- ---- no number of the list is above b
module _ {b : ℕ} where
  pub below_tail : {a : ℕ} {l : List ℕ} → AllBelow b (a ∷ l) → AllBelow b l
  below_tail h = record { at = λ t. h.at (suc t) }

  pub below_cons : {a : ℕ} {l : List ℕ} → a ≤ b → AllBelow b l → AllBelow b (a ∷ l)
  below_cons {a} {l} h k = record { at = go }
    where
      go : (t : ℕ) → get_or (a ∷ l) t 0 ≤ b
      go zero = h
      go (suc t) = k.at t

  at_take : (n : ℕ) (l : List ℕ) → AllBelow b l → (t : ℕ) → get_or (take n l) t 0 ≤ b
  at_take zero l h t = omega arith
  at_take (suc n) [] h t = omega arith
  at_take (suc n) (a ∷ l) h zero = h.at 0
  at_take (suc n) (a ∷ l) h (suc t) = at_take n l (below_tail h) t

  pub below_slice : (lo hi : ℕ) {l : List ℕ} → AllBelow b l → AllBelow b (drop lo (take hi l))
  below_slice lo hi {l} h = record { at = λ t. rw get_or-drop (at_take hi l h _) }
