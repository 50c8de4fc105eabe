-- Lists by place: places count from 0.
use Rattle.std.specs.Prelude.{List, [], ◌∷◌, ℕ, zero, suc, get_or, ℤ, pos}
use Rattle.integers.specs.Sizes.{◌within◌}

infixl 80 ◌‼◌
-- the number at a place, and 0 past the end
abbrev pub ◌‼◌ : List ℤ → ℕ → ℤ
xs ‼ t = get_or xs t (pos 0)

-- f lo, f (lo + 1), .., n of them
unfoldable pub tab_from : {A : Type 0} → ℕ → ℕ → (ℕ → A) → List A
tab_from lo zero f = []
tab_from lo (suc n) f = f lo ∷ tab_from (suc lo) n f

-- f 0, f 1, .., f (n - 1)
unfoldable pub tab : {A : Type 0} → ℕ → (ℕ → A) → List A
tab n f = tab_from 0 n f

-- no number of the list is larger than b in size
pub record AllWithin (b : ℕ) (xs : List ℤ) : Type 0 where
  pub at : (t : ℕ) → (xs ‼ t) within b
