-- METHOD 8.1 and 8.5: numbers that no refusal has.
use Prim.Native.Nat.{ℕ}
use mathlib.Core.Path.{◌≡◌, refl, sym, ap, ◌∙◌}
use mathlib.Core.Bool.{Bool, true, false, not, ◌||◌}
use native.Mathlib.Omega.{arith}
use lib.Dec.{eqb}
use Rattle.refusals.specs.declared.Refusal.{Refusal}
use Rattle.refusals.specs.declared.Refusal.TheVariants.{TooShort, TooLong, BadStart, WrongLength, FigureOutside, NoHeader, BadPeriod, BadFileLength, WeightAbove, BadYears, MalformedCell, Gap, BadDouble}
use Rattle.refusals.specs.Sheet.{row, NoRefusalHas, UnusedNumbers}

-- neither 0 nor 6
abbrev used : ℕ → Bool
used k = not (eqb k 0 || eqb k 6)

row-used : (r : Refusal) → used (row r).number ≡ true
row-used TooShort = refl
row-used TooLong = refl
row-used BadStart = refl
row-used WrongLength = refl
row-used (FigureOutside t) = refl
row-used NoHeader = refl
row-used BadPeriod = refl
row-used BadFileLength = refl
row-used (WeightAbove t) = refl
row-used BadYears = refl
row-used (MalformedCell t) = refl
row-used (Gap t) = refl
row-used (BadDouble t) = refl

unused : (k : ℕ) → used k ≡ false → NoRefusalHas k
unused k e = record { none = λ r h. let b : true ≡ false = sym (row-used r) ∙ ap used h ∙ e in let z : ◌≡◌ {A = ℕ} 0 1 = cc in omega arith }

pub unused_numbers : UnusedNumbers
unused_numbers = record { six = unused 6 refl; zero = unused 0 refl }
