-- METHOD 8.1, the refusal sheet: the number and the place of each row. The promises of the entry points say `refusal number place`;
-- what the program answers is turned into that by `refusal_of`.
use Rattle.std.specs.Prelude.{ℕ, ◌≡◌}
use Rattle.refusals.specs.declared.Refusal.{Refusal}
use Rattle.refusals.specs.declared.Refusal.TheVariants.{TooShort, TooLong, BadStart, WrongLength, FigureOutside, NoHeader, BadPeriod, BadFileLength, WeightAbove, BadYears, MalformedCell, Gap, BadDouble}

pub record Row : Type 0 where
  pub number : ℕ
  pub place : ℕ

abbrev pub numbered : ℕ → ℕ → Row
numbered k t = record { number = k; place = t }

-- METHOD 8.1: each refusal's number and place; a row without a place says 0
abbrev pub row : Refusal → Row
-- n is below 72; n is above 600; the start month is not 1 to 12; a lent slice does not have the length that it must have
row TooShort = numbered 1 0
row TooLong = numbered 2 0
row BadStart = numbered 3 0
row WrongLength = numbered 4 0
-- a figure is outside its limits, the first of them at t
row (FigureOutside t) = numbered 5 t
-- 6 is retired: no refusal has it (UnusedNumbers)
-- a file has fewer than 4 bytes, by calendar month fewer than 6; a members' sheet fewer than 3
row NoHeader = numbered 7 0
-- a file's period is not 12
row BadPeriod = numbered 8 0
-- a file's length is not 4 + 6n bytes, by calendar month 6 + 6n; that of a members' sheet not 3 + 17n
row BadFileLength = numbered 9 0
-- a weight is above 1,000, the first of them at t
row (WeightAbove t) = numbered 10 t
-- the first year or the year of the last month is not 1 to 9999
row BadYears = numbered 11 0
-- the first bad cell of a members' sheet is at t: its kind is unknown or an unused double of it has a byte that is not zero; else it is a gap; else a
-- double of it does not count
row (MalformedCell t) = numbered 12 t
row (Gap t) = numbered 13 t
row (BadDouble t) = numbered 14 t

-- METHOD 8.1: no refusal has this number
pub record NoRefusalHas (number : ℕ) : Type 0 where
  pub none : (r : Refusal) → (row r).number ≡ number → ⊥

-- METHOD 8.1: 6 is retired; 8.5: 0 tells callers in other languages of a success (shown in proofs/RowNumbers.antt)
pub record UnusedNumbers : Type 0 where
  pub six : NoRefusalHas 6
  pub zero : NoRefusalHas 0

-- an answer as METHOD 8 has it: a success with its values, or a refusal's number and place
pub data Answer (A : Type 0) : Type 0 where
  success : A → Answer A
  refusal : (number place : ℕ) → Answer A

-- a refusal of the program, as the sheet's row has it
abbrev pub refusal_of : {A : Type 0} → Refusal → Answer A
refusal_of r = refusal (row r).number (row r).place
