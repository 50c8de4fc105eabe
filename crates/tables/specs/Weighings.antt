-- METHOD 5.8, of the four irregulars that are weighed: in no group is every month dropped; METHOD 1.5, of B17 and C17: no weight is above 1,000 (shown in
-- proofs/Weighings.antt).
use Rattle.std.specs.Prelude.{ℕ, ◌+◌, ◌≤◌, ◌≡◌, List, length, get_or, ℤ}
use Rattle.refusals.specs.Limits.{least_months, months_of_year, full_weight}
use Rattle.extremes.specs.Years.{year_of}
use Rattle.extremes.specs.NoGroupEmptied.{NoneEmptied}
use Rattle.tables.specs.PassB.{start_b4, irregular_b4, irregular_b9}
use Rattle.tables.specs.Tables.{B1, B13, B17, C13, C17}

-- METHOD 5.8, of what is weighed: what the preliminary seasonals of pass B leave of SI1, over n - 12 months from the calendar month of t = 6, and of
-- SI2, over n months (3.8; the book's tables B4 and B9); B13 and C13, over n months
pub record FourWeighings (start : ℕ) (figures : List ℤ) : Type 0 where
  -- the years of SI1 are those of the series, from the year of t = 6 on
  pub si1_years : (t : ℕ) → year_of start months_of_year (6 + t) ≡ year_of start months_of_year 6 + year_of (start_b4 start) months_of_year t
  pub si1 : NoneEmptied (start_b4 start) months_of_year (irregular_b4 (B1 start figures))
  pub si2 : NoneEmptied start months_of_year (irregular_b9 start (B1 start figures))
  pub b13 : NoneEmptied start months_of_year (B13 start figures)
  pub c13 : NoneEmptied start months_of_year (C13 start figures)

-- METHOD 5.8: for every start month, and 72 figures or more, whatever these are
abbrev pub NoWeighingEmpties : Type 0
NoWeighingEmpties = (start : ℕ) (figures : List ℤ) → 1 ≤ start → start ≤ months_of_year → least_months ≤ length figures → FourWeighings start figures

-- METHOD 1.5: weights of n months, one for each, and none above 1,000
pub record WeightsOfMonths (n : ℕ) (weights : List ℕ) : Type 0 where
  pub long : length weights ≡ n
  pub most : (t : ℕ) → get_or weights t 0 ≤ full_weight

-- METHOD 1.5, 4.1 and 4.2: such are B17 and C17, for every start month and any figures
pub record WeightsOfTables (start : ℕ) (figures : List ℤ) : Type 0 where
  pub b17 : WeightsOfMonths (length figures) (B17 start figures)
  pub c17 : WeightsOfMonths (length figures) (C17 start figures)

abbrev pub NoWeightAboveFull : Type 0
NoWeightAboveFull = (start : ℕ) (figures : List ℤ) → WeightsOfTables start figures
