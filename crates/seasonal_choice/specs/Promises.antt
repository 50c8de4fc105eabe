-- What the choice of a seasonal filter asks of its arguments. Nothing here is promised to a caller of the desk.
use Rattle.std.specs.Prelude.{◌≡◌, List, ℕ, ◌+◌, ◌*◌, ◌≤◌, length, ℤ}
use Rattle.integers.specs.Lists.{AllWithin}
use Rattle.refusals.specs.Limits.{most_months}
use Rattle.series.specs.Promises.{widest, most_change}
use Rattle.seasonal_choice.specs.SeasonalChoice.{year_changes}

-- two tables whose changes over a year are summed
pub record Changeable (irregular seasonal : List ℤ) : Type 0 where
  pub short : length irregular ≤ most_months
  pub same : length seasonal ≡ length irregular
  pub irregular_small : AllWithin widest irregular
  pub seasonal_small : AllWithin widest seasonal

-- of six years of p months at least, one for each question
pub record Choosable (p : ℕ) (irregular seasonal : List ℤ) : Type 0 where
  pub both : Changeable irregular seasonal
  pub long : p * 6 ≤ length irregular

-- the months kept of both, with their sums: enough for so many questions more
pub record MonthsKept (p : ℕ) (irregular seasonal : List ℤ) (i s tries : ℕ) : Type 0 where
  pub both : Changeable irregular seasonal
  pub long : p * (tries + 1) ≤ length irregular
  pub i_is : i ≡ year_changes p irregular
  pub s_is : s ≡ year_changes p seasonal
  pub i_most : i ≤ most_change
  pub s_most : s ≤ most_change
