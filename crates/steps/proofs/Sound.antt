-- What the laws of a pass ask of its choices.
use mathlib.Core.Path.{◌≡◌, refl}
use Prim.Native.Nat.{ℕ, ◌≤◌, ◌<◌}
use native.Mathlib.Omega.{arith}
use Rattle.filters.specs.Filter.{reach}
use Rattle.rows.specs.declared.SeasonalFilter.{SeasonalFilter}
use Rattle.rows.specs.declared.SeasonalFilter.TheVariants.{ThreeByThree}
use Rattle.rows.specs.FilterTables.{table2x12}
use Rattle.filters.proofs.Light.{Light, light2x12, light_seasonal, light_thirteen}
use Rattle.steps.specs.Choices.{MovingAverage, Replacing, none, Choices, monthly, plain_monthly}

-- the sizes of the weights of each row sum to at most N thousandths
abbrev pub Norm : ℕ → MovingAverage → Type 0
Norm N f = Light f.over N f.table

pub record Sound (c : Choices) : Type 0 where
  -- non-negative weights that sum to one, and Henderson's of 13 terms
  pub yearly_norm : Norm 1000 c.yearly
  pub seasonal1_norm : Norm 1000 c.seasonal1
  pub trend_norm : Norm 1300 c.trend
  pub seasonal2_norm : Norm 1000 c.seasonal2
  -- the denominators of their exact working are not 0
  pub yearly_over : 0 < c.yearly.over
  pub seasonal1_over : 0 < c.seasonal1.over
  pub trend_over : 0 < c.trend.over
  pub seasonal2_over : 0 < c.seasonal2.over
  -- half a year is two quarters or more; the yearly average stands where half a year lies on each side
  pub year_least : 2 ≤ c.half_year
  pub reach_is : reach c.yearly.table ≡ c.half_year

-- the choices of every pass are sound, whatever is replaced and whichever filter step 6 takes
pub monthly-sound : (f : SeasonalFilter) (r s : Replacing) → Sound (monthly f r s)
unfolding reach table2x12
monthly-sound f r s = record {
  yearly_norm = light2x12;
  seasonal1_norm = light_seasonal ThreeByThree;
  trend_norm = light_thirteen;
  seasonal2_norm = light_seasonal f;
  yearly_over = omega arith;
  seasonal1_over = omega arith;
  trend_over = omega arith;
  seasonal2_over = omega arith;
  year_least = omega arith;
  reach_is = refl;
}

pub plain_sound : Sound plain_monthly
plain_sound = monthly-sound _ none none
