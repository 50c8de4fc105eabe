-- METHOD 5.8: the one theorem on groups, cited for each irregular that is weighed; METHOD 1.5: the one on weights, for B17 and C17.
use mathlib.Core.Path.{◌∙◌}
use native.Mathlib.Omega.{arith}
use Rattle.refusals.specs.Limits.{months_of_year}
use Rattle.extremes.proofs.YearLaws.{month-inside}
use Rattle.extremes.proofs.GroupMonths.{same-years}
use Rattle.extremes.proofs.NoGroupEmptied.{no-group-emptied}
use Rattle.extremes.proofs.WeighingLaws.{length-weights, weights-most}
use Rattle.tables.specs.PassB.{start_b4, irregular_b4, irregular_b9}
use Rattle.tables.specs.Tables.{B1, B13, B17, C13, C17}
use Rattle.tables.specs.Weighings.{NoWeighingEmpties, NoWeightAboveFull}
use Rattle.tables.proofs.Sizes.{length-b1, length-irregular_b4, length-irregular_b9, length-b13, length-c13}

pub no_weighing_empties : NoWeighingEmpties
no_weighing_empties start f early late least = let month = month-inside start months_of_year 6 early late in record {
  si1_years = (same-years early late).from 6;
  si1 = no-group-emptied (start_b4 start) months_of_year (irregular_b4 (B1 start f)) month.0 month.1 (omega (arith, length-irregular_b4 (B1 start f), length-b1 start f));
  si2 = no-group-emptied start months_of_year (irregular_b9 start (B1 start f)) early late (omega (arith, length-irregular_b9 start (B1 start f), length-b1 start f));
  b13 = no-group-emptied start months_of_year (B13 start f) early late (omega (arith, length-b13 start f));
  c13 = no-group-emptied start months_of_year (C13 start f) early late (omega (arith, length-c13 start f));
}

pub no-weight-above-full : NoWeightAboveFull
unfolding B17 C17
no-weight-above-full start f = record {
  b17 = record { long = length-weights start months_of_year (B13 start f) ∙ length-b13 start f; most = weights-most start months_of_year (B13 start f) };
  c17 = record { long = length-weights start months_of_year (C13 start f) ∙ length-c13 start f; most = weights-most start months_of_year (C13 start f) };
}
