-- The definitions give the neighbours and the means of METHOD 3.9, by computation.
use mathlib.Core.Path.{refl}
use Rattle.integers.specs.Lists.{tab_from, tab}
use Rattle.integers.specs.Rounding.{half_to_even, to_grain}
use Rattle.replacing.specs.Neighbours.{of_full_weight, nearest, run_before, run_after, full_before, full_after, neighbours}
use Rattle.replacing.specs.Replaced.{sum_at, is_replaced, counted_sum, counted, replaced_at, replaced_by}
use Rattle.replacing.specs.Examples.{januaries, neighbours_in, third_replaced, WorkedExamples}

pub worked_examples : WorkedExamples
unfolding tab_from tab half_to_even to_grain of_full_weight nearest run_before run_after full_before full_after neighbours sum_at is_replaced counted_sum counted replaced_at replaced_by januaries neighbours_in third_replaced
worked_examples = record {
  two_on_each_side = refl;
  three_nearest = refl;
  equally_near = refl;
  all_there_are = refl;
  weight_0 = refl;
  weight_500 = refl;
  weight_999 = refl;
  weight_1000 = refl;
  on_a_half = refl;
  no_neighbours = refl;
  none_at_500 = refl;
}
