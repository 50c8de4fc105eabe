-- METHOD 8.1, 8.3 and 8.4, the examples of decomposing, by computation.
use mathlib.Core.Path.{refl}
use Rattle.integers.specs.Lists.{tab_from, tab}
use Rattle.refusals.specs.Inside.{start_inside, figure_inside}
use Rattle.refusals.specs.First.{first_from, first_failing, first_outside}
use Rattle.checks.specs.Answer.{fitting, answer_for}
use Rattle.checks.specs.Examples.{RowFour, FirstRows}

pub row-four : RowFour
unfolding fitting
row-four = record { enough = refl; too_few = refl; more = refl; enough_600 = refl; too_few_600 = refl; short_table = refl; long_table = refl }

pub first_rows : FirstRows
unfolding tab_from tab start_inside figure_inside first_from first_failing first_outside fitting answer_for
first_rows = record { too_few = refl; too_many = refl; month_13 = refl; d10_of_71 = refl; figure_at_0 = refl; figure_at_44 = refl; one_first = refl; two_before_three = refl; three_before_four = refl; four_before_five = refl; fewest = refl; most = refl }
