-- METHOD 7.12 and 7.13: the series that an accepted members' sheet means, and its total revision, as an exact whole number and as it is summed in doubles.
use Rattle.std.specs.Prelude.{ℕ, zero, suc, ◌*◌, ◌≤◌, ◌<◌, ◌≡◌, List, ℤ, nat_abs, Float}
use Rattle.integers.specs.Lists.{tab}
use Rattle.integers.specs.Sums.{sum_z}
use Rattle.refusals.specs.Limits.{most_months, largest_figure}
use Rattle.desk_forms.specs.Header.{count_in}
use Rattle.doubles.specs.Doubles.{number_in, IsNumber, double_of, positive_zero}
use Rattle.sheet_cells.specs.Cells.{cell_at, newest, revision, difference, revised_by}

-- METHOD 7.12: the series, in units: the figure of each month, the new one where there is a revision
unfoldable pub figures_in : List ℕ → List ℤ
figures_in sheet = tab (count_in sheet) (λ t. number_in (newest (cell_at sheet t)))

-- METHOD 7.13: the exact sum over the first k months, and over all
unfoldable pub revision_of_first : List ℕ → ℕ → ℤ
revision_of_first sheet k = sum_z k (λ t. revision (cell_at sheet t))

unfoldable pub total_revision : List ℕ → ℤ
total_revision sheet = revision_of_first sheet (count_in sheet)

-- METHOD 7.13: the sum over the first k months, in order of t, from positive zero
unfoldable pub summed : List ℕ → ℕ → Float
summed sheet zero = positive_zero
summed sheet (suc t) = revised_by (summed sheet t) (cell_at sheet t)

-- METHOD 7.13: the step at month t loses nothing. The difference in doubles is exactly new less old; the sum after it is the double of the exact sum, and
-- exactly that sum. Sizes: at most 2 * 200,000, and 600 times that
pub record StepExact (sheet : List ℕ) (t : ℕ) : Type 0 where
  pub difference_size : nat_abs (revision (cell_at sheet t)) ≤ 2 * largest_figure
  pub difference_exact : IsNumber (difference (cell_at sheet t)) (revision (cell_at sheet t))
  pub sum_size : nat_abs (revision_of_first sheet (suc t)) ≤ most_months * (2 * largest_figure)
  pub sum_double : summed sheet (suc t) ≡ double_of (revision_of_first sheet (suc t))
  pub sum_exact : IsNumber (summed sheet (suc t)) (revision_of_first sheet (suc t))

-- METHOD 7.13: the total of an accepted sheet: it is what is summed in doubles, it is exactly the total revision, and no step lost anything
pub record TotalExact (sheet : List ℕ) (total : Float) : Type 0 where
  pub in_doubles : total ≡ summed sheet (count_in sheet)
  pub exact : IsNumber total (total_revision sheet)
  pub steps : (t : ℕ) → t < count_in sheet → StepExact sheet t
