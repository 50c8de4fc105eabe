-- METHOD 1.1, 1.5 and 7.5: what lies inside its limits.
use Rattle.std.specs.Prelude.{ℕ, ◌+◌, ◌-◌, ◌/◌, Bool, ◌&&◌, leb, ℤ, nat_abs}
use Rattle.refusals.specs.Limits.{months_of_year, largest_figure, full_weight, earliest_year, latest_year}

-- start month: 1 to 12
unfoldable pub start_inside : ℕ → Bool
start_inside start = leb 1 start && leb start months_of_year

-- figure: -200,000 to 200,000
unfoldable pub figure_inside : ℤ → Bool
figure_inside figure = leb (nat_abs figure) largest_figure

-- weight: 0 to 1,000
unfoldable pub weight_inside : ℕ → Bool
weight_inside weight = leb weight full_weight

-- METHOD 7.5: the year of the last of n months that begin with the start month of the first year
unfoldable pub last_year : ℕ → ℕ → ℕ → ℕ
last_year first_year start n = first_year + (start - 1 + n - 1) / months_of_year

-- year: 1 to 9999
unfoldable pub year_inside : ℕ → Bool
year_inside year = leb earliest_year year && leb year latest_year

-- both the first year and the year of the last month
unfoldable pub years_inside : ℕ → ℕ → ℕ → Bool
years_inside first_year start n = year_inside first_year && year_inside (last_year first_year start n)
