-- METHOD 1.1, 1.2, 1.5 and 7.5: the unit and the limits, each under one name.
use Rattle.std.specs.Prelude.{ℕ}

-- METHOD 1.2: the grains of a unit
abbrev pub unit : ℕ
unit = 1000

-- METHOD 1.1: n, the months of a series, is 72 to 600
abbrev pub least_months : ℕ
least_months = 72

abbrev pub most_months : ℕ
most_months = 600

-- METHOD 1.1: the start month is 1 to 12; also the months of a year, and the period of a desk file (7.1)
abbrev pub months_of_year : ℕ
months_of_year = 12

-- METHOD 1.1: a figure, in whole units, is -200,000 to 200,000
abbrev pub largest_figure : ℕ
largest_figure = 200_000

-- METHOD 1.5: the weight of a month whose irregular stays whole, in thousandths
abbrev pub full_weight : ℕ
full_weight = 1000

-- METHOD 7.5: the years of a series are 1 to 9999
abbrev pub earliest_year : ℕ
earliest_year = 1

abbrev pub latest_year : ℕ
latest_year = 9999
