-- METHOD 3 by month: T1, SI1, R1 and M1 have the months from 6 to n - 7, and no others. As lists (Steps) their place 0 is month 6; a slice of n
-- entries has each of their months at its own place t. Here is what steps 1 to 4 say by t, half a year being 6 months; the tables of steps 5 to 7 have
-- all n months, so that their places are the months already.
use Rattle.std.specs.Prelude.{◌≡◌, List, ℕ, ◌+◌, ◌*◌, ◌-◌, ◌≤◌, ◌<◌, length, ℤ, ◌-ℤ◌}
use Rattle.integers.specs.Lists.{◌‼◌}
use Rattle.filters.specs.Filter.{value_at, reach}
use Rattle.steps.specs.Choices.{Choices}
use Rattle.steps.specs.Places.{inner, at_month, nearest_month}
use Rattle.steps.specs.Steps.{T1, SI1, filtered_si1, R1, M1, S1}

-- t is one of the months from 6 to n - 7
pub record InnerMonth (h n t : ℕ) : Type 0 where
  pub not_before : h ≤ t
  pub not_after : t < n - h

-- a slice of n entries whose months from 6 to n - 7 are those of the table; the six entries at each end may be anything
pub record Stands (h n : ℕ) (table slice : List ℤ) : Type 0 where
  pub long : length slice ≡ n
  pub months : inner h slice ≡ table

module _ (c : Choices) (x : List ℤ) where
  pub record ByMonth : Type 0 where
    -- METHOD 3.1 and 3.2
    pub t1 : (t : ℕ) → InnerMonth c.half_year (length x) t → at_month c.half_year (T1 c x) t ≡ value_at c.yearly.table 0 (length x) x t
    pub si1 : (t : ℕ) → InnerMonth c.half_year (length x) t → at_month c.half_year (SI1 c x) t ≡ (x ‼ t) -ℤ at_month c.half_year (T1 c x) t
    -- METHOD 3.3: R1 is 3×3 of the slice in which SI1 stands, in pass B with its extreme values replaced: the month-run step
    pub r1 : (si : List ℤ) → Stands c.half_year (length x) (filtered_si1 c x) si → (t : ℕ) → InnerMonth c.half_year (length x) t
        → at_month c.half_year (R1 c x) t ≡ value_at c.seasonal1.table c.half_year (length x - c.half_year) si t
    -- METHOD 3.4: M1 is 2×12 of the slice in which R1 stands, the first and the last value repeated
    pub m1 : (r : List ℤ) → Stands c.half_year (length x) (R1 c x) r → (t : ℕ) → InnerMonth c.half_year (length x) t
        → at_month c.half_year (M1 c x) t
        ≡ value_at c.yearly.table c.half_year (length x - c.half_year) r (nearest_month c.half_year c.half_year (length x - c.half_year) t)
    -- METHOD 3.4: S1 is R1 less M1; the first six months copy those of a year later, the last six those of a year earlier
    pub s1 : (t : ℕ) → InnerMonth c.half_year (length x) t → S1 c x ‼ t ≡ at_month c.half_year (R1 c x) t -ℤ at_month c.half_year (M1 c x) t
    pub s1_first : (t : ℕ) → t < c.half_year → S1 c x ‼ t ≡ S1 c x ‼ (t + 2 * c.half_year)
    pub s1_last : (t : ℕ) → length x - c.half_year ≤ t → t < length x → S1 c x ‼ t ≡ S1 c x ‼ (t - 2 * c.half_year)

-- so for every pass whose yearly average takes half a year on each side, on a series of two years and a month or more (shown in proofs/ByMonth.antt)
abbrev pub TablesByMonth : Type 0
TablesByMonth = (c : Choices) (x : List ℤ) → reach c.yearly.table ≡ c.half_year → 4 * c.half_year + 1 ≤ length x → ByMonth c x
