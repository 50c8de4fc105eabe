-- METHOD 5.8: in no group is every month dropped (shown in proofs/NoGroupEmptied.antt).
use Rattle.std.specs.Prelude.{ℕ, ◌*◌, ◌≤◌, ◌<◌, ◌≡◌, List, [], ◌∷◌, length, get_or, ℤ}
use Rattle.integers.specs.Lists.{tab}
use Rattle.extremes.specs.Years.{group}
use Rattle.extremes.specs.Spreads.{sizes_of, spread, remaining}

-- METHOD 5.8: a size is among the sizes of some months, at a place there
pub record Among (a : ℕ) (sizes : List ℕ) : Type 0 where
  pub place : ℕ
  pub inside : place < length sizes
  pub there : get_or sizes place 0 ≡ a

-- METHOD 5.8: a size of a group is the smallest: no other is below it
pub record Smallest (a : ℕ) (g : List ℕ) : Type 0 where
  pub among : Among a g
  pub least : (i : ℕ) → i < length g → a ≤ get_or g i 0

-- METHOD 5.8, of a group: its smallest size does not exceed the first spread; it is among those that stay; so not every month is dropped
pub record SmallestStays (g : List ℕ) : Type 0 where
  pub size : ℕ
  pub smallest : Smallest size g
  pub low : size ≤ spread g
  pub stays : Among size (remaining g)
  pub some : 0 < length (remaining g)

-- METHOD 5.8, of an irregular: this holds of the group that each year uses
pub record NoneEmptied (start period : ℕ) (irregular : List ℤ) : Type 0 where
  pub each : (year : ℕ) → SmallestStays (group start period (sizes_of irregular) year)

-- METHOD 5.8, the theorem: for every number of months in a year, every start month, and every irregular that has the months of five years or more (60
-- where a year has twelve; SI1 of 72 months has just these)
abbrev pub NoGroupEmptied : Type 0
NoGroupEmptied = (start period : ℕ) (irregular : List ℤ) → 1 ≤ start → start ≤ period → 5 * period ≤ length irregular → NoneEmptied start period irregular

-- METHOD 5.8, the examples: sixty months of size 7, the first spread being 7, of which all stay; and one of size 0 with fifty-nine of size 1, the
-- first spread being 0, of which only that of size 0 stays
abbrev pub sevens : List ℕ
sevens = tab 60 (λ i. 7)

abbrev pub zero_and_ones : List ℕ
zero_and_ones = 0 ∷ tab 59 (λ i. 1)

pub record MonthsThatStay : Type 0 where
  pub first_of_sevens : spread sevens ≡ 7
  pub sevens_stay : remaining sevens ≡ sevens
  pub first_of_ones : spread zero_and_ones ≡ 0
  pub zero_stays : remaining zero_and_ones ≡ 0 ∷ []
