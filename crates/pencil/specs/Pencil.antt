-- METHOD 11: the pencil cases, in its order. Each line has what the rules give, and what is written there.
use Rattle.std.specs.Prelude.{◌≡◌, cond, List, [], ◌∷◌, ◌++◌, map, ℕ, ◌+◌, ◌*◌, ◌-◌, ◌%◌, ltb, eqb, Option, None, Some, length, replicate, ℤ, pos, negsuc, neg_ℤ}
use Rattle.integers.specs.Lists.{◌‼◌, tab}
use Rattle.integers.specs.Rounding.{to_grain}
use Rattle.filters.specs.Filter.{value_at, filter, inside}
use Rattle.rows.specs.declared.SeasonalFilter.{SeasonalFilter}
use Rattle.rows.specs.declared.SeasonalFilter.TheVariants.{ThreeByThree, ThreeByFive, ThreeByNine}
use Rattle.rows.specs.declared.Terms.{Terms}
use Rattle.rows.specs.declared.Terms.TheVariants.{Nine, Thirteen, TwentyThree}
use Rattle.rows.specs.FilterTables.{table2x12, table_seasonal, table_henderson}
use Rattle.trend_length.specs.TrendLength.{month_changes, terms_for}
use Rattle.seasonal_choice.specs.SeasonalChoice.{year_changes, decide, chosen_filter}
use Rattle.extremes.specs.Spreads.{size_of, spread, remaining, second_spread}
use Rattle.extremes.specs.Weighing.{weight, correction_of}

-- a case: what the rules find, and what is wanted
infix 5 ◌gives◌
pub data Case : Type 0 where
  ◌gives◌ : List ℤ → List ℤ → Case

abbrev pub found : List Case → List (List ℤ)
found [] = []
found ((f gives w) ∷ cs) = f ∷ found cs

abbrev pub wanted : List Case → List (List ℤ)
wanted [] = []
wanted ((f gives w) ∷ cs) = w ∷ wanted cs

-- n months, v at place c and else 0; 72 such months; the numbers at some places
abbrev one_of : ℕ → ℕ → ℕ → List ℤ
one_of n c v = tab n (λ t. cond (eqb t c) (pos v) (pos 0))

abbrev one : ℕ → ℕ → List ℤ
one c v = one_of 72 c v

abbrev at : List ℤ → List ℕ → List ℤ
at x places = map (λ t. x ‼ t) places

abbrev whole : List ℕ → List ℤ
whole = map pos

-- 3×3 of values at the months from 6 to 68 of 75, v at month c and else 0, with a million at every month outside: at some months
abbrev by3x3 : ℕ → ℕ → List ℕ → List ℤ
by3x3 c v months = map (value_at (table_seasonal ThreeByThree) 6 69 (tab 75 (λ t. cond (ltb t 6) (pos 1_000_000) (cond (ltb t 69) (cond (eqb t c) (pos v) (pos 0)) (pos 1_000_000))))) months

-- the 2×12 value of place t stands at t - 6
abbrev at2x12 : List ℤ → List ℕ → List ℤ
at2x12 x places = at (inside table2x12 x) (map (λ t. t - 6) places)

-- Henderson's filter of so many terms, of v at place c: there, next to it and p places away
abbrev henderson_of : Terms → ℕ → ℕ → ℕ → List ℤ
henderson_of terms v c p = at (filter (table_henderson terms) (one c v)) (c ∷ (c - 1) ∷ (c + 1) ∷ (c - p) ∷ (c + p) ∷ [])

-- the last p results of 1,000,000 at the last month of 72, and the first p of 1,000,000 at the first: the outermost weights of the p rows for an end
abbrev henderson_last : Terms → ℕ → List ℤ
henderson_last terms p = at (filter (table_henderson terms) (one 71 1_000_000)) (tab p (λ i. 72 - p + i))

abbrev henderson_first : Terms → ℕ → List ℤ
henderson_first terms p = at (filter (table_henderson terms) (one 0 1_000_000)) (tab p (λ i. p - 1 - i))

abbrev outermost9 : List ℤ
outermost9 = negsuc 29_953 ∷ whole (85_905 ∷ 297_863 ∷ 579_723 ∷ [])

abbrev outermost13 : List ℤ
outermost13 = negsuc 34_008 ∷ negsuc 16_940 ∷ whole (44_835 ∷ 148_101 ∷ 279_099 ∷ 421_119 ∷ [])

abbrev outermost23 : List ℤ
outermost23 = negsuc 11_685 ∷ negsuc 18_591 ∷ negsuc 20_867 ∷ negsuc 15_086 ∷ whole (879 ∷ 27_730 ∷ 64_930 ∷ 111_106 ∷ 164_559 ∷ 223_799 ∷ 288_009 ∷ [])

-- 13 terms of 16,796
abbrev henderson_around : ℕ → List ℤ
henderson_around c = henderson_of Thirteen 16_796 c 6

abbrev henderson_weights : List ℤ
henderson_weights = pos 4032 ∷ pos 3600 ∷ pos 3600 ∷ negsuc 324 ∷ negsuc 324 ∷ []

-- 13 terms of 8,398 at place c: there, two places away and six, where half of 2,475 and half of -325 lie on halves
abbrev henderson_halves : ℕ → List ℤ
henderson_halves c = at (filter (table_henderson Thirteen) (one c 8_398)) (c ∷ (c - 2) ∷ (c + 2) ∷ (c - 6) ∷ (c + 6) ∷ [])

-- the sizes of the group whose weights the list works
abbrev example_group : List ℕ
example_group = 0 ∷ 0 ∷ 0 ∷ 1 ∷ []

-- METHOD 5.4: of a group, the first spread, how many months stay, and the second spread
abbrev dropping : List ℕ → List ℕ
dropping g = spread g ∷ length (remaining g) ∷ second_spread g ∷ []

-- METHOD 4.5 and 4.6: the squares of t, those of even t below zero, of n months; the number of terms for two sums
abbrev squares_by_turns : ℕ → List ℤ
squares_by_turns n = tab n (λ t. cond (eqb (t % 2) 0) (neg_ℤ (pos (t * t))) (pos (t * t)))

abbrev count : Terms → ℕ
count Nine = 9
count Thirteen = 13
count TwentyThree = 23

abbrev count_for : ℕ → ℕ → ℕ
count_for i c = count (terms_for i c)

-- METHOD 4.6: a filter by a number, 33, 35 or 39; what a question answers, 0 for none
abbrev filter_number : SeasonalFilter → ℕ
filter_number ThreeByThree = 33
filter_number ThreeByFive = 35
filter_number ThreeByNine = 39

abbrev answer_number : Option SeasonalFilter → ℕ
answer_number (Some f) = filter_number f
answer_number None = 0

abbrev answer_to : ℕ → ℕ → ℕ
answer_to i s = answer_number (decide i s)

-- METHOD 4.6: a table of years whose months are alike, the first year 0 and the others above the one before by so much; the filter that is chosen by an
-- irregular with such yearly changes and a seasonal that rises by 2 from year to year
abbrev yearly : ℕ → List ℕ → List ℤ
yearly y [] = replicate 12 (pos y)
yearly y (d ∷ ds) = replicate 12 (pos y) ++ yearly (y + d) ds

abbrev chosen_for : List ℕ → ℕ
chosen_for changes = filter_number (chosen_filter 12 (yearly 0 changes) (yearly 0 (map (λ _. 2) changes)))

-- METHOD 11: the list
unfoldable pub pencil : List Case
pencil =
    -- 2×12, 24,000 at one month: there, and six months away on both sides
    (at2x12 (one 30 24_000) (30 ∷ 24 ∷ 36 ∷ []) gives whole (2000 ∷ 1000 ∷ 1000 ∷ []))
    -- Henderson's 13 terms, 16,796 at one month, twelve or more on each side, exactly twelve too: there, next to it, and six months away
    ∷ (henderson_around 30 gives henderson_weights)
    ∷ (henderson_around 12 gives henderson_weights)
    ∷ (henderson_around 59 gives henderson_weights)
    -- 9 terms, 2,431 at one month: there, next to it, four months away and five; 23 terms, 1,000,000 at one month: there, next to it, eleven months
    -- away and twelve
    ∷ (henderson_of Nine 2431 30 4 gives (pos 805 ∷ pos 648 ∷ pos 648 ∷ negsuc 98 ∷ negsuc 98 ∷ []))
    ∷ (henderson_of Nine 2431 30 5 gives (pos 805 ∷ pos 648 ∷ pos 648 ∷ pos 0 ∷ pos 0 ∷ []))
    ∷ (henderson_of TwentyThree 1_000_000 30 11 gives (pos 144_060 ∷ pos 138_318 ∷ pos 138_318 ∷ negsuc 4277 ∷ negsuc 4277 ∷ []))
    ∷ (henderson_of TwentyThree 1_000_000 30 12 gives (pos 144_060 ∷ pos 138_318 ∷ pos 138_318 ∷ pos 0 ∷ pos 0 ∷ []))
    -- 9, 13 and 23 terms, 1,000,000 at the last month: the last 4, 6 and 11 results; at the first month: the first, from the inside outwards
    ∷ (henderson_last Nine 4 gives outermost9)
    ∷ (henderson_last Thirteen 6 gives outermost13)
    ∷ (henderson_last TwentyThree 11 gives outermost23)
    ∷ (henderson_first Nine 4 gives outermost9)
    ∷ (henderson_first Thirteen 6 gives outermost13)
    ∷ (henderson_first TwentyThree 11 gives outermost23)
    -- 3×3, the last value of a run 27,000: the last three results. The run of places 11, 23, .. ends with 35, 47, 59, 71
    ∷ (at (filter (table_seasonal ThreeByThree) (one 71 27_000)) (47 ∷ 59 ∷ 71 ∷ []) gives whole (3000 ∷ 7000 ∷ 11_000 ∷ []))
    -- 3×3 by month, where the months from 6 to 68 have values: 27,000 at the first of the run of 12, and at the last of the runs of 8 and 12
    ∷ (by3x3 12 27_000 (12 ∷ 24 ∷ 36 ∷ []) gives whole (11_000 ∷ 7000 ∷ 3000 ∷ []))
    ∷ (by3x3 68 27_000 (44 ∷ 56 ∷ 68 ∷ []) gives whole (3000 ∷ 7000 ∷ 11_000 ∷ []))
    ∷ (by3x3 60 27_000 (36 ∷ 48 ∷ 60 ∷ []) gives whole (3000 ∷ 7000 ∷ 11_000 ∷ []))
    -- 3×5, the last value of a run 60,000: the last four results
    ∷ (at (filter (table_seasonal ThreeByFive) (one 71 60_000)) (35 ∷ 47 ∷ 59 ∷ 71 ∷ []) gives whole (4000 ∷ 9000 ∷ 15_000 ∷ 17_000 ∷ []))
    -- 3×9 of 72 months, the last value of a run 162,000: its six results; of 132 months, 748,440 at the sixth of eleven values of a run: all eleven
    ∷ (at (filter (table_seasonal ThreeByNine) (one 71 162_000)) (11 ∷ 23 ∷ 35 ∷ 47 ∷ 59 ∷ 71 ∷ []) gives whole (18_000 ∷ 22_000 ∷ 27_000 ∷ 27_000 ∷ 28_000 ∷ 30_000 ∷ []))
    ∷ (at (filter (table_seasonal ThreeByNine) (one_of 132 60 748_440)) (tab 11 (λ y. 12 * y))
    gives whole (83_160 ∷ 91_080 ∷ 103_950 ∷ 92_400 ∷ 85_932 ∷ 83_160 ∷ 85_932 ∷ 92_400 ∷ 103_950 ∷ 91_080 ∷ 83_160 ∷ []))
    -- rounding to a grain: 1/2 and -1/2 to 0, 3/2 to 2, -3/2 to -2
    ∷ (to_grain (pos 1) 2 ∷ to_grain (negsuc 0) 2 ∷ [] gives whole (0 ∷ 0 ∷ []))
    ∷ (to_grain (pos 3) 2 ∷ to_grain (negsuc 2) 2 ∷ [] gives (pos 2 ∷ negsuc 1 ∷ []))
    -- filters that come to halves: 2×12 of 12, 1 and twice 1/2; 3×5 of a last value of 30, 2, 9/2, 15/2 and 17/2; Henderson of 8,398
    ∷ (at2x12 (one 30 12) (30 ∷ 24 ∷ 36 ∷ []) gives whole (1 ∷ 0 ∷ 0 ∷ []))
    ∷ (at (filter (table_seasonal ThreeByFive) (one 71 30)) (35 ∷ 47 ∷ 59 ∷ 71 ∷ []) gives whole (2 ∷ 4 ∷ 8 ∷ 8 ∷ []))
    ∷ (henderson_halves 30 gives (pos 2016 ∷ pos 1238 ∷ pos 1238 ∷ negsuc 161 ∷ negsuc 161 ∷ []))
    -- the weights by σ 100 of a 149, 150, 200, 250, 251
    ∷ (whole (map (weight 100) (149 ∷ 150 ∷ 200 ∷ 250 ∷ 251 ∷ [])) gives whole (1000 ∷ 1000 ∷ 500 ∷ 0 ∷ 0 ∷ []))
    -- the weight by σ 3 of a 5
    ∷ (whole (weight 3 5 ∷ []) gives whole (833 ∷ []))
    -- the weight by σ 16 of a 25: the quotient is 1,562.5
    ∷ (whole (weight 16 25 ∷ []) gives whole (937 ∷ []))
    -- the sizes in whole units of irregulars of 500, -500, 2,500 and -2,500 grains
    ∷ (whole (map size_of (pos 500 ∷ negsuc 499 ∷ pos 2500 ∷ negsuc 2499 ∷ [])) gives whole (1 ∷ 1 ∷ 3 ∷ 3 ∷ []))
    -- the correction of an irregular of 500 grains, its weight 833: 83.5; and its weight 835: 82.5
    ∷ (correction_of (pos 500) 833 ∷ [] gives whole (84 ∷ []))
    ∷ (correction_of (pos 500) 835 ∷ [] gives whole (82 ∷ []))
    -- the group of sizes 0, 0, 0, 1: both spreads, and the weights of its months
    ∷ (whole (spread example_group ∷ second_spread example_group ∷ []) gives whole (0 ∷ 0 ∷ []))
    ∷ (whole (map (weight (second_spread example_group)) example_group) gives whole (1000 ∷ 1000 ∷ 1000 ∷ 0 ∷ []))
    -- dropping in the groups of seven months of size 1 and one of 5, of seven of 1 and one of 6, of 1, 1, 1, 3 and of 0, 1, 1, 3
    ∷ (whole (dropping (5 ∷ replicate 7 1)) gives whole (2 ∷ 8 ∷ 2 ∷ []))
    ∷ (whole (dropping (6 ∷ replicate 7 1)) gives whole (2 ∷ 7 ∷ 1 ∷ []))
    ∷ (whole (dropping (1 ∷ 1 ∷ 1 ∷ 3 ∷ [])) gives whole (1 ∷ 3 ∷ 1 ∷ []))
    ∷ (whole (dropping (0 ∷ 1 ∷ 1 ∷ 3 ∷ [])) gives whole (1 ∷ 3 ∷ 0 ∷ []))
    -- the sum of the sizes of changes, of squares whose sign turns from month to month: 14, 15 and 16 months
    ∷ (whole (map (λ n. month_changes 6 (squares_by_turns n)) (14 ∷ 15 ∷ 16 ∷ [])) gives whole (85 ∷ 198 ∷ 343 ∷ []))
    -- the terms for sums I and C of 0 and 0, 0 and 1, 99 and 100, 100 and 100, 349 and 100, 350 and 100, 1 and 0
    ∷ (whole (count_for 0 0 ∷ count_for 0 1 ∷ count_for 99 100 ∷ count_for 100 100 ∷ count_for 349 100 ∷ count_for 350 100 ∷ count_for 1 0 ∷ [])
    gives whole (13 ∷ 9 ∷ 9 ∷ 13 ∷ 13 ∷ 23 ∷ 23 ∷ []))
    -- the sum of the sizes of changes over twelve months, of the same squares: 12, 13, 14 and 15 months
    ∷ (whole (map (λ n. year_changes 12 (squares_by_turns n)) (12 ∷ 13 ∷ 14 ∷ 15 ∷ [])) gives whole (0 ∷ 144 ∷ 312 ∷ 504 ∷ []))
    -- the answers to sums I and S of 0 and 0, 1 and 0, 0 and 1; and of S 1,000 with I 2,499, 2,500, 3,500, 3,501, 5,499, 5,500, 6,499, 6,500
    ∷ (whole (answer_to 0 0 ∷ answer_to 1 0 ∷ answer_to 0 1 ∷ map (λ i. answer_to i 1000) (2499 ∷ 2500 ∷ 3500 ∷ 3501 ∷ 5499 ∷ 5500 ∷ 6499 ∷ 6500 ∷ []))
    gives whole (35 ∷ 39 ∷ 33 ∷ 33 ∷ 0 ∷ 0 ∷ 35 ∷ 35 ∷ 0 ∷ 0 ∷ 39 ∷ []))
    -- the filters by yearly changes of C13: at the first question; the second; the third; the fourth to sixth; at none; of 72 months the sixth has no change
    ∷ (whole (chosen_for (4 ∷ 4 ∷ 4 ∷ 4 ∷ 4 ∷ []) ∷ chosen_for (8 ∷ 8 ∷ 8 ∷ 8 ∷ 8 ∷ []) ∷ chosen_for (4 ∷ 4 ∷ 4 ∷ 4 ∷ 49 ∷ []) ∷ []) gives whole (33 ∷ 35 ∷ 39 ∷ []))
    ∷ (whole (chosen_for (4 ∷ 4 ∷ 4 ∷ 4 ∷ 9 ∷ []) ∷ chosen_for (4 ∷ 4 ∷ 4 ∷ 6 ∷ 17 ∷ []) ∷ chosen_for (4 ∷ 4 ∷ 4 ∷ 4 ∷ 39 ∷ []) ∷ []) gives whole (33 ∷ 33 ∷ 33 ∷ []))
    ∷ (whole (chosen_for (14 ∷ 13 ∷ 13 ∷ 11 ∷ 11 ∷ []) ∷ chosen_for (3 ∷ 17 ∷ 19 ∷ 5 ∷ 16 ∷ []) ∷ []) gives whole (39 ∷ 39 ∷ []))
    ∷ (whole (chosen_for (8 ∷ 8 ∷ 4 ∷ 4 ∷ 1 ∷ []) ∷ chosen_for (4 ∷ 8 ∷ 6 ∷ 6 ∷ 6 ∷ []) ∷ chosen_for (4 ∷ 6 ∷ 6 ∷ 6 ∷ 6 ∷ 6 ∷ []) ∷ []) gives whole (35 ∷ 33 ∷ 33 ∷ []))
    ∷ (whole (chosen_for (4 ∷ 6 ∷ 6 ∷ 6 ∷ 6 ∷ 6 ∷ 6 ∷ []) ∷ chosen_for (6 ∷ 6 ∷ 6 ∷ 6 ∷ 6 ∷ []) ∷ []) gives whole (35 ∷ 35 ∷ []))
    ∷ []

-- the whole list holds (shown in proofs/Cases.antt)
abbrev pub PencilHolds : Type 0
PencilHolds = found pencil ≡ wanted pencil
