-- METHOD 4.6: the seasonal filter of pass D, by noise: by the I/S ratio. A year has p months: 12.
use Rattle.std.specs.Prelude.{◌&&◌, cond, List, ℕ, zero, suc, ◌*◌, ◌-◌, ltb, leb, eqb, Option, None, Some, unwrap_or, length, take, ℤ}
use Rattle.series.specs.Operations.{changes}
use Rattle.rows.specs.declared.SeasonalFilter.{SeasonalFilter}
use Rattle.rows.specs.declared.SeasonalFilter.TheVariants.{ThreeByThree, ThreeByFive, ThreeByNine}

-- METHOD 4.6: the sum of the sizes of the changes of a table over a year, at each t from p to its last month. That of C13 is I, that of C10 is S
unfoldable pub year_changes : ℕ → List ℤ → ℕ
year_changes p x = changes x p p (length x - p)

-- METHOD 4.6, one question, to the sums i and s: both zero, 3×5; else i below 2.5 times s, 3×3; above 3.5 and below 5.5 times, 3×5; from 6.5 times
-- on, 3×9; in between there is none: it is undecided
unfoldable pub decide : ℕ → ℕ → Option SeasonalFilter
decide i s =
    cond (eqb i 0 && eqb s 0) (Some ThreeByFive)
    (cond (ltb (2 * i) (5 * s)) (Some ThreeByThree)
    (cond (ltb (7 * s) (2 * i) && ltb (2 * i) (11 * s)) (Some ThreeByFive)
    (cond (leb (13 * s) (2 * i)) (Some ThreeByNine) None)))

-- METHOD 4.6: the months kept where the last year is set aside
unfoldable pub year_off : ℕ → List ℤ → List ℤ
year_off p x = take (length x - p) x

-- METHOD 4.6: the question, and where it is undecided asked again with a year set aside, so many times more at most; then 3×5
unfoldable pub ask : ℕ → ℕ → List ℤ → List ℤ → SeasonalFilter
ask p zero irregular seasonal = unwrap_or (decide (year_changes p irregular) (year_changes p seasonal)) ThreeByFive
ask p (suc tries) irregular seasonal = unwrap_or (decide (year_changes p irregular) (year_changes p seasonal)) (ask p tries (year_off p irregular) (year_off p seasonal))

-- METHOD 4.6: the filter by an irregular and a seasonal, C13 and C10, the question being asked again five times at most
unfoldable pub chosen_filter : ℕ → List ℤ → List ℤ → SeasonalFilter
chosen_filter p irregular seasonal = ask p 5 irregular seasonal
