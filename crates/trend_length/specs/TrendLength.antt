-- METHOD 4.5: the length of the final trend's filter, by noise.
use Rattle.std.specs.Prelude.{◌&&◌, cond, List, ℕ, ◌+◌, ◌*◌, ◌-◌, ltb, eqb, length, ℤ}
use Rattle.series.specs.Operations.{changes}
use Rattle.rows.specs.declared.Terms.{Terms}
use Rattle.rows.specs.declared.Terms.TheVariants.{Nine, Thirteen, TwentyThree}

-- METHOD 4.5: the sum of the sizes of the changes of a table from one month to the next, both months lying in t from h to n - 1 - h. Half a year, h, is
-- 6 months: changes into t from 7 to n - 7, n - 13 of them. That of C13 is I, that of C7 is C
unfoldable pub month_changes : ℕ → List ℤ → ℕ
month_changes h x = changes x 1 (h + 1) (length x - (2 * h + 1))

-- METHOD 4.5, by the sums i and c: both zero, 13 terms; else i below c, 9; else i below 3.5 times c, 13; else 23
unfoldable pub terms_for : ℕ → ℕ → Terms
terms_for i c = cond (eqb i 0 && eqb c 0) Thirteen (cond (ltb i c) Nine (cond (ltb (2 * i) (7 * c)) Thirteen TwentyThree))

-- METHOD 4.5: the length by an irregular and a trend, C13 and C7
unfoldable pub trend_length : ℕ → List ℤ → List ℤ → Terms
trend_length h irregular trend = terms_for (month_changes h irregular) (month_changes h trend)
