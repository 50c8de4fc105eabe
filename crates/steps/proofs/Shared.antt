-- What passes share: SI1 looks neither at the filter of step 6 nor at what is replaced; S1, T2 and SI2 neither at that filter nor at what is replaced
-- in SI2.
use mathlib.Core.Path.{◌≡◌, refl, ap}
use mathlib.Core.List.{List}
use lib.IntN.{ℤ}
use Rattle.series.specs.Operations.{minus}
use Rattle.rows.specs.declared.SeasonalFilter.{SeasonalFilter}
use Rattle.steps.specs.Choices.{Replacing, monthly}
use Rattle.steps.specs.Steps.{level, T1, SI1, R1, M1, inner_s1, S1, A1, T2, SI2}

module _ (f g : SeasonalFilter) (r s u : Replacing) (x : List ℤ) where
  pub same_si1 : SI1 (monthly f r s) x ≡ SI1 (monthly g u s) x
  unfolding SI1 T1
  same_si1 = refl

  pub same_s1 : S1 (monthly f r s) x ≡ S1 (monthly g r u) x
  unfolding S1 inner_s1 M1 R1 level SI1 T1
  same_s1 = refl

  pub same_t2 : T2 (monthly f r s) x ≡ T2 (monthly g r u) x
  unfolding T2 A1
  same_t2 = rw same_s1 refl

  pub same_si2 : SI2 (monthly f r s) x ≡ SI2 (monthly g r u) x
  unfolding SI2
  same_si2 = ap (minus x) same_t2
