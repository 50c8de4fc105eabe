-- How long the tables of a pass are.
use mathlib.Core.Path.{◌≡◌, refl, ◌∙◌}
use mathlib.Core.List.{List}
use Prim.Native.Nat.{ℕ, ◌*◌, ◌-◌, ◌≤◌}
use native.Mathlib.Omega.{arith}
use lib.ListN.{length}
use lib.IntN.{ℤ}
use Rattle.series.specs.Operations.{minus}
use Rattle.series.proofs.Lengths.{length-minus, length-pick}
use Rattle.filters.proofs.Lengths.{length-filter}
use Rattle.replacing.proofs.ReplacedLaws.{length-replaced-by}
use Rattle.steps.specs.Choices.{Replacing, none, by_weights, replaced, Choices}
use Rattle.steps.specs.Steps.{T1, SI1, R1, M1, inner_s1, S1, A1, T2, SI2, R2, S2}
use Rattle.steps.specs.Places.{inner, widened}

pub length-inner : (h : ℕ) (x : List ℤ) → length (inner h x) ≡ length x - 2 * h
unfolding inner
length-inner h x = length-pick (length x - 2 * h) _ x

pub length-replaced : (h : ℕ) (r : Replacing) (x : List ℤ) → length (replaced h r x) ≡ length x
length-replaced h none x = refl
length-replaced h (by_weights w) x = length-replaced-by (2 * h) w x

module _ (c : Choices) (x : List ℤ) where
  pub length-si1 : length (SI1 c x) ≡ length x - 2 * c.half_year
  unfolding SI1
  length-si1 = length-minus (inner c.half_year x) (T1 c x) ∙ length-inner c.half_year x

  pub length-replaced1 : length (replaced c.half_year c.replacing1 (SI1 c x)) ≡ length x - 2 * c.half_year
  length-replaced1 = length-replaced c.half_year c.replacing1 (SI1 c x) ∙ length-si1

  pub length-r1 : length (R1 c x) ≡ length x - 2 * c.half_year
  unfolding R1
  length-r1 = length-filter c.seasonal1.table _ ∙ length-replaced1

  pub length-inner_s1 : length (inner_s1 c x) ≡ length x - 2 * c.half_year
  unfolding inner_s1
  length-inner_s1 = length-minus (R1 c x) (M1 c x) ∙ length-r1

  pub length-s1 : 2 * c.half_year ≤ length x → length (S1 c x) ≡ length x
  unfolding S1 widened
  length-s1 h = length-pick _ _ _ ∙ omega (arith, length-inner_s1)

  pub length-t2 : length (T2 c x) ≡ length x
  unfolding T2 A1
  length-t2 = length-filter c.trend.table (minus x (S1 c x)) ∙ length-minus x (S1 c x)

  pub length-si2 : length (SI2 c x) ≡ length x
  unfolding SI2
  length-si2 = length-minus x _

  pub length-replaced2 : length (replaced c.half_year c.replacing2 (SI2 c x)) ≡ length x
  length-replaced2 = length-replaced c.half_year c.replacing2 (SI2 c x) ∙ length-si2

  pub length-r2 : length (R2 c x) ≡ length x
  unfolding R2
  length-r2 = length-filter c.seasonal2.table _ ∙ length-replaced2

  pub length-s2 : length (S2 c x) ≡ length x
  unfolding S2
  length-s2 = length-minus (R2 c x) _ ∙ length-r2
