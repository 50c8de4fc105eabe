-- METHOD 6.4 and 10.3: the results are near their exact working, and the parts add up; METHOD 6.3: each pass is near its own.
use mathlib.Core.Path.{◌≡◌, refl}
use mathlib.Core.List.{List}
use Prim.Native.Nat.{ℕ, ◌+◌, ◌<◌}
use native.Mathlib.Nat.{le_refl, mul-pos}
use native.Mathlib.Omega.{arith}
use lib.ListN.{length}
use lib.IntN.{ℤ, ◌+ℤ◌}
use Rattle.integers.proofs.Differences.{rep, ringℤ}
use Rattle.integers.specs.Lists.{◌‼◌}
use Rattle.series.specs.Operations.{minus}
use Rattle.series.specs.Distance.{Close}
use Rattle.series.proofs.Distances.{close_self, close-times, close-minus, close_less, grains}
use Rattle.series.proofs.Lengths.{length-minus, at-minus}
use Rattle.rows.specs.declared.SeasonalFilter.{SeasonalFilter}
use Rattle.rows.specs.declared.Terms.{Terms}
use Rattle.rows.specs.FilterTables.{over_henderson}
use Rattle.filters.proofs.Light.{light_henderson}
use Rattle.steps.specs.Choices.{none, henderson}
use Rattle.steps.specs.Steps.{S2}
use Rattle.steps.specs.Exact.{exact_s2}
use Rattle.steps.proofs.Sound.{Sound, monthly-sound, plain_sound}
use Rattle.steps.proofs.Distances.{near, over_s2-some, own_s2, close-norm}
use Rattle.tables.specs.Tables.{choices_d, B1, B7, B10, C1, C7, C10, D1, final_seasonal_filter, D10, D11, final_terms, D12, D13}
use Rattle.tables.specs.Exact.{over_d10, over_e, E10, E11, E12, E13, OneDenominator}
use Rattle.tables.specs.Nearness.{PassesNear, NearAt}
use Rattle.tables.proofs.Sizes.{length-b1}

-- how far T2, S2, D12 and D13 are, in thousandths of a grain; B7 and B10 below
abbrev far_t2 : ℕ
far_t2 = 3750

abbrev far_s2 : ℕ
far_s2 = 9000

abbrev far_d12 : ℕ
far_d12 = 13_460

abbrev far_d13 : ℕ
far_d13 = far_s2 + far_d12

-- B7, and B10: 12.6 grains
abbrev far_b7 : ℕ
far_b7 = 5050

pub one-denominator : OneDenominator
one-denominator = record { same = λ f g. refl }

-- the choices of pass D are sound
sound_d : (g : SeasonalFilter) → Sound (choices_d g)
sound_d g = monthly-sound g none none

pub passes_near : (start : ℕ) (f : List ℤ) → PassesNear start f
unfolding B7 B10 C7 C10 D10
passes_near start f = record {
  pass_b = near (monthly-sound _ _ _) (B1 start f) far_b7 (omega arith) _ _ (omega arith) (omega arith);
  pass_c = near plain_sound (C1 start f) far_t2 (omega arith) _ _ (omega arith) (omega arith);
  pass_d = near (sound_d _) (D1 start f) far_t2 (omega arith) _ _ (omega arith) (omega arith);
}

-- seasonal, trend and irregular are the series
adds : (b1 s t : List ℤ) (i : ℕ) → i < length b1 → (s ‼ i) +ℤ (t ‼ i) +ℤ (minus (minus b1 s) t ‼ i) ≡ b1 ‼ i
adds b1 s t i h =
    let l : i < length (minus b1 s) = omega (arith, length-minus b1 s) in
    rw (at-minus (minus b1 s) t i l, at-minus b1 s i h) (rw (rep (b1 ‼ i), rep (s ‼ i), rep (t ‼ i)) (simp ringℤ (omega arith)))

module _ (start : ℕ) (f : List ℤ) where
  abbrev b1 : List ℤ
  b1 = B1 start f

  abbrev d1 : List ℤ
  d1 = D1 start f

  abbrev g : SeasonalFilter
  g = final_seasonal_filter start f

  abbrev terms : Terms
  terms = final_terms start f

  s2 : Close far_s2 (over_d10 g) (S2 (choices_d g) d1) (exact_s2 (choices_d g) d1)
  s2 = own_s2 (sound_d g) d1 far_t2 (omega arith)

  over_e-some : 0 < over_e g
  over_e-some = mul-pos {n = over_henderson} (over_s2-some (sound_d g)) (omega arith)

  d10 : Close far_s2 (over_e g) (D10 start f) (E10 g d1)
  unfolding D10 E10
  d10 = close-times over_henderson s2

  d11 : Close far_s2 (over_e g) (D11 start f) (E11 g b1 d1)
  unfolding D11 E11
  d11 = close_less (over_e g) (close_self b1) d10 (le_refl far_s2) refl

  d12 : Close far_d12 (over_e g) (D12 start f) (E12 g d1 terms)
  unfolding D12 D10 E12
  d12 = close-norm (close_less (over_d10 g) (close_self d1) s2 (le_refl far_s2) refl) (henderson terms) 1440 far_d12 (light_henderson terms) (omega arith)

  d13 : Close far_d13 (over_e g) (D13 start f) (E13 g b1 d1 terms)
  unfolding D13 E13
  d13 = close-minus d11 d12

  adds_up : (t : ℕ) → t < length b1 → (D10 start f ‼ t) +ℤ (D12 start f ‼ t) +ℤ (D13 start f ‼ t) ≡ b1 ‼ t
  unfolding D13 D11
  adds_up t h = adds b1 (D10 start f) (D12 start f) t h

  -- the tables of the rules, at each month
  pub near-at : (t : ℕ) → t < length f → NearAt g terms b1 d1 (D10 start f) (D11 start f) (D12 start f) (D13 start f) t
  near-at t h = record {
    seasonal = (grains 10 over_e-some (omega arith) d10).at t;
    adjusted = (grains 10 over_e-some (omega arith) d11).at t;
    trend = (grains 15 over_e-some (omega arith) d12).at t;
    irregular = (grains 25 over_e-some (omega arith) d13).at t;
    adds_up = adds_up t (omega (arith, length-b1 start f));
  }
