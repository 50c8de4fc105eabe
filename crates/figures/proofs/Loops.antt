-- The loops over the figures, as equations of lists; and how large a figure is in grains.
use mathlib.Core.Path.{◌≡◌, sym, ap, ◌∙◌}
use mathlib.Core.List.{List}
use Prim.Native.Nat.{ℕ, ◌<◌}
use native.Mathlib.Omega.{arith}
use lib.ListN.{length, get_or}
use lib.IntN.{ℤ, pos, ◌-ℤ◌, ◌*ℤ◌}
use Rattle.integers.specs.Sizes.{◌within◌}
use Rattle.integers.proofs.SizeLaws.{w*, w_lit}
use Rattle.integers.specs.Lists.{◌‼◌, tab}
use Rattle.refusals.specs.Limits.{unit}
use Rattle.series.specs.Promises.{Figures}
use Rattle.tables.specs.Bounds.{largest_b1}
use Rattle.integers.proofs.FillingLaws.{length-tab, at-tab, tab-same}
use Rattle.series.specs.Operations.{minus, times}
use Rattle.series.proofs.Lengths.{length-times, at-times}
use Rattle.extremes.specs.Weighing.{correction_of}
use Rattle.tables.specs.Tables.{corrections}

pub grains_within : {figures : List ℤ} → Figures figures → (t : ℕ) → pos unit *ℤ (figures ‼ t) within largest_b1
grains_within h t = w* (w_lit unit) (h.small.at t)

pub times-is : (k : ℕ) (x : List ℤ) → tab (length x) (λ t. pos k *ℤ (x ‼ t)) ≡ times k x
times-is k x = sym (tab-same (pos 0) (length x) (λ t. pos k *ℤ (x ‼ t)) (times k x) (length-times k x) (λ i l. at-times k x i))

pub less_is : (k : ℕ) (x y : List ℤ) → tab (length x) (λ t. pos k *ℤ (x ‼ t) -ℤ (y ‼ t)) ≡ minus (times k x) y
unfolding minus
less_is k x y = sym (tab-same (pos 0) (length x) (λ t. pos k *ℤ (x ‼ t) -ℤ (y ‼ t)) _ (length-tab _ _ ∙ length-times k x)
    (λ i l. at-tab (pos 0) _ _ i (omega (arith, length-times k x)) ∙ ap (λ (z : ℤ). z -ℤ (y ‼ i)) (at-times k x i)))

pub at-corrections : (z : List ℤ) (w : List ℕ) (t : ℕ) → t < length z → corrections z w ‼ t ≡ correction_of (z ‼ t) (get_or w t 0)
unfolding corrections
at-corrections z w t h = at-tab (pos 0) (length z) _ t h

pub corrected_is : (k : ℕ) (x z : List ℤ) (w : List ℕ) → length z ≡ length x
    → tab (length x) (λ t. pos k *ℤ (x ‼ t) -ℤ correction_of (z ‼ t) (get_or w t 0)) ≡ minus (times k x) (corrections z w)
corrected_is k x z w e = tab-same (pos 0) (length x) (λ t. pos k *ℤ (x ‼ t) -ℤ (corrections z w ‼ t)) _ (length-tab _ _)
    (λ i l. at-tab (pos 0) _ _ i l ∙ ap (λ (c : ℤ). pos k *ℤ (x ‼ i) -ℤ c) (sym (at-corrections z w i (omega arith)))) ∙ less_is k x (corrections z w)
