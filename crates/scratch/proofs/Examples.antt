-- METHOD 8.3 and 8.4, the example.
use Prim.Native.Nat.{ℕ, ◌+◌, ◌-◌}
use mathlib.Core.Path.{◌≡◌, refl, ap, ◌∙◌}
use mathlib.Core.List.{List}
use native.Mathlib.Omega.{arith}
use lib.ListN.{length, drop, length-append, length-drop, get_or-append}
use lib.Seq.{get_or-append-add, get_or-drop}
use lib.IntN.{ℤ, pos}
use Rattle.integers.specs.Lists.{◌‼◌, tab}
use Rattle.integers.proofs.FillingLaws.{length-tab, at-tab}
use Rattle.scratch.specs.Scratch.{zeroed}
use Rattle.scratch.specs.Examples.{LongerScratch}

abbrev zeros : List ℤ
zeros = tab 360 (λ _. pos 0)

zeros-long : length zeros ≡ 360
zeros-long = length-tab 360 (λ _. pos 0)

pub longer_scratch : LongerScratch
longer_scratch = record {
  asked = refl;
  zero = λ scratch e i l. get_or-append zeros (drop 360 scratch) (pos 0) i (omega (arith, zeros-long)) ∙ at-tab (pos 0) 360 (λ _. pos 0) i l;
  tail = λ scratch e i l m.
      let j : i ≡ length zeros + (i - 360) = omega (arith, zeros-long) in
      let k : 360 + (i - 360) ≡ i = omega arith in
      ap (λ (h : ℕ). zeroed 72 scratch ‼ h) j ∙ get_or-append-add zeros (drop 360 scratch) (i - 360) (pos 0) ∙ get_or-drop 360 scratch (i - 360) (pos 0)
      ∙ ap (λ (h : ℕ). scratch ‼ h) k;
  long = λ scratch e. length-append zeros (drop 360 scratch) ∙ omega (arith, zeros-long, length-drop 360 scratch, e);
}
