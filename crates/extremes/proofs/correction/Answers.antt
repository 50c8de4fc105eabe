-- `extremes::correction` meets its contract: the product is small enough to be rounded.
use Prim.Native.Nat.{◌*◌, ◌-◌}
use mathlib.Core.Path.{ap₂, ◌∙◌}
use native.Mathlib.Omega.{arith}
use lib.IntN.{ℤ, pos, nat_abs, ◌*ℤ◌}
use mir.Syntax.{w64}
use mir.Val.{to_z, of_z}
use Rattle.integers.specs.Rounding.{to_grain}
use Rattle.integers.proofs.SizeLaws.{by-abs}
use Rattle.integers.proofs.Signed64.{Reads, i_arg, i_call, i*, i_kept, kept}
use Rattle.refusals.specs.Limits.{full_weight}
use Rattle.extremes.specs.Weighing.{correction_of}
use Rattle.extremes.specs.Promises.{largest_irregular}
use Rattle.extremes.proofs.correction.Lts as lts
use Rattle.extremes.proofs.correction.Tie as tie
use Rattle.extremes.proofs.correction.Reads as reads
use Rattle.extremes.proofs.correction.Goals as goal

abbrev After-from : Type 0
After-from = lts.After-from tie.the-claims reads.Pre reads.Post

product : (c : After-from) → Reads (to_z w64 (of_z w64 c.args.irregular) *ℤ to_z w64 (of_z w64 c.from.result)) (c.args.irregular *ℤ pos (full_weight - c.args.weight)) (largest_irregular * full_weight)
product c = i* (i_arg c.ranges.irregular c.requires.0) (i_call {B = full_weight} c.from.type_inv c.from.ensures (by-abs (omega arith)))

pub returns : goal.returns
unfolding correction_of
returns c = kept c.to_grain.type_inv c.to_grain.ensures ∙ ap₂ (λ (z d : ℤ). to_grain z (nat_abs d)) (i_kept (product c.before.before) tt).eq (kept c.from-2.type_inv c.from-2.ensures)
