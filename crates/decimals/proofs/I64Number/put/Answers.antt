-- `put` of an `i64` meets its contract: a minus sign and the digits of the size, or these alone.
use mathlib.Core.Path.{refl, ap, subst}
use native.Mathlib.Omega.{arith}
use lib.ListN.{length}
use mir.Facts.{to_z-of_z}
use Rattle.decimals.specs.declared.Text.{Text}
use Rattle.decimals.specs.Decimal.{most_digits, digits}
use Rattle.decimals.specs.Storing.{Put}
use Rattle.decimals.proofs.StoringLaws.{put-then, put-eq, put-within}
use Rattle.decimals.proofs.DecimalLaws.{below-zero, not-below-zero}
use Rattle.decimals.proofs.I64Number.put.Goals.{then-negative, else-negative}
use Rattle.decimals.proofs.I64Number.put.Goals as goal

pub put_byte-requires : goal.put_byte-requires
put_byte-requires c = omega (arith, ap length (below-zero refl (to_z-of_z c.ranges.self) c.if-negative.true))

pub put-requires : goal.put-requires
put-requires c =
    elim c.if-negative.branch [
      | then-negative w ↦ omega (arith, ap length (below-zero c.size.ensures (to_z-of_z c.ranges.self) w.if-negative.true), ap (λ (t : Text). t.at) w.text-is, ap (λ (t : Text). length t.out.now) w.text-is, w.put_byte.ensures.stored)
      | else-negative w ↦ omega (arith, ap length (not-below-zero c.size.ensures (to_z-of_z c.ranges.self) w.if-negative.false), ap (λ (t : Text). t.at) w.text-is, ap (λ (t : Text). length t.out.now) w.text-is)
    ]

pub returns : goal.returns
returns c =
    elim c.if-negative.branch [
      | then-negative w ↦
          put-eq
          (below-zero c.size.ensures (to_z-of_z c.ranges.self) w.if-negative.true)
          (put-then w.put_byte.ensures (subst (λ (t : Text). Put most_digits t (digits c.size.result) c.put.new.text) w.text-is c.put.ensures))
      | else-negative w ↦
          put-eq
          (not-below-zero c.size.ensures (to_z-of_z c.ranges.self) w.if-negative.false)
          (put-within (subst (λ (t : Text). Put most_digits t (digits c.size.result) c.put.new.text) w.text-is c.put.ensures) (omega arith))
    ]
