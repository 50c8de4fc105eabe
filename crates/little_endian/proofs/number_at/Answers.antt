use Prim.Native.Nat.{◌-◌}
use mathlib.Core.Path.{◌≡◌}
use native.Mathlib.Nat.{pow-zero}
use native.Mathlib.Omega.{arith}
use Rattle.little_endian.specs.Bytes.{number_at}
use Rattle.little_endian.proofs.NumberLaws.{read_more, small_more, three_bytes}
use Rattle.little_endian.proofs.number_at.Goals as goal

pub loop-i-init : goal.loop-i-init
unfolding number_at
loop-i-init c = let z : c.args.width - c.args.width ≡ 0 = omega arith in rw z (omega arith, omega (arith, pow-zero 256))

pub loop-i-preserved : goal.loop-i-preserved
loop-i-preserved c =
    let a = c.args in
    let v = c.loop-i.value in (
      rw c.from.ensures (read_more a.bytes.now a.at a.width c.loop-i.i v (omega arith) (omega arith) c.loop-i.invariant.0),
      small_more v c.from.result a.width c.loop-i.i (omega arith) (omega arith) c.loop-i.invariant.1 (omega arith),
    )

pub overflow_mul-value : goal.overflow_mul-value
overflow_mul-value c = record { fits = omega (arith, three_bytes c.loop-i.value (c.args.width - c.loop-i.i) c.loop-i.invariant.1 (omega arith)) }

pub overflow_add-value : goal.overflow_add-value
overflow_add-value c = record { fits = omega (arith, three_bytes c.loop-i.value (c.args.width - c.loop-i.i) c.loop-i.invariant.1 (omega arith)) }
