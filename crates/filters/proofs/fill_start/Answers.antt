use mathlib.Core.Path.{◌≡◌}
use Prim.Native.Nat.{◌+◌, ◌*◌}
use native.Mathlib.Nat.{add-mul}
use native.Mathlib.Omega.{arith}
use Rattle.integers.proofs.FillingLaws.{filled_on}
use Rattle.filters.proofs.Stretches.{start_stretch, stretch_value}
use Rattle.filters.proofs.fill_start.Goals as goal

pub loop-earlier-preserved : goal.loop-earlier-preserved
loop-earlier-preserved c = let a = c.args in let b = c.loop-earlier.earlier in
    let e : a.first + (b + 1) * a.f.step ≡ a.first + b * a.f.step + a.f.step = omega (arith, add-mul b 1 a.f.step) in
    rw e (filled_on c.loop-earlier.invariant c.fill_row.ensures (omega arith) (omega arith) (stretch_value (start_stretch c.requires.0 b (omega arith)) a.f.readable.step_least a.x.now))
