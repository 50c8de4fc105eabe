use mathlib.Core.Path.{◌≡◌, ap, subst, sym}
use Prim.Native.Nat.{ℕ, ◌+◌, ◌-◌, ◌*◌, ◌≤◌}
use native.Mathlib.Nat.{mul-le-mul_right, add-mul}
use native.Mathlib.Omega.{arith}
use lib.IntN.{pos}
use Rattle.integers.specs.Filling.{Filled}
use Rattle.integers.proofs.FillingLaws.{filled_on}
use Rattle.filters.specs.Filter.{by_row}
use Rattle.filters.specs.Promises.{table_of}
use Rattle.filters.proofs.Stretches.{end_stretch, stretch_value}
use Rattle.filters.proofs.fill_end.Goals as goal

pub loop-later-preserved : goal.loop-later-preserved
loop-later-preserved c = let f = c.args.f in let past = c.args.past in let n = c.loop-later.later in
    let s : n * f.step ≡ (n - 1 + 1) * f.step = ap (λ (k : ℕ). k * f.step) (omega arith) in
    let room : n * f.step ≤ f.side * f.step = mul-le-mul_right f.step (omega arith) in
    let e : past - n * f.step ≡ past - (n - 1) * f.step - f.step = omega (arith, s, add-mul (n - 1) 1 f.step) in
    filled_on c.loop-later.invariant (subst (λ (lo : ℕ). Filled (pos 0) (by_row (table_of f) f.side (n - 1) c.args.x.now) lo (past - (n - 1) * f.step) c.loop-later.out c.fill_row.new.out) (sym e) c.fill_row.ensures)
    (omega (arith, room)) (omega (arith, e))
    (λ t l m. stretch_value (end_stretch c.requires.0 (n - 1) (omega arith)) f.readable.step_least c.args.x.now t (omega (arith, e)) m)
