use mathlib.Core.List.{List}
use lib.IntN.{ℤ}
use Prim.Native.Nat.{ℕ, ◌≤◌, ◌<◌, ◌-◌, ◌+◌, ◌*◌}
use mathlib.Core.Path.{◌≡◌}
use native.Mathlib.Omega.{arith}
use lib.ListN.{length}
use Rattle.integers.proofs.Signed64.{kept}
use Rattle.integers.proofs.FillingLaws.{filled_none, filled_more}
use Rattle.pass.specs.Promises.{along, LessAlong}
use Rattle.pass.proofs.less_from.Goals as goal

pub loop-t-init : goal.loop-t-init
loop-t-init c = (omega arith, c.requires.0.order, filled_none)

-- the level that month t looks at is there
looks : {i step lo hi : ℕ} {r m : List ℤ} → LessAlong i step lo hi r m → (t : ℕ) → lo ≤ t → t < hi → (i + step * (t - lo) < length m) × (length m ≤ 600)
unfolding along
looks s t l u = (s.each t l u, omega (arith, s.same, s.short))

pub less_at-requires : goal.less_at-requires
unfolding along
less_at-requires c = let p = c.requires.0 in
    (omega (arith, p.inside), (looks p c.loop-t.t (omega arith) (omega arith)).0, p.left c.loop-t.t (omega arith) (omega arith), p.right c.loop-t.t (omega arith) (omega arith))

pub loop-t-preserved : goal.loop-t-preserved
unfolding along
loop-t-preserved c = (omega arith, omega arith, filled_more c.loop-t.invariant.2 (omega arith) (omega (arith, c.loop-t.invariant.2.long, c.requires.0.inside, c.requires.1)) (kept c.less_at.type_inv c.less_at.ensures))

pub shape_of-out : goal.shape_of-out
shape_of-out c = c.loop-t.invariant.2.long

pub returns : goal.returns
returns c = let e : c.loop-t.t ≡ c.args.hi = omega arith in rw (← e) c.loop-t.invariant.2

pub overflow_mul-step : goal.overflow_mul-step
overflow_mul-step c = omega (arith, looks c.requires.0 c.loop-t.t (omega arith) (omega arith))

pub overflow_add-i : goal.overflow_add-i
overflow_add-i c = omega (arith, looks c.requires.0 c.loop-t.t (omega arith) (omega arith))
