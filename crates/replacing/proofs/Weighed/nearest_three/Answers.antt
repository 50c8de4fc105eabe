use mathlib.Core.Path.{◌≡◌}
use native.Mathlib.Omega.{arith}
use Rattle.integers.proofs.Signed64.{i_kept}
use Rattle.replacing.proofs.Choosing.{choose_start, choose_adds, choose_none, choose_earlier, choose_later, choose_end}
use Rattle.replacing.proofs.Weighed.nearest_three.Goals.{then-p-t, else-p-t}
use Rattle.replacing.proofs.Weighed.nearest_three.Goals as goal

pub loop-count-init : goal.loop-count-init
loop-count-init c = choose_start c.args.preceding c.args.following c.requires.1 c.requires.2

pub returns-in_default : goal.returns-in_default
returns-in_default c = choose_none c.loop-count.invariant (omega arith) cc

pub loop-count-preserved : goal.loop-count-preserved
loop-count-preserved c = let y = c.args.self.now.fits.filterable.small in let g = c.loop-count.invariant in
    let sum_is = (i_kept (choose_adds g y c.loop-count-test.true c.in-Some.p) tt).eq in
    elim c.if-p-t.branch [
      | then-p-t k ↦ rw (k.a-is, k.b-is) (choose_earlier g (omega arith) k.back-a.result c.in-Some.p (cc) k.if-p-t.true sum_is y k.back-a.ensures)
      | else-p-t k ↦ rw (k.a-is, k.b-is) (choose_later g (omega arith) k.ahead-b.result c.in-Some.p (cc) k.if-p-t.false sum_is y k.ahead-b.ensures)
    ]

pub returns : goal.returns
returns c = let e : c.loop-count.count ≡ 3 = omega arith in choose_end (rw e at c.loop-count.invariant)
