use Prim.Native.Nat.{ℕ, ◌+◌, ◌*◌}
use mathlib.Core.Path.{◌≡◌, sym, ap, ap₂, ◌∙◌}
use native.Mathlib.Omega.{arith}
use lib.ListN.{length}
use lib.IntN.{pos}
use Rattle.integers.specs.Sizes.{◌within◌}
use Rattle.integers.proofs.SizeLaws.{by-abs, sfits64}
use Rattle.integers.proofs.FillingLaws.{filled_none, filled_more, filled-tab}
use Rattle.integers.proofs.Signed64.{i_in}
use Rattle.refusals.specs.Limits.{most_months}
use Rattle.extremes.specs.Years.{months}
use Rattle.extremes.specs.Spreads.{squares}
use Rattle.extremes.specs.Promises.{largest_size, running_squares}
use Rattle.extremes.proofs.ListLaws.{map-tab}
use Rattle.extremes.proofs.RunningSums.{squares-none, squares-next, squares-small}
use Rattle.extremes.proofs.sizes.fill_sums.Lts as lts
use Rattle.extremes.proofs.sizes.fill_sums.Tie as tie
use Rattle.extremes.proofs.sizes.fill_sums.Reads as reads
use Rattle.extremes.proofs.sizes.fill_sums.Goals as goal

abbrev After-at-a : Type 0
After-at-a = lts.After-at tie.the-claims reads.Pre reads.Post goal.the-invariant-loop-t goal.the-decreases-loop-t

pub loop-t-init : goal.loop-t-init
loop-t-init c = (omega arith, sym (squares-none c.args.sizes.now), filled_none)

-- the sum with this month's square: what it is, and that it is small
next : (c : After-at-a) → c.loop-t.sum + c.at-a.result * c.at-a.result ≡ squares (months 0 (c.loop-t.t + 1) c.args.sizes.now)
next c = ap₂ (λ (s a : ℕ). s + a * a) c.loop-t.invariant.1 c.at-a.ensures ∙ squares-next c.args.sizes.now c.loop-t.t (omega arith)

small : (c : After-at-a) → pos (c.loop-t.sum + c.at-a.result * c.at-a.result) within most_months * (largest_size * largest_size)
small c = by-abs (omega (arith, next c, squares-small c.args.sizes.now c.requires.0 (omega arith) (c.loop-t.t + 1) (omega arith)))

pub loop-t-preserved : goal.loop-t-preserved
loop-t-preserved c = (omega arith, next c, filled_more c.loop-t.invariant.2 (omega arith) (omega arith) ((i_in (small c) tt).eq ∙ ap pos (next c)))

pub returns : goal.returns
unfolding running_squares
returns c = let l = c.args.sizes.now in
    filled-tab c.loop-t.invariant.2 (omega arith) c.requires.2 ∙ sym (map-tab pos (length l) (λ t. squares (months 0 (t + 1) l)))

pub overflow_add-sum : goal.overflow_add-sum
overflow_add-sum c = omega (arith, small c)

pub overflow_cast-sums : goal.overflow_cast-sums
overflow_cast-sums c = sfits64 (small c) (omega arith)
