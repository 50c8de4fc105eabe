-- `extremes::spreads::MonthSizes::sum_before` meets its contract: the running sum of the month before; before month 0 there is none.
use Prim.Native.Nat.{ℕ, ◌+◌, ◌-◌}
use mathlib.Core.Path.{◌≡◌, sym, ap, ◌∙◌}
use mathlib.Core.List.{List}
use native.Mathlib.Omega.{arith}
use lib.ListN.{length, get_or}
use Rattle.extremes.specs.Years.{months}
use Rattle.extremes.specs.Spreads.{squares}
use Rattle.extremes.proofs.RunningSums.{squares-none, length-running, sum_up_to}
use Rattle.extremes.proofs.spreads.MonthSizes.sum_before.Goals as goal

pub at-requires : goal.at-requires
at-requires c = let m = c.args.self.now in omega (arith, ap length m.summed, length-running m.sizes)

pub returns-then-t-eq0 : goal.returns-then-t-eq0
returns-then-t-eq0 c = rw c.if-t-eq0.true (sym (squares-none c.args.self.now.sizes))

pub returns-else-t-eq0 : goal.returns-else-t-eq0
returns-else-t-eq0 c = let m = c.args.self.now in let t = c.args.t in let e : t - 1 + 1 ≡ t = omega arith in
    c.at.ensures ∙ ap (λ (l : List ℕ). get_or l (t - 1) 0) m.summed ∙ sum_up_to m.sizes (t - 1) (omega arith) ∙ ap (λ (u : ℕ). squares (months 0 u m.sizes)) e
