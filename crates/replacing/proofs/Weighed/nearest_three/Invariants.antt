-- `replacing::Weighed::nearest_three` meets its contract: what was taken so far and what is still to come make the whole.
use Rattle.refusals.specs.Limits.{months_of_year}
use Rattle.replacing.proofs.Choosing.{Choosing}
use Rattle.replacing.proofs.Weighed.nearest_three.Given as goal

abbrev pub invariant-loop-count : goal.invariant-loop-count
invariant-loop-count l = Choosing months_of_year l.self.x.now l.self.w.now l.t l.a l.b l.count l.sum
