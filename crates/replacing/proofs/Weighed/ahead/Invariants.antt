-- `replacing::Weighed::ahead` meets its contract: no place that was passed has weight 1,000.
use Prim.Native.Nat.{◌-◌, ◌<◌}
use lib.ListN.{length}
use Rattle.refusals.specs.Limits.{months_of_year}
use Rattle.replacing.proofs.WalkLaws.{GoneAhead}
use Rattle.replacing.proofs.Weighed.ahead.Given as goal

abbrev pub invariant-loop-q : goal.invariant-loop-q
invariant-loop-q l = GoneAhead months_of_year l.self.w.now l.p l.at × (l.at < length l.self.w.now)

abbrev pub decreases-loop-q : goal.decreases-loop-q
decreases-loop-q l = length l.self.w.now - l.at
