-- `replacing::Weighed::back` meets its contract: no place that was passed has weight 1,000.
use Rattle.refusals.specs.Limits.{months_of_year}
use Rattle.replacing.proofs.WalkLaws.{GoneBack}
use Rattle.replacing.proofs.Weighed.back.Given as goal

abbrev pub invariant-loop-q : goal.invariant-loop-q
invariant-loop-q l = GoneBack months_of_year l.self.w.now l.p l.at

abbrev pub decreases-loop-q : goal.decreases-loop-q
decreases-loop-q l = l.at
