-- `three_passes::Checked::correct_extremes` meets its contract: the irregular, its weights, and the series less its corrections.
use native.Mathlib.Omega.{arith}
use Rattle.three_passes.proofs.Correcting.{beside, minusable, to_irregular, weighable, weighted, extremes_corrected}
use Rattle.three_passes.proofs.Checked.correct_extremes.Goals as goal

pub adjusted-requires : goal.adjusted-requires
adjusted-requires c = let s = c.requires in (beside c.args.self.now.workable s.0, s.2)

pub minus-requires : goal.minus-requires
minus-requires c = let s = c.requires in (minusable c.args.self.now.workable s.0 c.adjusted.ensures, omega (arith, s, c.adjusted))

pub weights-requires : goal.weights-requires
weights-requires c = let s = c.requires in
    weighable c.args.self.now.workable s.0 (to_irregular c.args.self.now.workable s.0 c.adjusted.ensures c.minus.ensures) (omega (arith, s.2, c.adjusted)) s.1 s.4

pub corrected-requires : goal.corrected-requires
corrected-requires c = let s = c.requires in
    (weighted c.args.self.now.workable s.0 (to_irregular c.args.self.now.workable s.0 c.adjusted.ensures c.minus.ensures) c.weights.ensures.weights, omega (arith, s.1, c.weights))

pub returns : goal.returns
returns c = let s = c.requires in
    extremes_corrected c.args.self.now.workable s.0 (to_irregular c.args.self.now.workable s.0 c.adjusted.ensures c.minus.ensures) c.weights.ensures.weights c.corrected.ensures
