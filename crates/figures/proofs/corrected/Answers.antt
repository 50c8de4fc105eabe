use Rattle.std.proofs.Common.{rules}
use mathlib.Core.Path.{◌∙◌}
use native.Mathlib.Omega.{arith}
use lib.ListN.{length, get_or}
use lib.IntN.{pos, ◌*ℤ◌, ◌-ℤ◌}
use Rattle.integers.specs.Lists.{◌‼◌}
use Rattle.integers.proofs.FillingLaws.{tab-same}
use Rattle.refusals.specs.Limits.{unit}
use Rattle.extremes.specs.Weighing.{correction_of}
use Rattle.figures.proofs.Loops.{corrected_is}
use Rattle.figures.proofs.corrected.Goals as goal

pub returns : goal.returns
returns c = let f = c.args.figures.now in let z = c.args.irregular.now in let w = c.args.weights.now in
    tab-same (pos 0) (length f) (λ t. pos unit *ℤ (f ‼ t) -ℤ correction_of (z ‼ t) (get_or w t 0)) c.fill.new.out (omega (arith, c.fill.ensures.0)) (λ t h. let p = c.fill.ensures.1 t (omega arith) in search rules)
    ∙ corrected_is unit f z w c.requires.0.irregular_long
