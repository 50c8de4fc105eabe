use Rattle.std.proofs.Common.{rules}
use mathlib.Core.Path.{◌∙◌}
use native.Mathlib.Omega.{arith}
use lib.ListN.{length}
use lib.IntN.{pos, ◌*ℤ◌, ◌-ℤ◌}
use Rattle.integers.specs.Lists.{◌‼◌}
use Rattle.integers.proofs.FillingLaws.{tab-same}
use Rattle.refusals.specs.Limits.{unit}
use Rattle.figures.proofs.Loops.{less_is}
use Rattle.figures.proofs.adjusted.Goals as goal

pub returns : goal.returns
returns c = let f = c.args.figures.now in let s = c.args.s.now in
    tab-same (pos 0) (length f) (λ t. pos unit *ℤ (f ‼ t) -ℤ (s ‼ t)) c.fill.new.out (omega (arith, c.fill.ensures.0)) (λ t h. let p = c.fill.ensures.1 t (omega arith) in search rules) ∙ less_is unit f s
