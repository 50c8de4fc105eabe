-- `series::changes` meets its contract: the distance of the months from those a span before them.
use mathlib.Core.Path.{◌∙◌}
use native.Mathlib.Omega.{arith}
use Rattle.series.proofs.ChangeLaws.{distance-changes, changes-most}
use Rattle.series.proofs.changes.Goals as goal

pub distance-requires : goal.distance-requires
distance-requires c = omega (arith, distance-changes c.requires, changes-most c.requires)

pub returns : goal.returns
returns c = let e = c.distance.ensures ∙ distance-changes c.requires in (e, omega (arith, e, changes-most c.requires))
