-- `filters::fill_inside` meets its contract: one row serves all its months.
use Rattle.integers.proofs.FillingLaws.{filled_as}
use Rattle.filters.proofs.Stretches.{inside_stretch, stretch_value}
use Rattle.filters.proofs.fill_inside.Goals as goal

pub returns : goal.returns
returns c = filled_as c.fill_row.ensures (stretch_value (inside_stretch c.requires.0) c.args.f.readable.step_least c.args.x.now)
