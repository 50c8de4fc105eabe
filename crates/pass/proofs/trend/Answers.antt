-- `pass::trend` meets its contract: a difference, then Henderson.
use mathlib.Core.Path.{ap, ◌∙◌}
use native.Mathlib.Omega.{arith}
use Rattle.filters.specs.Filter.{filter}
use Rattle.rows.specs.FilterTables.{table_henderson}
use Rattle.pass.proofs.Stages.{less_filterable}
use Rattle.pass.proofs.trend.Goals as goal

pub henderson-requires : goal.henderson-requires
henderson-requires c = (less_filterable c.requires.0 c.minus.ensures, omega (arith, c.requires, c.requires.0.long), omega (arith, c.requires))

pub returns : goal.returns
returns c = c.henderson.ensures ∙ ap (filter (table_henderson c.args.terms)) c.minus.ensures
