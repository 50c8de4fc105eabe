-- `series::zero_front` meets its contract: the front that is filled.
use mathlib.Core.Path.{ap, ◌∙◌}
use mathlib.Core.List.{List, ◌++◌}
use lib.ListN.{drop}
use lib.IntN.{ℤ}
use Rattle.series.proofs.Lengths.{zeros}
use Rattle.series.proofs.zero_front.Goals as goal

pub returns : goal.returns
returns c = let s = c.args.s.now in ap (λ (l : List ℤ). l ++ drop c.args.n s) (c.fill.ensures.after (λ y e. e) ∙ zeros c.args.n s c.requires)
