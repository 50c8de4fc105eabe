use mathlib.Core.Path.{sym, ◌∙◌}
use native.Mathlib.Omega.{arith}
use lib.ListN.{length}
use lib.IntN.{pos}
use Rattle.integers.specs.Lists.{◌‼◌}
use Rattle.integers.proofs.FillingLaws.{filled-tab}
use Rattle.extremes.specs.Spreads.{size_of, sizes_of}
use Rattle.extremes.proofs.ListLaws.{map-tab}
use Rattle.extremes.proofs.sizes.fill_sizes.Goals as goal

pub returns : goal.returns
unfolding sizes_of
returns c = let x = c.args.irregular.now in
    filled-tab c.loop-t.invariant.1 (omega arith) c.requires.1 ∙ sym (map-tab pos (length x) (λ t. size_of (x ‼ t)))
