use Rattle.integers.proofs.RootLaws.{root-unique, narrowed}
use Rattle.integers.proofs.root.Goals as goal

pub returns : goal.returns
returns c = root-unique (record { low = c.if-next-x.true; high = narrowed c.args.x c.loop-next.r c.loop-next.invariant.0 })
