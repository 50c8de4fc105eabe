-- `put` of a `u64` meets its contract: it puts what `digits` is made of, in the same order. The measure is the number.
use Rattle.decimals.proofs.U64Number.+put.Given as goal

abbrev pub decreases-put : goal.decreases-put
decreases-put l = l.self
