-- `filters::dot` meets its contract: the sum so far is the weighted sum of the first k, and within the sizes of the first k weights times the largest value.
use Prim.Native.Nat.{◌≤◌, ◌*◌, ◌+◌}
use lib.ListN.{length}
use Rattle.integers.proofs.Signed64.{Reads}
use Rattle.integers.specs.Lists.{◌‼◌}
use Rattle.integers.specs.Sums.{wsum, norm}
use Rattle.filters.specs.Promises.{largest}
use Rattle.filters.proofs.dot.Given as goal

abbrev pub invariant-loop-k : goal.invariant-loop-k
invariant-loop-k l =
    (l.k ≤ length l.weights) × Reads l.sum (wsum l.k (λ j. l.weights ‼ j) (λ j. l.x ‼ (l.from + j * l.step))) (norm l.k (λ j. l.weights ‼ j) * largest)
