-- `integers::root` meets its contract: the candidate is above the root, and falls until its square is not above x.
use Prim.Native.Nat.{◌≤◌, ◌<◌, ◌*◌}
use Rattle.integers.specs.Promises.{largest_candidate}
use Rattle.integers.proofs.root.Given as goal

abbrev pub invariant-loop-next : goal.invariant-loop-next
invariant-loop-next l = (1 ≤ l.r) × (l.r ≤ largest_candidate) × (l.x < l.r * l.r)

abbrev pub decreases-loop-next : goal.decreases-loop-next
decreases-loop-next l = l.r
