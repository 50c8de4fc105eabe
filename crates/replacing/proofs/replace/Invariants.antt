-- `replacing::replace` meets its contract: each entry below t is replaced.
use Prim.Native.Nat.{◌≤◌, ◌-◌}
use mathlib.Core.Path.{◌≡◌}
use lib.IntN.{pos}
use lib.ListN.{length}
use Rattle.integers.specs.Filling.{Filled}
use Rattle.refusals.specs.Limits.{months_of_year}
use Rattle.replacing.specs.Replaced.{replaced_at}
use Rattle.replacing.proofs.replace.Given as goal

abbrev pub invariant-loop-t : goal.invariant-loop-t
invariant-loop-t l = (l.t ≤ l.t-end) × (l.t-end ≡ length l.x) × Filled (pos 0) (replaced_at months_of_year l.w l.x) 0 l.t l.initial.out l.out

abbrev pub decreases-loop-t : goal.decreases-loop-t
decreases-loop-t l = l.t-end - l.t
