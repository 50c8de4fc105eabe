-- `extremes::sizes::fill_sums` meets its contract: the months passed have their sums, and the last of them is carried on.
use Prim.Native.Nat.{ℕ, ◌≤◌, ◌-◌, ◌+◌}
use mathlib.Core.List.{List}
use mathlib.Core.Path.{◌≡◌}
use lib.ListN.{length}
use lib.IntN.{ℤ, pos}
use Rattle.integers.specs.Filling.{Filled}
use Rattle.extremes.specs.Years.{months}
use Rattle.extremes.specs.Spreads.{squares}
use Rattle.extremes.proofs.sizes.fill_sums.Given as goal

abbrev held : List ℕ → ℕ → ℤ
held sizes t = pos (squares (months 0 (t + 1) sizes))

abbrev pub invariant-loop-t : goal.invariant-loop-t
invariant-loop-t l = (l.t ≤ length l.sizes) × (l.sum ≡ squares (months 0 l.t l.sizes)) × Filled (pos 0) (held l.sizes) 0 l.t l.initial.sums l.sums

abbrev pub decreases-loop-t : goal.decreases-loop-t
decreases-loop-t l = length l.sizes - l.t
