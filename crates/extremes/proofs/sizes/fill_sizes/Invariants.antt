-- `extremes::sizes::fill_sizes` meets its contract: the months passed have their sizes.
use Prim.Native.Nat.{ℕ, ◌≤◌, ◌-◌}
use mathlib.Core.List.{List}
use lib.ListN.{length}
use lib.IntN.{ℤ, pos}
use Rattle.integers.specs.Lists.{◌‼◌}
use Rattle.integers.specs.Filling.{Filled}
use Rattle.extremes.specs.Spreads.{size_of}
use Rattle.extremes.proofs.sizes.fill_sizes.Given as goal

abbrev held : List ℤ → ℕ → ℤ
held x t = pos (size_of (x ‼ t))

abbrev pub invariant-loop-t : goal.invariant-loop-t
invariant-loop-t l = (l.t ≤ length l.irregular) × Filled (pos 0) (held l.irregular) 0 l.t l.initial.sizes l.sizes

abbrev pub decreases-loop-t : goal.decreases-loop-t
decreases-loop-t l = length l.irregular - l.t
