-- The sizes that a slice of signed numbers holds.
use Prim.Native.Nat.{ℕ, ◌≤◌}
use mathlib.Core.Path.{◌≡◌, sym, ap, ◌∙◌}
use mathlib.Core.List.{List, map}
use native.Mathlib.Omega.{arith}
use lib.ListN.{length, get_or, get_or-map}
use lib.IntN.{ℤ, pos, nat_abs}
use Rattle.integers.specs.Sizes.{◌within◌}
use Rattle.integers.specs.Lists.{◌‼◌, AllWithin}
use Rattle.integers.proofs.RoundingLaws.{away_from_zero-size}
use Rattle.integers.proofs.FillingLaws.{length-tab, tab-each}
use Rattle.extremes.specs.Spreads.{size_of, sizes_of}
use Rattle.extremes.specs.Promises.{largest_irregular, largest_size, AllBelow, Whole}

-- natural numbers held as signed ones are not negative
pub held_whole : {work : List ℤ} (l : List ℕ) → work ≡ map pos l → Whole work
held_whole {work} l e = record { at = λ t. let q : work ‼ t ≡ pos (get_or l t 0) = ap (λ (w : List ℤ). w ‼ t) e ∙ get_or-map pos l t 0 in q ∙ sym (ap (λ (z : ℤ). pos (nat_abs z)) q) }

-- ---- a slice that was filled with the sizes of an irregular
pub size_most : (z : ℤ) → z within largest_irregular → size_of z ≤ largest_size
unfolding size_of
size_most z h = (away_from_zero-size z 1000 largest_size (omega arith) h.abs).abs

pub length-sizes_of : (x : List ℤ) → length (sizes_of x) ≡ length x
unfolding sizes_of
length-sizes_of x = length-tab (length x) _

pub small-sizes : {x : List ℤ} → AllWithin largest_irregular x → AllBelow largest_size (sizes_of x)
unfolding sizes_of
small-sizes {x} h = record { at = tab-each (λ (a : ℕ). a ≤ largest_size) 0 (length x) (λ t. size_of (x ‼ t)) (omega arith) (λ t. size_most (x ‼ t) (h.at t)) }
