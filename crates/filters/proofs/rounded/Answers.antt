-- `filters::rounded` meets its contract: the row's denominator is cast, and is the number that it was.
use mathlib.Core.Path.{◌≡◌, ap, ap₂, ◌∙◌}
use Prim.Native.Nat.{ℕ, ◌*◌, ◌≤◌}
use native.Mathlib.Omega.{arith}
use lib.Dec.{lt→ltb}
use lib.IntN.{ℤ, pos, nat_abs}
use lib.Signed.{lt_z_yes}
use mir.Syntax.{w64}
use mir.Val.{SFits, to_z, of_z}
use Rattle.integers.proofs.Signed64.{Reads, i_arg, i_cast, kept, rounds}
use Rattle.integers.specs.Sizes.{◌within◌}
use Rattle.integers.specs.Rounding.{to_grain}
use Rattle.integers.specs.Promises.{largest_quotient, Rounds}
use Rattle.rows.specs.Stored.{largest_over}
use Rattle.filters.specs.Promises.{table_of}
use Rattle.filters.proofs.Window as window
use Rattle.filters.proofs.rounded.Goals as goal

-- a sum over a denominator d
module _ {sum : ℤ} (fits : SFits w64 sum) {D : ℕ} (h : sum within largest_quotient * D) (d : ℕ) (e : d ≡ D) (least : 1 ≤ d) (most : d ≤ largest_over) where
  cast : Reads (to_z w64 d) (pos d) largest_over
  cast = i_cast {n = d} {B = largest_over} most tt

  can : Rounds (to_z w64 (of_z w64 sum)) (to_z w64 d)
  can = rounds (i_arg fits h) cast (omega arith) (omega arith) (lt_z_yes (lt→ltb 0 d least))

  is : {z : ℤ} → z ≡ to_grain (to_z w64 (of_z w64 sum)) (nat_abs (to_z w64 d)) → z ≡ to_grain sum D
  is g = g ∙ ap₂ to_grain (i_arg fits h).eq (ap nat_abs cast.eq ∙ e)

pub to_grain-requires : goal.to_grain-requires
to_grain-requires c = let a = c.args in can c.ranges.sum c.requires a.f.middle (window.in_middle (table_of a.f) a.row c.if-row-f.true) a.f.readable.middle_least a.f.readable.middle_most

pub to_grain-requires-else-row-f : goal.to_grain-requires-else-row-f
to_grain-requires-else-row-f c = let a = c.args in can c.ranges.sum c.requires a.f.ends (window.at-ends (table_of a.f) a.row c.if-row-f.false) a.f.readable.ends_least a.f.readable.ends_most

pub returns-then-row-f : goal.returns-then-row-f
returns-then-row-f c = let a = c.args in is c.ranges.sum c.requires a.f.middle (window.in_middle (table_of a.f) a.row c.if-row-f.true) a.f.readable.middle_least a.f.readable.middle_most
    (kept c.to_grain.type_inv c.to_grain.ensures)

pub returns-else-row-f : goal.returns-else-row-f
returns-else-row-f c = let a = c.args in is c.ranges.sum c.requires a.f.ends (window.at-ends (table_of a.f) a.row c.if-row-f.false) a.f.readable.ends_least a.f.readable.ends_most
    (kept c.to_grain-else-row-f.type_inv c.to_grain-else-row-f.ensures)
