-- `replacing::SumAndCount::mean_with` meets its contract: the counted sum fits, and what it is over is from 1 to 5,000.
use Prim.Native.Nat.{ℕ, ◌*◌, ◌≤◌}
use mathlib.Core.Path.{ap, ap₂, ◌∙◌}
use native.Mathlib.Omega.{arith}
use lib.Dec.{lt→ltb}
use lib.IntN.{pos, nat_abs}
use lib.Signed.{lt_z_yes}
use mir.Syntax.{w64}
use mir.Val.{to_z}
use Rattle.integers.specs.Rounding.{to_grain}
use Rattle.integers.proofs.Signed64.{Reads, i_cast, i_kept, i_bound, kept, rounds}
use Rattle.refusals.specs.Limits.{full_weight}
use Rattle.replacing.proofs.NeighbourLaws.{total_read, total-within}
use Rattle.replacing.proofs.SumAndCount.mean_with.Goals as goal

-- what the mean is over, as the call gave it
over_read : (d : ℕ) → d ≤ 5 * full_weight → Reads (to_z w64 d) (pos d) (5 * full_weight)
over_read d h = i_cast {n = d} {B = 5 * full_weight} h tt

pub to_grain-requires : goal.to_grain-requires
to_grain-requires c = let r = c.requires in
    rounds (i_bound (i_kept (total_read r.0 r.1 r.2 r.4) tt) (total-within r.0 r.1 r.2 r.4)) (over_read c.counted.result (omega (arith, c.counted.ensures, r)))
    (omega (arith, c.counted.ensures)) (omega arith) (lt_z_yes (lt→ltb 0 c.counted.result (omega (arith, c.counted.ensures, r))))

pub returns : goal.returns
returns c = let r = c.requires in
    kept c.to_grain.type_inv c.to_grain.ensures
    ∙ ap₂ to_grain (i_kept (total_read r.0 r.1 r.2 r.4) tt).eq (ap nat_abs (over_read c.counted.result (omega (arith, c.counted.ensures, r))).eq ∙ c.counted.ensures)
