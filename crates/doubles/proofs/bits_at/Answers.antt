-- `doubles::bits_at` meets its contract: the number that eight bytes make, low byte first.
use Prim.Native.Nat.{ℕ, suc, ◌+◌, ◌-◌, ◌≤◌, ◌<◌}
use mathlib.Core.List.{List}
use Rattle.std.proofs.Common.{◌≡◌, arith, length, get_or, take, drop}
use Rattle.std.specs.List.{slice_index}
use Rattle.std.proofs.lemmas.Grind.{common_steps}
use Rattle.little_endian.specs.Bytes.{number_at}
use Rattle.doubles.proofs.bits_at.Goals as goal

-- a byte of the eight
byte : (bytes eight : List ℕ) (at k i : ℕ) → at + 8 ≤ length bytes → eight ≡ take (at + 8 - at) (drop at bytes) → k ≡ at + i → i < 8 → slice_index eight i ≡ get_or bytes k 0
byte bytes eight at k i h e m l = grind (arith, common_steps)

pub returns : goal.returns
unfolding number_at
returns c =
    let at = c.args.at in
    let b = λ (k i : ℕ) (m : k ≡ at + i) (l : i < 8). byte c.args.bytes.now c.copy_from_slice.new.self at k i c.requires c.copy_from_slice.ensures.after m l in
    record {
      value = omega (
        arith,
        c.from_le_bytes.ensures,
        b at 0 (omega arith) (omega arith),
        b (suc at) 1 (omega arith) (omega arith),
        b (suc (suc at)) 2 (omega arith) (omega arith),
        b (suc (suc (suc at))) 3 (omega arith) (omega arith),
        b (suc (suc (suc (suc at)))) 4 (omega arith) (omega arith),
        b (suc (suc (suc (suc (suc at))))) 5 (omega arith) (omega arith),
        b (suc (suc (suc (suc (suc (suc at)))))) 6 (omega arith) (omega arith),
        b (suc (suc (suc (suc (suc (suc (suc at))))))) 7 (omega arith) (omega arith),
      );
      small = c.from_le_bytes.type_inv;
    }
