-- `little_endian::number_at` meets its contract: the value is the number that the bytes from place i on make.
use Prim.Native.Nat.{◌+◌, ◌-◌, ◌^◌, ◌<◌}
use mathlib.Core.Path.{◌≡◌}
use Rattle.little_endian.specs.Bytes.{number_at}
use Rattle.little_endian.proofs.number_at.Given as goal

abbrev pub invariant-loop-i : goal.invariant-loop-i
invariant-loop-i l = (l.value ≡ number_at l.bytes (l.at + l.i) (l.width - l.i)) × (l.value < 256 ^ (l.width - l.i))
