-- `little_endian::put_number` meets its contract: what is stored, with the rest in the bytes from i on, is what is to be stored.
use Prim.Native.Nat.{◌+◌, ◌-◌}
use mathlib.Core.Path.{◌≡◌}
use lib.Seq.{sets}
use Rattle.little_endian.specs.Bytes.{bytes_of}
use Rattle.little_endian.proofs.put_number.Given as goal

abbrev pub invariant-loop-i : goal.invariant-loop-i
invariant-loop-i l = sets l.initial.out l.at (bytes_of l.width l.value) ≡ sets l.out (l.at + l.i) (bytes_of (l.width - l.i) l.rest)
