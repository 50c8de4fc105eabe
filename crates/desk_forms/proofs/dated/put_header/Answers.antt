-- `desk_forms::dated::put_header` meets its contract: the count, then the two bytes after it.
use Prim.Native.Nat.{◌%◌}
use mathlib.Core.Path.{◌≡◌}
use native.Mathlib.Omega.{arith}
use Rattle.little_endian.specs.Bytes.{bytes_of}
use Rattle.desk_forms.specs.Header.{header}
use Rattle.desk_forms.proofs.dated.put_header.Goals as goal

pub returns : goal.returns
unfolding header bytes_of
returns c =
    let small : c.args.start % 256 ≡ c.args.start = omega arith in
    rw (c.put_number.ensures, small)
