-- `pass::widen` meets its contract: both ends are copied.
use Prim.Native.Nat.{◌-◌}
use mathlib.Core.Path.{refl}
use native.Mathlib.Omega.{arith}
use lib.ListN.{length}
use Rattle.pass.proofs.Places.{copies_filled}
use Rattle.pass.proofs.widen.Goals as goal

pub returns : goal.returns
returns c = let n = length c.args.out.now in
    copies_filled 6 n c.requires.0 c.args.out.now refl c.copy_within.new.self c.copy_within-2.new.self (n - 12 - (n - 18)) (omega arith)
    (omega (arith, c.copy_within.ensures.len, c.copy_within-2.ensures.len)) c.copy_within.ensures.by_index c.copy_within-2.ensures.by_index
