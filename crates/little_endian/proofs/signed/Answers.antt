-- `little_endian::signed` meets its contract.
use mathlib.Core.Path.{◌∙◌}
use borrow.Author.Rules.{sfits_of}
use native.Mathlib.Omega.{arith}
use mir.Syntax.{w32}
use mir.Facts.{to_z-of_z}
use Rattle.little_endian.proofs.SignedLaws.{signed_bits}
use Rattle.little_endian.proofs.signed.Goals as goal

pub returns : goal.returns
returns c = to_z-of_z {w = w32} (sfits_of c.cast_signed.type_inv) ∙ c.cast_signed.ensures ∙ signed_bits c.args.w (omega arith)
