-- `little_endian::word` meets its contract.
use mathlib.Core.Path.{◌∙◌, ap}
use mir.Syntax.{w32}
use mir.Val.{of_z}
use mir.Facts.{to_z-of_z}
use Rattle.little_endian.proofs.SignedLaws.{word_bits}
use Rattle.little_endian.proofs.word.Goals as goal

pub returns : goal.returns
returns c = c.cast_unsigned.ensures ∙ ap (of_z w32) (to_z-of_z c.ranges.x) ∙ word_bits c.args.x
