-- `integers::away_from_zero` meets its contract: each value of the code with the number that it is and a bound.
use Prim.Native.Nat.{◌+◌, ◌*◌}
use mathlib.Core.Path.{ap₂, ◌∙◌}
use lib.IntN.{pos, ◌*ℤ◌}
use mir.Syntax.{w64}
use mir.Val.{to_z, of_z}
use mir.Facts.{to_z-of_z}
use Rattle.integers.proofs.Signed64.{Reads, i_arg, i_lit, i*, i/, i_kept, i_call, numerator_within}
use Rattle.integers.specs.Promises.{largest_numerator, largest_divisor, farther}
use Rattle.integers.proofs.RoundingLaws.{farther-quot, farther-within}
use Rattle.integers.proofs.away_from_zero.Lts as lts
use Rattle.integers.proofs.away_from_zero.Tie as tie
use Rattle.integers.proofs.away_from_zero.Reads as reads
use Rattle.integers.proofs.away_from_zero.Goals as goal

abbrev Start : Type 0
Start = lts.Start tie.the-claims reads.Pre reads.Post

abbrev After-farther : Type 0
After-farther = lts.After-farther tie.the-claims reads.Pre reads.Post

module _ (s : Start) where
  -- the divisor and its double
  twice-d : Reads (pos 2 *ℤ to_z w64 (of_z w64 s.args.d)) (pos 2 *ℤ s.args.d) (2 * largest_divisor)
  twice-d = i* (i_lit 2) (i_arg s.ranges.d s.requires.divisor)

numerator : (c : After-farther) → Reads (to_z w64 (of_z w64 c.farther.result)) (farther c.args.x c.args.d) (2 * largest_numerator + largest_divisor)
numerator c = i_call c.farther.type_inv (c.farther.ensures ∙ ap₂ farther (to_z-of_z c.ranges.x) (to_z-of_z c.ranges.d)) (farther-within (numerator_within c.requires) c.requires.divisor)

pub returns : goal.returns
returns c = (i_kept (i/ (numerator c) (i_kept (twice-d c.before) tt)) tt).eq ∙ farther-quot c.args.x c.args.d c.requires.positive
