-- `doubles::number_of` meets its contract: the sum with positive zero is the double of the number, which the cast gives back.
use Rattle.std.proofs.Common.{◌≡◌, T, ℤ, sym, ap, ◌∙◌, subst, w32, to_z, of_z}
use lib.Ieee.{Float, binary64, add, of_bits, in_signed, to_signed}
use mir.ValLaws.{to_z-of_z}
use Rattle.doubles.specs.Doubles.{number_in}
use Rattle.doubles.proofs.Counting.{counts-size, fits32, from_zero, cast_back}
use Rattle.doubles.proofs.number_of.Goals as goal

pub float_to_int-result : goal.float_to_int-result
float_to_int-result c =
    let x = c.args.x in
    subst (λ (y : Float). T (in_signed binary64 31 y)) (sym (from_zero x c.requires)) (cast_back x c.requires).0

pub returns : goal.returns
returns c =
    let x = c.args.x in
    let h = c.requires in
    let e : to_signed 31 (add binary64 (of_bits binary64 0) x) ≡ number_in x = ap (to_signed 31) (from_zero x h) ∙ (cast_back x h).1 in
    ap (λ (z : ℤ). to_z w32 (of_z w32 z)) e ∙ to_z-of_z w32 (number_in x) (fits32 (number_in x) (counts-size x h))
