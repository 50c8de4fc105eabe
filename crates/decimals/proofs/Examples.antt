-- Numbers worked by the definitions.
use mathlib.Core.Path.{◌≡◌, refl}
use mathlib.Core.List.{[], ◌∷◌}
use lib.IntN.{pos, negsuc}
use Rattle.decimals.specs.Decimal.{digits_in, digits, signed_digits}

-- `0` and `-1`
zero-text : signed_digits (pos 0) ≡ 48 ∷ []
unfolding signed_digits digits digits_in
zero-text = refl

minus-text : signed_digits (negsuc 0) ≡ 45 ∷ 49 ∷ []
unfolding signed_digits digits digits_in
minus-text = refl
