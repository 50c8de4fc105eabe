-- Lines like those of METHOD 9, and one with negative numbers, worked by the definitions.
use mathlib.Core.Path.{◌≡◌, refl}
use mathlib.Core.List.{[], ◌∷◌}
use lib.IntN.{pos, negsuc}
use Rattle.decimals.specs.Decimal.{digits_in, digits, signed_digits}
use Rattle.print_lines.specs.Text.{refused_line, first_line, month_line}

-- `months 72 start 1`
first_text : first_line 72 1 ≡ 109 ∷ 111 ∷ 110 ∷ 116 ∷ 104 ∷ 115 ∷ 32 ∷ 55 ∷ 50 ∷ 32 ∷ 115 ∷ 116 ∷ 97 ∷ 114 ∷ 116 ∷ 32 ∷ 49 ∷ 10 ∷ []
unfolding first_line digits digits_in
first_text = refl

-- `5 100 0 100000 100000 0 1000`, and with negative numbers: `71 -2000 -1 -20000 -12 3 0`
month-text : month_line (record { t = 5; figure = pos 100; d10 = pos 0; d11 = pos 100000; d12 = pos 100000; d13 = pos 0; c17 = 1000 })
    ≡ 53 ∷ 32 ∷ 49 ∷ 48 ∷ 48 ∷ 32 ∷ 48 ∷ 32 ∷ 49 ∷ 48 ∷ 48 ∷ 48 ∷ 48 ∷ 48 ∷ 32 ∷ 49 ∷ 48 ∷ 48 ∷ 48 ∷ 48 ∷ 48 ∷ 32 ∷ 48 ∷ 32 ∷ 49 ∷ 48 ∷ 48 ∷ 48 ∷ 10 ∷ []
unfolding month_line signed_digits digits digits_in
month-text = refl

negative_text : month_line (record { t = 71; figure = negsuc 1999; d10 = negsuc 0; d11 = negsuc 19999; d12 = negsuc 11; d13 = pos 3; c17 = 0 })
    ≡ 55 ∷ 49 ∷ 32 ∷ 45 ∷ 50 ∷ 48 ∷ 48 ∷ 48 ∷ 32 ∷ 45 ∷ 49 ∷ 32 ∷ 45 ∷ 50 ∷ 48 ∷ 48 ∷ 48 ∷ 48 ∷ 32 ∷ 45 ∷ 49 ∷ 50 ∷ 32 ∷ 51 ∷ 32 ∷ 48 ∷ 10 ∷ []
unfolding month_line signed_digits digits digits_in
negative_text = refl

-- `refused 10 5`
refused_text : refused_line 10 5 ≡ 114 ∷ 101 ∷ 102 ∷ 117 ∷ 115 ∷ 101 ∷ 100 ∷ 32 ∷ 49 ∷ 48 ∷ 32 ∷ 53 ∷ 10 ∷ []
unfolding refused_line digits digits_in
refused_text = refl
