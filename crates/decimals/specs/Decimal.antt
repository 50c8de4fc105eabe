-- METHOD 9.3, numbers as text in ASCII: decimal digits, the most significant first, and no more of them than the number needs.
use Rattle.std.specs.Prelude.{ℕ, zero, suc, ◌+◌, ◌/◌, ◌%◌, cond, List, [], ◌∷◌, ◌++◌, ltb, ℤ, pos, negsuc}

-- the ASCII code of a digit
abbrev pub digit : ℕ → ℕ
digit d = 48 + d

-- the digits of a tenth, then the last digit; k is at least the number of divisions
unfoldable pub digits_in : ℕ → ℕ → List ℕ
digits_in zero n = digit n ∷ []
digits_in (suc k) n = cond (ltb n 10) (digit n ∷ []) (digits_in k (n / 10) ++ digit (n % 10) ∷ [])

unfoldable pub digits : ℕ → List ℕ
digits n = digits_in n n

-- METHOD 9.3: a minus sign before negative numbers only
abbrev pub minus_sign : ℕ
minus_sign = 45

unfoldable pub signed_digits : ℤ → List ℕ
signed_digits (pos n) = digits n
signed_digits (negsuc n) = minus_sign ∷ digits (suc n)

-- a number of 64 bits takes at most so many digits, and with its sign at most so many bytes
abbrev pub most_digits : ℕ
most_digits = 20

abbrev pub most_signed : ℕ
most_signed = 1 + most_digits
