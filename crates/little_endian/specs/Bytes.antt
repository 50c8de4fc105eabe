-- METHOD 7.1 and 7.10: numbers in bytes, low byte first.
use Rattle.std.specs.Prelude.{ℕ, zero, suc, ◌+◌, ◌-◌, ◌*◌, ◌/◌, ◌%◌, ◌^◌, ◌<◌, ◌≡◌, cond, List, [], ◌∷◌, ◌++◌, ltb, ℤ, pos, negsuc, ◌-ℤ◌, length, get_or}

-- a byte string: every element is below 256
pub record AreBytes (bytes : List ℕ) : Type 0 where
  pub each : (i : ℕ) → i < length bytes → get_or bytes i 0 < 256

-- a number in so many bytes: the width first, then the number; what does not fit is dropped
unfoldable pub bytes_of : ℕ → ℕ → List ℕ
bytes_of zero number = []
bytes_of (suc width) number = number % 256 ∷ bytes_of width (number / 256)

-- the number that so many bytes make, from a place of a byte string on
unfoldable pub number_at : List ℕ → ℕ → ℕ → ℕ
number_at bytes at zero = 0
number_at bytes at (suc width) = get_or bytes at 0 + 256 * number_at bytes (suc at) width

-- what reading so many bytes promises
pub record Number (bytes : List ℕ) (at width number : ℕ) : Type 0 where
  pub value : number ≡ number_at bytes at width
  pub small : number < 256 ^ width

-- a signed number of 4 bytes: from -2 ^ 31 to 2 ^ 31 - 1 (`negsuc k` is the number -1 - k)
abbrev pub FourBytes : ℤ → Type 0
FourBytes (pos n) = n < 2 ^ 31
FourBytes (negsuc k) = k < 2 ^ 31

-- METHOD 7.1, two's complement: it is stored as this number: below zero, 2 ^ 32 is added
unfoldable pub word : ℤ → ℕ
word (pos n) = n
word (negsuc k) = 2 ^ 32 - suc k

-- and read again: from 2 ^ 31 on 2 ^ 32 is taken off, a number below 2 ^ 31 stays
unfoldable pub signed : ℕ → ℤ
signed w = cond (ltb w (2 ^ 31)) (pos w) (pos w -ℤ pos (2 ^ 32))

-- an array: one number after the other, each in so many bytes; `code` gives the number that stands for a value
unfoldable pub array : {A : Type 0} → ℕ → (A → ℕ) → List A → List ℕ
array width code [] = []
array width code (x ∷ xs) = bytes_of width (code x) ++ array width code xs
