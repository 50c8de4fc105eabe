-- Laws of signed numbers of 4 bytes, as numbers below 2 ^ 32: they are the machine's own reading of 32 bits, and its bits of a number.
use Prim.Native.Nat.{ℕ, ◌<◌, ◌≤◌}
use mathlib.Core.Path.{◌≡◌, refl, sym, ap, ◌∙◌}
use native.Mathlib.Decide.{dec_le}
use native.Mathlib.Omega.{arith}
use borrow.Author.Tests.{le-ltb, lt-ltb}
use lib.IntN.{ℤ, pos, negsuc}
use mir.Syntax.{w32}
use mir.Val.{SFits, to_z, of_z}
use mir.Facts.{Fits-of_z, to_z-of_z, of_z-to_z}
use Rattle.little_endian.specs.Bytes.{FourBytes, word, signed}

pub four_bytes : (x : ℤ) → FourBytes x → SFits w32 x
four_bytes (pos n) h = record { sfits = h }
four_bytes (negsuc k) h = record { sfits = h }

pub word_bits : (x : ℤ) → of_z w32 x ≡ word x
unfolding word
word_bits (pos n) = refl
word_bits (negsuc k) = refl

pub signed_bits : (w : ℕ) → w < 4294967296 → to_z w32 w ≡ signed w
unfolding signed
signed_bits w h = by (dec_le 2147483648 w)
  where
    by : Dec (2147483648 ≤ w) → to_z w32 w ≡ signed w
    by (yes l) = rw (le-ltb w 2147483648 l, lt-ltb w 4294967296 h) (ap negsuc (omega arith))
    by (no l) = rw (lt-ltb w 2147483648 (omega arith))

pub word_fits : (x : ℤ) → SFits w32 x → word x < 4294967296
word_fits x f = rw (← word_bits x) (Fits-of_z f).fits

-- each is the other's inverse
pub signed_word : (x : ℤ) → SFits w32 x → signed (word x) ≡ x
signed_word x f = sym (signed_bits (word x) (word_fits x f)) ∙ ap (to_z w32) (sym (word_bits x)) ∙ to_z-of_z f

pub word-signed : (w : ℕ) → w < 4294967296 → word (signed w) ≡ w
word-signed w h = sym (word_bits (signed w)) ∙ ap (of_z w32) (sym (signed_bits w h)) ∙ of_z-to_z {w = w32} (record { fits = h })
