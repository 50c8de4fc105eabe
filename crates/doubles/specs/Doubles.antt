-- METHOD 7.10, 7.11 and 7.13: doubles in bytes, and the whole numbers that they are. What a double is comes from the kit's account of IEEE 754,
-- Rattle.std.specs.Float: `nan` is no number, `inf s` an infinity, `fin s m e` the number m * 2 ^ e, below zero where s is true (negative zero: m is 0, s is
-- true); 2 ^ e is the fraction up e / down e. `binary64` is the format of 64 bits.
use Rattle.std.specs.Prelude.{◌≡◌, ℕ, ◌*◌, ◌/◌, ◌%◌, Bool, true, false, cond, ◌&&◌, List, ℤ, pos, neg_ℤ, ◌==◌, from_bits, Float}
use Rattle.std.specs.Float.{nan, inf, fin, binary64}
use Rattle.std.specs.Float.Ieee.{up, down, of_int}
use Rattle.refusals.specs.Inside.{figure_inside}
use Rattle.little_endian.specs.Bytes.{number_at}

-- METHOD 7.10: the double in the eight bytes from a place of a byte string on, low byte first
unfoldable pub double_at : List ℕ → ℕ → Float
double_at bytes at = from_bits binary64 (number_at bytes at 8)

-- METHOD 7.10: an unused double is eight zero bytes: the number that they make is 0
unfoldable pub unused_at : List ℕ → ℕ → Bool
unused_at bytes at = number_at bytes at 8 == 0

-- METHOD 7.11: a double is a whole number: m * 2 ^ e has no fraction
unfoldable pub is_whole : Float → Bool
is_whole nan = false
is_whole (inf s) = false
is_whole (fin s m e) = m * up e % down e == 0

-- and which: its size is the whole part of m * 2 ^ e; negative zero is 0 (what is no number, or infinite, is none, and says 0)
unfoldable pub number_in : Float → ℤ
number_in nan = pos 0
number_in (inf s) = pos 0
number_in (fin s m e) = cond s (neg_ℤ (pos (m * up e / down e))) (pos (m * up e / down e))

-- METHOD 7.11: a double counts: it is a whole number, and inside the limits of a figure
unfoldable pub counts : Float → Bool
counts x = is_whole x && figure_inside (number_in x)

-- METHOD 7.13: a double that is exactly this whole number (each of the two zeros is 0)
pub record IsNumber (x : Float) (z : ℤ) : Type 0 where
  pub whole : is_whole x ≡ true
  pub number : number_in x ≡ z

-- METHOD 7.13: the double of a whole number: the nearest one. Up to 2 ^ 53 in size it is that number exactly, and of 0 it is positive zero (Laws)
abbrev pub double_of : ℤ → Float
double_of z = of_int binary64 z

abbrev pub positive_zero : Float
positive_zero = fin false 0 (pos 0)
