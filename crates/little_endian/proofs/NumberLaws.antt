-- Laws of numbers in bytes: byte by byte, as a loop goes; and what is written is read again, what is read is written again.
use Prim.Native.Nat.{ℕ, zero, suc, ◌+◌, ◌-◌, ◌*◌, ◌/◌, ◌%◌, ◌^◌, ◌<◌, ◌≤◌}
use mathlib.Core.Path.{◌≡◌, refl, ap}
use mathlib.Core.List.{List, [], ◌∷◌, ◌++◌}
use native.Mathlib.Nat.{mul_assoc, pow-zero, pow-succ', pow-le-pow_right}
use native.Mathlib.Omega.{arith}
use lib.ListN.{length, get_or, take, drop}
use lib.Seq.{sets, drop-cons, get_or-append-add}
use Rattle.little_endian.specs.Bytes.{AreBytes, bytes_of, number_at}

-- ---- byte by byte
-- one byte more, from the high end down
pub read_more : (bytes : List ℕ) (at width i value : ℕ) → 0 < i → i ≤ width → value ≡ number_at bytes (at + i) (width - i)
    → 256 * value + get_or bytes (at + (i - 1)) 0 ≡ number_at bytes (at + (i - 1)) (width - (i - 1))
unfolding number_at
read_more bytes at width i value h l e =
    let one : width - (i - 1) ≡ suc (width - i) = omega arith in
    let next : at + i ≡ suc (at + (i - 1)) = omega arith in
    let e' : value ≡ number_at bytes (suc (at + (i - 1))) (width - i) = rw next at e in
    rw one (omega arith)

-- a further byte keeps a number below 256 to the power of its width
pub small_more : (value b width i : ℕ) → 0 < i → i ≤ width → value < 256 ^ (width - i) → b < 256 → 256 * value + b < 256 ^ (width - (i - 1))
small_more value b width i h k l m = let one : width - (i - 1) ≡ suc (width - i) = omega arith in rw one (omega (arith, pow-succ' 256 (width - i)))

-- three bytes leave room for a fourth
pub three_bytes : (value k : ℕ) → value < 256 ^ k → k ≤ 3 → value < 16777216
three_bytes value k h l = omega (arith, pow-le-pow_right {n = 256} (omega arith) {i = k} {j = 3} l)

-- one byte stored: what is left to store
pub write_more : (out : List ℕ) (at width i rest : ℕ) → i < width
    → sets out (at + i) (bytes_of (width - i) rest) ≡ sets (sets out (at + i) (rest % 256 ∷ [])) (at + (i + 1)) (bytes_of (width - (i + 1)) (rest / 256))
unfolding bytes_of
write_more out at width i rest h =
    let w : width - i ≡ suc (width - (i + 1)) = omega arith in
    let s : at + (i + 1) ≡ suc (at + i) = omega arith in
    rw (w, s)

pub write-none : (out : List ℕ) (at width i rest : ℕ) → width ≤ i → sets out (at + i) (bytes_of (width - i) rest) ≡ out
unfolding bytes_of
write-none out at width i rest h = let z : width - i ≡ zero = omega arith in rw z

-- ---- whole numbers
pub length-bytes : (width number : ℕ) → length (bytes_of width number) ≡ width
unfolding bytes_of
length-bytes zero number = refl
length-bytes (suc width) number = ap suc (length-bytes width _)

-- bytes before the place do not count
pub number_past : (front bytes : List ℕ) (at width : ℕ) → number_at (front ++ bytes) (length front + at) width ≡ number_at bytes at width
unfolding number_at
number_past front bytes at zero = refl
number_past front bytes at (suc width) =
    let next : suc (length front + at) ≡ length front + suc at = omega arith in
    rw (next, get_or-append-add front bytes at 0, number_past front bytes (suc at) width)

-- a number in two parts, the low one first
pub number_parts : (bytes : List ℕ) (at low high : ℕ) → number_at bytes at (low + high) ≡ number_at bytes at low + 256 ^ low * number_at bytes (at + low) high
unfolding number_at
number_parts bytes at zero high =
    let e : at + 0 ≡ at = omega arith in
    let z : 0 + high ≡ high = omega arith in
    rw (e, z) (omega (arith, pow-zero 256))
number_parts bytes at (suc low) high =
    let e : at + suc low ≡ suc at + low = omega arith in
    let s : suc low + high ≡ suc (low + high) = omega arith in
    rw (s, e, number_parts bytes (suc at) low high, pow-succ' 256 low)
    (omega (arith, mul_assoc 256 (256 ^ low) (number_at bytes (suc at + low) high)))

-- a number is read as it was written
pub number_back : (width number : ℕ) (rest : List ℕ) → number < 256 ^ width → number_at (bytes_of width number ++ rest) 0 width ≡ number
unfolding number_at bytes_of
number_back zero number rest h = omega (arith, pow-zero 256)
number_back (suc width) number rest h =
    let high = bytes_of width (number / 256) ++ rest in
    rw (number_past (number % 256 ∷ []) high 0 width, number_back width (number / 256) rest (omega (arith, pow-succ' 256 width)))
    (omega arith)

-- and bytes are written as they were read; so many make a number that they can hold
module _ (bytes : List ℕ) (b : AreBytes bytes) where
  pub bytes_back : (at width : ℕ) → at + width ≤ length bytes → bytes_of width (number_at bytes at width) ≡ take width (drop at bytes)
  unfolding number_at bytes_of
  bytes_back at zero h = refl
  bytes_back at (suc width) h =
      let l : at < length bytes = omega arith in
      let x : get_or bytes at 0 < 256 = b.each at l in
      let m : (get_or bytes at 0 + 256 * number_at bytes (suc at) width) % 256 ≡ get_or bytes at 0 = omega arith in
      let d : (get_or bytes at 0 + 256 * number_at bytes (suc at) width) / 256 ≡ number_at bytes (suc at) width = omega arith in
      rw (m, d, drop-cons bytes at 0 l, bytes_back (suc at) width (omega arith))

  pub number_small : (at width : ℕ) → at + width ≤ length bytes → number_at bytes at width < 256 ^ width
  unfolding number_at
  number_small at zero h = omega (arith, pow-zero 256)
  number_small at (suc width) h = omega (arith, pow-succ' 256 width, b.each at (omega arith), number_small (suc at) width (omega arith))
