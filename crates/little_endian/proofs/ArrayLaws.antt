-- Laws of arrays in bytes: value by value, as a loop goes; and what is written is read again, what is read is written again.
use Prim.Native.Nat.{ℕ, zero, suc, ◌+◌, ◌*◌, ◌^◌, ◌<◌, ◌≤◌}
use mathlib.Core.Path.{◌≡◌, refl, sym, ap, ◌∙◌}
use mathlib.Core.List.{List, [], ◌∷◌, ◌++◌, append_assoc}
use native.Mathlib.Nat.{mul-suc, mul-zero, mul-le-mul_left, not-suc-le-zero}
use native.Mathlib.Numerals.{add-one}
use native.Mathlib.Omega.{arith}
use lib.ListN.{length, get_or, take, drop, drop_of_length-le, length-append}
use lib.Seq.{sets, drop-cons, drop-drop, take-add}
use Rattle.integers.specs.Lists.{tab_from, tab}
use Rattle.integers.proofs.FillingLaws.{tab-same}
use Rattle.integers.proofs.Stores.{sets-append}
use Rattle.little_endian.specs.Bytes.{AreBytes, bytes_of, number_at, array}
use Rattle.little_endian.proofs.NumberLaws.{length-bytes, number_past, number_back, bytes_back, number_small}

pub length-array : {A : Type 0} (width : ℕ) (code : A → ℕ) (xs : List A) → length (array width code xs) ≡ width * length xs
unfolding array
length-array width code [] = sym (mul-zero width)
length-array width code (x ∷ xs) =
    length-append (bytes_of width (code x)) (array width code xs)
    ∙ omega (arith, length-bytes width (code x), length-array width code xs, mul-suc width (length xs))

-- two lists of values that are stood for by the same numbers; d and e are what `get_or` gives past the ends
pub array_same : {A B : Type 0} (d : A) (e : B) (width : ℕ) (code : A → ℕ) (other : B → ℕ) (xs : List A) (ys : List B) → length xs ≡ length ys
    → ((i : ℕ) → i < length xs → code (get_or xs i d) ≡ other (get_or ys i e)) → array width code xs ≡ array width other ys
unfolding array
array_same d e width code other [] [] l h = refl
array_same d e width code other [] (y ∷ ys) l h = absurd (omega arith)
array_same d e width code other (x ∷ xs) [] l h = absurd (omega arith)
array_same d e width code other (x ∷ xs) (y ∷ ys) l h = rw (h 0 (omega arith), array_same d e width code other xs ys (omega arith) (λ i k. h (suc i) (omega arith)))

-- d is what `get_or` gives past the end
module _ {A : Type 0} (d : A) (width : ℕ) (code : A → ℕ) where
  -- one value stored, and what is left to store; none is left
  module _ (xs : List A) (out : List ℕ) (from t : ℕ) where
    pub array-more : t < length xs
        → sets out (from + width * t) (array width code (drop t xs))
        ≡ sets (sets out (from + width * t) (bytes_of width (code (get_or xs t d)))) (from + width * (t + 1)) (array width code (drop (t + 1) xs))
    unfolding array
    array-more h =
        let here = bytes_of width (code (get_or xs t d)) in
        let next : t + 1 ≡ suc t = add-one t in
        let e : from + width * suc t ≡ (from + width * t) + length here = omega (arith, length-bytes width (code (get_or xs t d)), mul-suc width t) in
        rw (next, drop-cons xs t d h) (sets-append out (from + width * t) (from + width * suc t) here (array width code (drop (suc t) xs)) e)

    pub array-none : length xs ≤ t → sets out (from + width * t) (array width code (drop t xs)) ≡ out
    unfolding array
    array-none h = rw (drop_of_length-le xs {i = t} h)

  -- the number at a place
  array_at : (xs : List A) (rest : List ℕ) (t : ℕ) → t < length xs → code (get_or xs t d) < 256 ^ width
      → number_at (array width code xs ++ rest) (width * t) width ≡ code (get_or xs t d)
  unfolding array
  array_at [] rest t h f = absurd (not-suc-le-zero h)
  array_at (x ∷ xs) rest zero h f =
      rw (mul-zero, append_assoc (bytes_of width (code x)) (array width code xs) rest) (number_back width (code x) (array width code xs ++ rest) f)
  array_at (x ∷ xs) rest (suc t) h f =
      let here = bytes_of width (code x) in
      let e : width * suc t ≡ length here + width * t = omega (arith, length-bytes width (code x), mul-suc width t) in
      rw (e, append_assoc here (array width code xs) rest)
      (number_past here (array width code xs ++ rest) (width * t) width ∙ array_at xs rest t (omega arith) f)

  -- an array between other bytes is read as it was written
  pub array_back : (decode : ℕ → A) (xs : List A) (front rest : List ℕ)
      → ((t : ℕ) → t < length xs → (code (get_or xs t d) < 256 ^ width) × (decode (code (get_or xs t d)) ≡ get_or xs t d))
      → xs ≡ tab (length xs) (λ t. decode (number_at (front ++ array width code xs ++ rest) (length front + width * t) width))
  array_back decode xs front rest fits = tab-same d (length xs) _ xs refl here
    where
      here : (t : ℕ) → t < length xs → get_or xs t d ≡ decode (number_at (front ++ array width code xs ++ rest) (length front + width * t) width)
      here t h =
          let a = array width code xs in
          let e = fits t h in
          sym (rw (append_assoc front a rest, number_past front (a ++ rest) (width * t) width, array_at xs rest t h e.0) e.1)

-- and the bytes of an array are written as they were read
module _ {A : Type 0} (width : ℕ) (code : A → ℕ) (decode : ℕ → A) (back : (w : ℕ) → w < 256 ^ width → code (decode w) ≡ w)
    (bytes : List ℕ) (b : AreBytes bytes) where
  again_from : (from lo n : ℕ) → from + width * (lo + n) ≤ length bytes
      → array width code (tab_from lo n (λ t. decode (number_at bytes (from + width * t) width))) ≡ take (width * n) (drop (from + width * lo) bytes)
  unfolding array tab_from
  again_from from lo zero h = rw mul-zero
  again_from from lo (suc n) h =
      let at = from + width * lo in
      let m : suc lo + n ≡ lo + suc n = omega arith in
      let l : suc lo ≤ lo + suc n = omega arith in
      let fits : at + width ≤ length bytes = omega (arith, mul-le-mul_left width l, mul-suc width lo) in
      let next : at + width ≡ from + width * suc lo = omega (arith, mul-suc width lo) in
      let all : width * suc n ≡ width + width * n = omega (arith, mul-suc width n) in
      let here = back (number_at bytes at width) (number_small bytes b at width fits) in
      rw (here, bytes_back bytes b at width fits, all, take-add width (width * n) (drop at bytes), drop-drop width at bytes, next)
      (ap (λ (l : List ℕ). take width (drop at bytes) ++ l) (again_from from (suc lo) n (rw m h)))

  pub array_again : (from n : ℕ) → from + width * n ≤ length bytes
      → array width code (tab n (λ t. decode (number_at bytes (from + width * t) width))) ≡ take (width * n) (drop from bytes)
  unfolding tab
  array_again from n h =
      let z : from + width * 0 ≡ from = omega (arith, mul-zero width) in
      let m : 0 + n ≡ n = omega arith in
      rw z at (again_from from 0 n (rw m h))
