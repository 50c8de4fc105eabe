-- Laws of the roundings: the distance is at most half, the size that of the fraction; what settles `to_grain`; and how the code works them.
use mathlib.Core.Path.{◌≡◌, refl, sym, ap, subst, subst⁻¹, ◌∙◌}
use mathlib.Core.Bool.{Bool, true, false, not, cond}
use Prim.Native.Nat.{ℕ, zero, suc, ◌+◌, ◌*◌, ◌-◌, ◌/◌, ◌%◌, ◌<◌, ◌≤◌}
use native.Mathlib.Nat.{add-zero, div-add-mod, mod-lt, le_of_mul-le-mul_left}
use native.Mathlib.Omega.{arith}
use lib.Dec.{T, ltb, leb, ltb→lt, nltb→le, leb→le, nleb→lt}
use lib.IntN.{ℤ, pos, negsuc, neg_ℤ, nat_abs, ◌+ℤ◌, ◌-ℤ◌, ◌*ℤ◌, +ℤ-neg_ℤ_cancel}
use lib.Signed.{quot_z, lt_z, ◌<ℤ◌, ◌≤ℤ◌, lt_z_yes, lt_z_no}
use Rattle.integers.proofs.Differences.{◌⊖◌, pp, nn, ⊖-eq, rep, ringℤ}
use Rattle.integers.specs.Sizes.{◌within◌}
use Rattle.integers.proofs.SizeLaws.{by-abs, abs-⊖, abs_neg, abs-mul, w_lit, w+, w-, w*}
use Rattle.integers.specs.Rounding.{half_up, away_from_zero, half_to_even, to_grain, NearestEven, ToGrainSettled}
use Rattle.integers.specs.Promises.{farther}

-- ---- the nearest whole number
half_up-low : (n d : ℕ) → 2 * (d * half_up n d) ≤ 2 * n + d
unfolding half_up
half_up-low n d = omega (arith, div-add-mod (2 * n + d) (2 * d))

half_up-high : (n d : ℕ) → 0 < d → 2 * n ≤ 2 * (d * half_up n d) + d
unfolding half_up
half_up-high n d h = omega (arith, div-add-mod (2 * n + d) (2 * d), mod-lt (2 * n + d) {m = 2 * d} (omega arith))

-- ---- at most half a step away, whatever the rounding does with a half: a size, and the mirrored one
apart-mirrored : (d : ℕ) (r x : ℤ) → nat_abs (pos d *ℤ neg_ℤ r -ℤ neg_ℤ x) ≡ nat_abs (pos d *ℤ r -ℤ x)
apart-mirrored d r x = rw (rep x, rep r) (simp (ringℤ, abs-⊖) (omega arith))

half_up-near : (n d : ℕ) → 0 < d → 2 * nat_abs (pos d *ℤ pos (half_up n d) -ℤ pos n) ≤ d
half_up-near n d h = simp (ringℤ, abs-⊖) (omega (arith, half_up-low n d, half_up-high n d h))

pub away_from_zero-near : (x : ℤ) (d : ℕ) → 0 < d → 2 * nat_abs (pos d *ℤ away_from_zero x d -ℤ x) ≤ d
unfolding away_from_zero
away_from_zero-near (pos n) d h = half_up-near n d h
away_from_zero-near (negsuc n) d h = omega (arith, apart-mirrored d (pos (half_up (suc n) d)) (pos (suc n)), half_up-near (suc n) d h)

-- ---- a whole part b and a rest: b is the number, or one more is
stays : (b : ℤ) (d rest : ℕ) → 2 * rest ≤ d → (2 * rest ≡ d → nat_abs b % 2 ≡ 0) → NearestEven (pos d *ℤ b +ℤ pos rest) d b
stays b d rest h e = record { near = omega (arith, apart); even = λ t. e (omega (arith, apart, t)) }
  where
    apart : nat_abs (pos d *ℤ b -ℤ (pos d *ℤ b +ℤ pos rest)) ≡ rest
    apart = rw (rep b) (simp (ringℤ, abs-⊖) (omega arith))

one_more : (b : ℤ) (d rest : ℕ) → rest ≤ d → d ≤ 2 * rest → (2 * rest ≡ d → nat_abs (b +ℤ pos 1) % 2 ≡ 0) → NearestEven (pos d *ℤ b +ℤ pos rest) d (b +ℤ pos 1)
one_more b d rest l h e = record { near = omega (arith, apart); even = λ t. e (omega (arith, apart, t)) }
  where
    apart : nat_abs (pos d *ℤ (b +ℤ pos 1) -ℤ (pos d *ℤ b +ℤ pos rest)) ≡ d - rest
    apart = rw (rep b) (simp (ringℤ, abs-⊖) (omega arith))

-- whether a number is odd is one bit, and the number after an odd one is even
bit_most : (n : ℕ) → n % 2 < 2
bit_most n = mod-lt n {m = 2} (omega arith)

odd_next : (b : ℤ) → nat_abs b % 2 ≡ 1 → nat_abs (b +ℤ pos 1) % 2 ≡ 0
odd_next b h = subst⁻¹ (λ (z : ℤ). nat_abs z % 2 ≡ 1 → nat_abs (z +ℤ pos 1) % 2 ≡ 0) (rep b) (go (pp b) (nn b)) h
  where
    go : (a c : ℕ) → nat_abs (a ⊖ c) % 2 ≡ 1 → nat_abs (a ⊖ c +ℤ pos 1) % 2 ≡ 0
    go a c h =
        let e : nat_abs (a ⊖ c +ℤ pos 1) ≡ (a + 1 - c) + (c - (a + 1)) = simp (ringℤ, abs-⊖) (omega arith) in
        omega (arith, e, abs-⊖ a c, div-add-mod (nat_abs (a ⊖ c)) 2, div-add-mod (nat_abs (a ⊖ c +ℤ pos 1)) 2, bit_most (nat_abs (a ⊖ c +ℤ pos 1)))

-- ---- to_grain gives such a number
size_settled : (n d : ℕ) → 0 < d → NearestEven (pos n) d (pos (half_to_even n d))
unfolding half_to_even
size_settled n d h =
    let twice = 2 * (n % d) in
    subst (λ (k : ℕ). NearestEven (pos k) d (pos (half_to_even n d))) (div-add-mod n d)
    (go (ltb twice d) (ltb d twice) (λ t. ltb→lt twice d t) (λ t. nltb→le twice d t) (λ t. ltb→lt d twice t) (λ t. nltb→le d twice t))
  where
    less : n % d < d
    less = mod-lt n {m = d} h

    -- the whole part is even, or one more is
    even-one : (p : ℕ) → (n / d) % 2 ≡ p → 2 * (n % d) ≡ d → NearestEven (pos (d * (n / d) + n % d)) d (pos (n / d + p))
    even-one zero e t = rw (add-zero (n / d)) (stays (pos (n / d)) d (n % d) (omega arith) (λ _. e))
    even-one (suc zero) e t = one_more (pos (n / d)) d (n % d) (omega arith) (omega arith) (λ _. odd_next (pos (n / d)) e)
    even-one (suc (suc p)) e t = absurd (omega (arith, bit_most (n / d)))

    go : (a b : Bool) → (T a → 2 * (n % d) < d) → (T (not a) → d ≤ 2 * (n % d)) → (T b → d < 2 * (n % d)) → (T (not b) → 2 * (n % d) ≤ d)
        → NearestEven (pos (d * (n / d) + n % d)) d (pos (cond a (n / d) (cond b (n / d + 1) (n / d + (n / d) % 2))))
    go true b f g k l = let h : 2 * (n % d) < d = f tt in stays (pos (n / d)) d (n % d) (omega arith) (λ t. absurd (omega arith))
    go false true f g k l = let h : d < 2 * (n % d) = k tt in one_more (pos (n / d)) d (n % d) (omega (arith, less)) (omega arith) (λ t. absurd (omega arith))
    go false false f g k l = even-one ((n / d) % 2) refl (omega (arith, g tt, l tt))

mirrored : {x r : ℤ} {d : ℕ} → NearestEven x d r → NearestEven (neg_ℤ x) d (neg_ℤ r)
mirrored {x} {r} {d} h = record { near = omega (arith, apart-mirrored d r x, h.near); even = λ t. rw abs_neg (h.even (omega (arith, apart-mirrored d r x, t))) }

to_grain-one : (x : ℤ) (d : ℕ) → 0 < d → NearestEven x d (to_grain x d)
unfolding to_grain
to_grain-one (pos n) d h = size_settled n d h
to_grain-one (negsuc n) d h = mirrored (size_settled (suc n) d h)

-- ---- and there is no other: two of them are at most one apart, and one apart both would lie on the half, one odd
gap : (a b u v d : ℕ) → nat_abs (pos d *ℤ (a ⊖ b) -ℤ (u ⊖ v)) ≡ (d * a + v - (d * b + u)) + (d * b + u - (d * a + v))
gap a b u v d = simp (ringℤ, abs-⊖) (omega arith)

no_more : (a b c e u v d : ℕ) → 0 < d → NearestEven (u ⊖ v) d (a ⊖ b) → NearestEven (u ⊖ v) d (c ⊖ e) → a + e ≤ c + b
no_more a b c e u v d d0 p q =
    let l : d * (a + e) ≤ d * (c + b + 1) = omega (arith, p.near, q.near, gap a b u v d, gap c e u v d) in
    let m : a + e ≤ c + b + 1 = le_of_mul-le-mul_left l d0 in
    go (ltb (c + b) (a + e)) (λ t. ltb→lt (c + b) (a + e) t) (λ t. nltb→le (c + b) (a + e) t) m
  where
    go : (x : Bool) → (T x → c + b < a + e) → (T (not x) → a + e ≤ c + b) → a + e ≤ c + b + 1 → a + e ≤ c + b
    go true f g m =
        let l : c + b < a + e = f tt in
        let i : a + e ≡ c + b + 1 = omega arith in
        let j : d * (a + e) ≡ d * (c + b + 1) = ap (λ (k : ℕ). d * k) i in
        let one : nat_abs (a ⊖ b) % 2 ≡ 0 = p.even (omega (arith, p.near, q.near, gap a b u v d, gap c e u v d)) in
        let other : nat_abs (c ⊖ e) % 2 ≡ 0 = q.even (omega (arith, p.near, q.near, gap a b u v d, gap c e u v d)) in
        absurd (omega (arith, abs-⊖ a b, abs-⊖ c e, div-add-mod (nat_abs (a ⊖ b)) 2, div-add-mod (nat_abs (c ⊖ e)) 2))
    go false f g m = g tt

two_settled : (x r s : ℤ) (d : ℕ) → 0 < d → NearestEven x d r → NearestEven x d s → r ≡ s
two_settled x r s d d0 p q = rep r ∙ ⊖-eq (pp r) (nn r) (pp s) (nn s) (omega (arith, not_above r s p q, not_above s r q p)) ∙ sym (rep s)
  where
    parts : (z : ℤ) → NearestEven x d z → NearestEven (pp x ⊖ nn x) d (pp z ⊖ nn z)
    parts z h = subst (λ (y : ℤ). NearestEven y d (pp z ⊖ nn z)) (rep x) (subst (λ (y : ℤ). NearestEven x d y) (rep z) h)

    not_above : (y z : ℤ) → NearestEven x d y → NearestEven x d z → pp y + nn z ≤ pp z + nn y
    not_above y z h k = no_more (pp y) (nn y) (pp z) (nn z) (pp x) (nn x) d d0 (parts y h) (parts z k)

pub to_grain-settled : ToGrainSettled
to_grain-settled x d h = record { one = to_grain-one x d h; no_other = λ r p. two_settled x r (to_grain x d) d h p (to_grain-one x d h) }

pub to_grain-near : (x : ℤ) (d : ℕ) → 0 < d → 2 * nat_abs (pos d *ℤ to_grain x d -ℤ x) ≤ d
to_grain-near x d h = (to_grain-one x d h).near

-- ---- at most a whole number c, where the fraction is at most c
near_size : (r x : ℤ) (d c : ℕ) → 0 < d → 2 * nat_abs (pos d *ℤ r -ℤ x) ≤ d → nat_abs x ≤ d * c → nat_abs r ≤ c
near_size r x d c d0 h k =
    let a : nat_abs (pos d *ℤ r) ≤ nat_abs (pos d *ℤ r -ℤ x) + nat_abs x = apart (pos d *ℤ r) x in
    let e : d * (2 * nat_abs r) ≤ d * (2 * c + 1) = omega (arith, abs-mul (pos d) r) in
    let l : 2 * nat_abs r ≤ 2 * c + 1 = le_of_mul-le-mul_left e d0 in
    omega arith
  where
    apart : (a b : ℤ) → nat_abs a ≤ nat_abs (a -ℤ b) + nat_abs b
    apart a b = rw (rep a, rep b) (simp (ringℤ, abs-⊖) (omega arith))

pub away_from_zero-size : (x : ℤ) (d c : ℕ) → 0 < d → nat_abs x ≤ d * c → away_from_zero x d within c
away_from_zero-size x d c h k = by-abs (near_size (away_from_zero x d) x d c h (away_from_zero-near x d h) k)

pub to_grain-size : (x : ℤ) (d c : ℕ) → 0 < d → nat_abs x ≤ d * c → to_grain x d within c
to_grain-size x d c h k = by-abs (near_size (to_grain x d) x d c h (to_grain-near x d h) k)

-- ---- as the code works `to_grain`: a number that is raised is not below zero
pub raised_is : (x : ℤ) (k : ℕ) → nat_abs x ≤ k → x +ℤ pos k ≡ pos (nat_abs (x +ℤ pos k))
raised_is x k h = subst⁻¹ (λ (z : ℤ). nat_abs z ≤ k → z +ℤ pos k ≡ pos (nat_abs (z +ℤ pos k))) (rep x) (go (pp x) (nn x)) h
  where
    go : (a b : ℕ) → nat_abs (a ⊖ b) ≤ k → a ⊖ b +ℤ pos k ≡ pos (nat_abs (a ⊖ b +ℤ pos k))
    go a b h = simp (ringℤ, abs-⊖) (omega (arith, h, abs-⊖ a b))

-- by pairs of grains: x is raised by m pairs to n; n, d and h together are p pairs and a rest, where 2 h is the even number just below d. The even
-- grain of a pair is the number, or the odd one before it where the rest is at most 2 h: then the distance is less than a half
pub by_pairs : (x : ℤ) (d m n h p rest : ℕ) → x +ℤ pos (m * (2 * d)) ≡ pos n → n + (d + h) ≡ 2 * d * p + rest → rest < 2 * d → 2 * h < d → d ≤ 2 * h + 2
    → pos 2 *ℤ (pos p -ℤ pos m) -ℤ cond (leb rest (2 * h)) (pos 1) (pos 0) ≡ to_grain x d
by_pairs x d m n h p rest e f less below above = go (leb rest (2 * h)) (λ t. leb→le rest (2 * h) t) (λ t. nleb→lt rest (2 * h) t)
  where
    x_is : pos n -ℤ pos (m * (2 * d)) ≡ x
    x_is = sym (ap (λ (z : ℤ). z -ℤ pos (m * (2 * d))) e) ∙ +ℤ-neg_ℤ_cancel x (pos (m * (2 * d)))

    settles : (r : ℤ) → NearestEven (pos n -ℤ pos (m * (2 * d))) d r → r ≡ to_grain x d
    settles r k = (to_grain-settled x d (omega arith)).no_other r (subst (λ (z : ℤ). NearestEven z d r) x_is k)

    go : (b : Bool) → (T b → rest ≤ 2 * h) → (T (not b) → 2 * h < rest) → pos 2 *ℤ (pos p -ℤ pos m) -ℤ cond b (pos 1) (pos 0) ≡ to_grain x d
    go true t g =
        let l : rest ≤ 2 * h = t tt in
        let apart : nat_abs (pos d *ℤ (pos 2 *ℤ (pos p -ℤ pos m) -ℤ pos 1) -ℤ (pos n -ℤ pos (m * (2 * d)))) ≡ (h - rest) + (rest - h) = simp (ringℤ, abs-⊖) (omega (arith, f)) in
        settles _ (record { near = omega (arith, apart); even = λ q. absurd (omega (arith, apart, q)) })
    go false t g =
        let l : 2 * h < rest = g tt in
        let apart : nat_abs (pos d *ℤ (pos 2 *ℤ (pos p -ℤ pos m) -ℤ pos 0) -ℤ (pos n -ℤ pos (m * (2 * d)))) ≡ (d + h - rest) + (rest - (d + h)) = simp (ringℤ, abs-⊖) (omega (arith, f)) in
        let r = pos 2 *ℤ (pos p -ℤ pos m) -ℤ pos 0 in
        let size : nat_abs r ≡ 2 * ((p - m) + (m - p)) = simp (ringℤ, abs-⊖) (omega arith) in
        settles r (record { near = omega (arith, apart); even = λ q. omega (arith, size, div-add-mod (nat_abs r) 2, bit_most (nat_abs r)) })

-- ---- as the code works `away_from_zero`, with the quotient that cuts toward zero
no_less : (n : ℕ) → n < 0 → ⊥
no_less n h = omega arith

pub away_below : (x d : ℤ) → x <ℤ pos 0 → pos 0 <ℤ d → quot_z (pos 2 *ℤ x -ℤ d) (pos 2 *ℤ d) ≡ away_from_zero x (nat_abs d)
unfolding away_from_zero half_up
away_below (pos n) d h k = absurd (no_less n (ltb→lt n 0 h.lt))
away_below (negsuc n) (negsuc m) h k = absurd k.lt
away_below (negsuc n) (pos m) h k = ap (λ (z : ℤ). quot_z z (pos 2 *ℤ pos m)) e ∙ ap (λ (s : ℕ). neg_ℤ (pos (s / (2 * m)))) (omega arith)
  where
    e : pos 2 *ℤ negsuc n -ℤ pos m ≡ negsuc (2 * n + m + 1)
    e = simp ringℤ (omega arith)

pub away_above : (x d : ℤ) → pos 0 ≤ℤ x → pos 0 <ℤ d → quot_z (pos 2 *ℤ x +ℤ d) (pos 2 *ℤ d) ≡ away_from_zero x (nat_abs d)
unfolding away_from_zero half_up
away_above (negsuc n) d h k = absurd h.le
away_above (pos n) (negsuc m) h k = absurd k.lt
away_above (pos n) (pos m) h k = refl

-- the two cases in one
pub farther-quot : (x d : ℤ) → pos 0 <ℤ d → quot_z (farther x d) (pos 2 *ℤ d) ≡ away_from_zero x (nat_abs d)
unfolding farther
farther-quot x d k = go (lt_z x (pos 0)) refl
  where
    go : (b : Bool) → lt_z x (pos 0) ≡ b → quot_z (cond b (pos 2 *ℤ x -ℤ d) (pos 2 *ℤ x +ℤ d)) (pos 2 *ℤ d) ≡ away_from_zero x (nat_abs d)
    go true e = away_below x d (lt_z_yes (subst T (sym e) tt)) k
    go false e = away_above x d (lt_z_no (subst (λ (b : Bool). T (not b)) (sym e) tt)) k

pub farther-within : {x d : ℤ} {a b : ℕ} → x within a → d within b → farther x d within (2 * a + b)
unfolding farther
farther-within {x} {d} {a} {b} h k = go (lt_z x (pos 0))
  where
    go : (c : Bool) → cond c (pos 2 *ℤ x -ℤ d) (pos 2 *ℤ x +ℤ d) within (2 * a + b)
    go true = w- (w* (w_lit 2) h) k
    go false = w+ (w* (w_lit 2) h) k
