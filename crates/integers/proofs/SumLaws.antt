-- Sums and weighted sums: how large they are, by the sizes of the weights, and how far apart where the values are.
use mathlib.Core.Path.{◌≡◌, refl, ap₂, subst}
use Prim.Native.Nat.{ℕ, zero, suc, ◌+◌, ◌*◌, ◌-◌, ◌<◌, ◌≤◌}
use native.Mathlib.Nat.{le_refl, add-zero, add-suc, le_trans, le_of_eq, add-mul, mul-le-mul_left, mul-le-mul_right}
use native.Mathlib.Numerals.{add-one}
use native.Mathlib.Omega.{arith}
use lib.IntN.{ℤ, pos, nat_abs, ◌+ℤ◌, ◌-ℤ◌, ◌*ℤ◌}
use Rattle.integers.specs.Sums.{sum_z, sum_n, wsum, norm}
use Rattle.integers.proofs.Differences.{rep, ringℤ}
use Rattle.integers.specs.Sizes.{◌within◌}
use Rattle.integers.proofs.SizeLaws.{w+, w*, abs-add, abs-mul}

-- ---- one term more
pub sum-zero : (f : ℕ → ℤ) → sum_z 0 f ≡ pos 0
unfolding sum_z
sum-zero f = refl

pub sum_more : (k : ℕ) (f : ℕ → ℤ) → sum_z (k + 1) f ≡ sum_z k f +ℤ f k
unfolding sum_z
sum_more k f = rw add-one

-- the first term apart
pub sum-front : (n : ℕ) (f : ℕ → ℤ) → sum_z (suc n) f ≡ f 0 +ℤ sum_z n (λ j. f (suc j))
unfolding sum_z
sum-front zero f = rw (rep (f 0)) (simp ringℤ (omega arith))
sum-front (suc n) f = rw (sum-front n f) (rw (rep (f 0), rep (sum_z n (λ j. f (suc j))), rep (f (suc n))) (simp ringℤ (omega arith)))

pub sum_n-more : (k : ℕ) (f : ℕ → ℕ) → sum_n (k + 1) f ≡ sum_n k f + f k
unfolding sum_n
sum_n-more k f = rw add-one

-- fewer terms, a smaller sum
pub sum_n-fewer : (m i : ℕ) (f : ℕ → ℕ) → sum_n m f ≤ sum_n (m + i) f
unfolding sum_n
sum_n-fewer m zero f = rw add-zero (omega arith)
sum_n-fewer m (suc i) f = rw add-suc (omega (arith, sum_n-fewer m i f))

pub sum_n-upto : (k m : ℕ) (f : ℕ → ℕ) → k ≤ m → sum_n k f ≤ sum_n m f
sum_n-upto k m f l = let e : k + (m - k) ≡ m = omega arith in subst (λ (n : ℕ). sum_n k f ≤ sum_n n f) e (sum_n-fewer k (m - k) f)

-- the last terms apart
pub sum_n-split : (k m : ℕ) (f : ℕ → ℕ) → sum_n (k + m) f ≡ sum_n k f + sum_n m (λ i. f (k + i))
unfolding sum_n
sum_n-split k zero f = rw add-zero (omega arith)
sum_n-split k (suc m) f = rw add-suc (omega (arith, sum_n-split k m f))

-- the first term apart
pub sum_n-front : (n : ℕ) (f : ℕ → ℕ) → sum_n (suc n) f ≡ f 0 + sum_n n (λ i. f (suc i))
unfolding sum_n
sum_n-front zero f = omega arith
sum_n-front (suc n) f = omega (arith, sum_n-front n f)

-- each term at most b
pub sum_n-most : (k b : ℕ) (f : ℕ → ℕ) → ((i : ℕ) → i < k → f i ≤ b) → sum_n k f ≤ k * b
unfolding sum_n
sum_n-most zero b f h = omega arith
sum_n-most (suc k) b f h = omega (arith, sum_n-most k b f (λ i l. h i (omega arith)), h k (omega arith))

-- ---- equal terms, differences
pub sum_n-same : (k : ℕ) (f g : ℕ → ℕ) → ((i : ℕ) → i < k → f i ≡ g i) → sum_n k f ≡ sum_n k g
unfolding sum_n
sum_n-same zero f g e = refl
sum_n-same (suc k) f g e = ap₂ ◌+◌ (sum_n-same k f g (λ i l. e i (omega arith))) (e k (omega arith))

pub sum_same : (k : ℕ) (f g : ℕ → ℤ) → ((i : ℕ) → i < k → f i ≡ g i) → sum_z k f ≡ sum_z k g
unfolding sum_z
sum_same zero f g e = refl
sum_same (suc k) f g e = ap₂ ◌+ℤ◌ (sum_same k f g (λ i l. e i (omega arith))) (e k (omega arith))

pub sum-minus : (k : ℕ) (f g : ℕ → ℤ) → sum_z k (λ i. f i -ℤ g i) ≡ sum_z k f -ℤ sum_z k g
unfolding sum_z
sum-minus zero f g = refl
sum-minus (suc k) f g = rw (sum-minus k f g) (rw (rep (sum_z k f), rep (sum_z k g), rep (f k), rep (g k)) (simp ringℤ (omega arith)))

-- ---- the size: each term's, summed
pub sum-within : (k : ℕ) (f : ℕ → ℤ) (g : ℕ → ℕ) → ((i : ℕ) → i < k → f i within g i) → sum_z k f within sum_n k g
unfolding sum_z sum_n
sum-within zero f g h = omega arith
sum-within (suc k) f g h = w+ (sum-within k f g (λ i l. h i (omega arith))) (h k (omega arith))

sum_n-scale : (k : ℕ) (g : ℕ → ℕ) (b : ℕ) → sum_n k (λ i. g i * b) ≡ sum_n k g * b
unfolding sum_n
sum_n-scale zero g b = omega arith
sum_n-scale (suc k) g b = omega (arith, sum_n-scale k g b)

pub self_within : (z : ℤ) → z within nat_abs z
self_within z = record { abs = le_refl (nat_abs z) }

-- values within b: a weighted sum within the sizes of the weights times b
pub wsum-within : (k : ℕ) (w x : ℕ → ℤ) (b : ℕ) → ((i : ℕ) → i < k → x i within b) → wsum k w x within norm k w * b
wsum-within k w x b h = rw (← (sum_n-scale k (λ i. nat_abs (w i)) b))
    (sum-within k (λ i. w i *ℤ x i) (λ i. nat_abs (w i) * b) (λ i l. w* (self_within (w i)) (h i l)))

-- one term more of two sums that are apart
one_apart : (m c total before term v off N : ℕ) → total ≤ before + term → term ≡ v * off → before * m ≤ N * c → off * m ≤ c → total * m ≤ (N + v) * c
one_apart m c total before term v off N f g i j =
    let t : total * m ≤ before * m + v * off * m = le_trans (mul-le-mul_right m (le_trans f (omega arith))) (le_of_eq (add-mul before (v * off) m)) in
    omega (arith, mul-le-mul_left v j)

-- values off by at most c, where e is k times as large as x and the distance is counted in parts of which m are a whole:
-- the weighted sums are off by at most the sizes of the weights times c
pub wsum-near : (n k m c : ℕ) (w x e : ℕ → ℤ) → ((i : ℕ) → nat_abs (pos k *ℤ x i -ℤ e i) * m ≤ c)
    → nat_abs (pos k *ℤ wsum n w x -ℤ wsum n w e) * m ≤ norm n w * c
unfolding sum_z sum_n
wsum-near zero k m c w x e h = omega arith
wsum-near (suc n) k m c w x e h = rw (apart (wsum n w x) (wsum n w e) (w n) (x n) (e n))
    (one_apart m c _ (nat_abs (pos k *ℤ wsum n w x -ℤ wsum n w e)) _ (nat_abs (w n)) (nat_abs (pos k *ℤ x n -ℤ e n)) (norm n w)
    (abs-add (pos k *ℤ wsum n w x -ℤ wsum n w e) (w n *ℤ (pos k *ℤ x n -ℤ e n))) (abs-mul (w n) (pos k *ℤ x n -ℤ e n)) (wsum-near n k m c w x e h) (h n))
  where
    apart : (S E v y z : ℤ) → pos k *ℤ (S +ℤ v *ℤ y) -ℤ (E +ℤ v *ℤ z) ≡ (pos k *ℤ S -ℤ E) +ℤ v *ℤ (pos k *ℤ y -ℤ z)
    apart S E v y z = rw (rep S, rep E, rep v, rep y, rep z) (simp ringℤ (omega arith))
