-- How far a series is from an exact one: one law for each operation.
use mathlib.Core.Path.{◌≡◌, refl, sym, ◌∙◌}
use mathlib.Core.List.{List}
use Prim.Native.Nat.{ℕ, zero, suc, ◌+◌, ◌*◌, ◌≤◌, ◌<◌}
use native.Mathlib.Nat.{le_refl, mul-le-mul_left, mul-le-mul_right}
use native.Mathlib.Omega.{arith}
use lib.ListN.{length}
use lib.IntN.{ℤ, pos, nat_abs, ◌-ℤ◌, ◌*ℤ◌}
use Rattle.integers.proofs.Differences.{rep, ringℤ}
use Rattle.integers.proofs.SizeLaws.{absℤ, abs-sub, abs-mul}
use Rattle.integers.specs.Lists.{◌‼◌, tab_from, tab}
use Rattle.integers.proofs.FillingLaws.{length-tab}
use Rattle.series.specs.Operations.{minus, times, pick}
use Rattle.series.specs.Distance.{Close, AllAtMostApart}
use Rattle.series.proofs.Lengths.{length-times, at-times}

-- ---- lists by place: close at each number is close as a list
close_from : (lo n b k : ℕ) (f g : ℕ → ℤ) → ((t : ℕ) → nat_abs (pos k *ℤ f t -ℤ g t) * 1000 ≤ b * k)
    → (t : ℕ) → nat_abs (pos k *ℤ (tab_from lo n f ‼ t) -ℤ (tab_from lo n g ‼ t)) * 1000 ≤ b * k
unfolding tab_from
close_from lo zero b k f g h t = omega arith
close_from lo (suc n) b k f g h zero = h lo
close_from lo (suc n) b k f g h (suc t) = close_from (suc lo) n b k f g h t

pub close-tab : (n b k : ℕ) (f g : ℕ → ℤ) → ((t : ℕ) → nat_abs (pos k *ℤ f t -ℤ g t) * 1000 ≤ b * k) → Close b k (tab n f) (tab n g)
unfolding tab
close-tab n b k f g h = record { long = length-tab n f ∙ sym (length-tab n g); close = close_from 0 n b k f g h }

-- ---- figures stand for themselves
pub close_self : (x : List ℤ) → Close 0 1 x x
close_self x = record { long = refl; close = λ t. omega (arith, same (x ‼ t)) }
  where
    same : (z : ℤ) → nat_abs (pos 1 *ℤ z -ℤ z) ≤ 0
    same z = rw (rep z) (simp absℤ (omega arith))

-- ---- a multiple of the denominator
pub close-times : {b k : ℕ} {x e : List ℤ} (m : ℕ) → Close b k x e → Close b (k * m) x (times m e)
close-times {b} {k} {x} {e} m h =
    record { long = h.long ∙ sym (length-times m e); close = λ t. rw (at-times m e t) (scaled (x ‼ t) (e ‼ t) (h.close t)) }
  where
    out : (x e : ℤ) → pos (k * m) *ℤ x -ℤ pos m *ℤ e ≡ pos m *ℤ (pos k *ℤ x -ℤ e)
    out x e = rw (rep x, rep e) (simp ringℤ (omega arith))

    scaled : (x e : ℤ) → nat_abs (pos k *ℤ x -ℤ e) * 1000 ≤ b * k → nat_abs (pos (k * m) *ℤ x -ℤ pos m *ℤ e) * 1000 ≤ b * (k * m)
    scaled x e l = rw (out x e, abs-mul (pos m) (pos k *ℤ x -ℤ e)) (omega (arith, mul-le-mul_left m l))

-- ---- the same places of both
pub close-pick : {b k : ℕ} {x e : List ℤ} (n : ℕ) (g : ℕ → ℕ) → Close b k x e → Close b k (pick n g x) (pick n g e)
unfolding pick
close-pick {b} {k} {x} {e} n g h = close-tab n b k (λ t. x ‼ g t) (λ t. e ‼ g t) (λ t. h.close (g t))

-- ---- differences
pub close-minus : {b c k : ℕ} {x y e f : List ℤ} → Close b k x e → Close c k y f → Close (b + c) k (minus x y) (minus e f)
unfolding minus
close-minus {b} {c} {k} {x} {y} {e} {f} h g = rw h.long
    (close-tab (length e) (b + c) k (λ t. (x ‼ t) -ℤ (y ‼ t)) (λ t. (e ‼ t) -ℤ (f ‼ t)) (λ t. both (x ‼ t) (y ‼ t) (e ‼ t) (f ‼ t) (h.close t) (g.close t)))
  where
    four : (x y e f : ℤ) → pos k *ℤ (x -ℤ y) -ℤ (e -ℤ f) ≡ (pos k *ℤ x -ℤ e) -ℤ (pos k *ℤ y -ℤ f)
    four x y e f = rw (rep x, rep y, rep e, rep f) (simp ringℤ (omega arith))

    both : (x y e f : ℤ) → nat_abs (pos k *ℤ x -ℤ e) * 1000 ≤ b * k → nat_abs (pos k *ℤ y -ℤ f) * 1000 ≤ c * k
        → nat_abs (pos k *ℤ (x -ℤ y) -ℤ (e -ℤ f)) * 1000 ≤ (b + c) * k
    both x y e f h g = rw (four x y e f) (omega (arith, abs-sub (pos k *ℤ x -ℤ e) (pos k *ℤ y -ℤ f)))

-- ---- a larger distance, and the denominator written in another way
pub looser : {b c k l : ℕ} {x e : List ℤ} → Close b k x e → b ≤ c → k ≡ l → Close c l x e
looser {b} {c} {k} h i e = rw (← e) (record { long = h.long; close = λ t. omega (arith, h.close t, mul-le-mul_right k i) })

-- ---- a difference, over the denominator of what is taken away
pub close_less : {b c d k l : ℕ} {x y e f : List ℤ} (m : ℕ) → Close b k x e → Close c l y f → b + c ≤ d → k * m ≡ l → Close d l (minus x y) (minus (times m e) f)
close_less {b} m h g i j = looser (close-minus (looser (close-times m h) (le_refl b) j) g) i refl

-- ---- in grains
pub grains : {b k : ℕ} {x e : List ℤ} (g : ℕ) → 0 < k → b ≤ 1000 * g → Close b k x e → AllAtMostApart g k x e
grains {b} {k} g some l h = record { at = λ t. record { positive = some; size = omega (arith, h.close t, mul-le-mul_right k l) } }
