-- Running sums of squares, and the first spread by two of them.
use Prim.Native.Nat.{ℕ, zero, suc, ◌+◌, ◌*◌, ◌-◌, ◌/◌, ◌≤◌, ◌<◌}
use mathlib.Core.Path.{◌≡◌, sym, ap, ap₂, ◌∙◌}
use mathlib.Core.List.{List}
use native.Mathlib.Nat.{add-zero, zero-add}
use native.Mathlib.Omega.{arith}
use lib.ListN.{length, get_or}
use Rattle.integers.specs.Root.{root}
use Rattle.integers.proofs.FillingLaws.{length-tab, at-tab}
use Rattle.refusals.specs.Limits.{most_months}
use Rattle.extremes.specs.Years.{months}
use Rattle.extremes.specs.Spreads.{squares, spread}
use Rattle.extremes.specs.Promises.{largest_size, running_squares, AllBelow}
use Rattle.extremes.proofs.SpreadLaws.{months-none, months-next, months-below, length-months, squares-most}

module _ (l : List ℕ) where
  -- two stretches of months, one after the other; d months are in the first
  squares-on : (d lo hi : ℕ) → lo + d ≤ hi → hi ≤ length l → squares (months lo (lo + d) l) + squares (months (lo + d) hi l) ≡ squares (months lo hi l)
  unfolding squares
  squares-on zero lo hi h k = rw (add-zero, months-none l lo) (omega arith)
  squares-on (suc d) lo hi h k =
      let e : lo + 1 + d ≡ lo + suc d = omega arith in
      let i = rw e at (squares-on d (lo + 1) hi (omega arith) k) in
      omega (arith, i, ap squares (months-next l lo (lo + suc d) (omega arith) (omega arith)), ap squares (months-next l lo hi (omega arith) k))

  pub squares-none : squares (months 0 0 l) ≡ 0
  unfolding squares
  squares-none = ap squares (months-none l 0)

  -- the months from lo to below hi are those before hi less those before lo
  pub squares-before : (lo hi : ℕ) → lo ≤ hi → hi ≤ length l → squares (months lo hi l) + squares (months 0 lo l) ≡ squares (months 0 hi l)
  squares-before lo hi h k = omega (arith, rw zero-add at (squares-on lo 0 hi (omega arith) k))

  -- one more month
  pub squares-next : (t : ℕ) → t < length l → squares (months 0 t l) + get_or l t 0 * get_or l t 0 ≡ squares (months 0 (t + 1) l)
  unfolding squares
  squares-next t h = omega (arith, squares-before t (t + 1) (omega arith) (omega arith), ap squares (months-next l t (t + 1) (omega arith) (omega arith)), ap squares (months-none l (t + 1)))

  pub squares-small : AllBelow largest_size l → length l ≤ most_months → (t : ℕ) → t ≤ length l → squares (months 0 t l) ≤ most_months * (largest_size * largest_size)
  squares-small h k t i = omega (arith, squares-most largest_size (months 0 t l) (months-below 0 t h), length-months l 0 t i)

  -- ---- what the running sums hold
  pub length-running : length (running_squares l) ≡ length l
  unfolding running_squares
  length-running = length-tab (length l) _

  pub sum_up_to : (t : ℕ) → t < length l → get_or (running_squares l) t 0 ≡ squares (months 0 (t + 1) l)
  unfolding running_squares
  sum_up_to t h = at-tab 0 (length l) (λ (u : ℕ). squares (months 0 (u + 1) l)) t h

  -- the first spread by such a sum
  pub first_is : (lo : ℕ) {hi r sum : ℕ} → hi ≤ length l → sum ≡ squares (months lo hi l) → r ≡ root (sum / (hi - lo)) → r ≡ spread (months lo hi l)
  unfolding spread
  first_is lo {hi} k p f = f ∙ ap root (ap₂ ◌/◌ p (sym (length-months l lo hi k)))
