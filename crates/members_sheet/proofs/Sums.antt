-- The total revision is exact at every step.
use Prim.Native.Nat.{ℕ, zero, suc, ◌+◌, ◌*◌, ◌≤◌, ◌<◌}
use mathlib.Core.Path.{◌≡◌, ap, sym, subst}
use mathlib.Core.List.{List}
use native.Mathlib.Omega.{arith}
use lib.IntN.{ℤ, pos, nat_abs, ◌+ℤ◌}
use lib.Ieee.{Float}
use Rattle.integers.specs.Sums.{sum_z}
use Rattle.integers.proofs.Differences.{rep, ringℤ}
use Rattle.integers.proofs.SizeLaws.{abs-add, abs-sub}
use Rattle.refusals.specs.Limits.{most_months}
use Rattle.doubles.specs.Doubles.{number_in, IsNumber, double_of}
use Rattle.doubles.proofs.Counting.{counts-number, counts-size}
use Rattle.doubles.proofs.Exact.{double-exact, zero-positive, difference_exact, sum_exact}
use Rattle.sheet_cells.specs.declared.Cell.TheVariants.{Gap, Figure, Revision}
use Rattle.sheet_cells.specs.declared.Cell.{Cell}
use Rattle.std.specs.Prelude.{Option, Some, None}
use Rattle.sheet_cells.specs.Cells.{cell_at, revision, difference, revised_by}
use Rattle.members_sheet.specs.Series.{revision_of_first, summed, StepExact}
use Rattle.members_sheet.specs.AllAccepted.{AllAccepted}
use Rattle.sheet_cells.proofs.CellLaws.{Takes, taken}

-- ---- one month more
pub summed-more : (sheet : List ℕ) (t : ℕ) {total : Float} → total ≡ summed sheet t → revised_by total (cell_at sheet t) ≡ summed sheet (t + 1)
unfolding summed
summed-more sheet t e = let n : t + 1 ≡ suc t = omega arith in rw (e, n)

-- ---- one cell
nothing_added : (z : ℤ) → z ≡ z +ℤ pos 0
nothing_added z = rw (rep z) (simp ringℤ (omega arith))

cell_size : (c : Option Cell) → Takes c → nat_abs (revision c) ≤ 400000
cell_size None h = absurd h
cell_size (Some Gap) h = absurd h
cell_size (Some (Figure figure)) h = omega arith
cell_size (Some (Revision old new)) h = omega (arith, abs-sub (number_in new.double) (number_in old.double), counts-size old.double h.0, counts-size new.double h.1)

cell-difference : (c : Option Cell) → Takes c → IsNumber (difference c) (revision c)
cell-difference None h = absurd h
cell-difference (Some Gap) h = absurd h
cell-difference (Some (Figure figure)) h = subst (λ (x : Float). IsNumber x (pos 0)) zero-positive (double-exact (pos 0) (omega arith))
cell-difference (Some (Revision old new)) h =
    let x = new.double in
    let y = old.double in
    difference_exact x y (number_in x) (number_in y) (omega (arith, counts-size x h.1)) (omega (arith, counts-size y h.0)) (counts-number x h.1) (counts-number y h.0)

cell-sum : (c : Option Cell) (z : ℤ) → Takes c → nat_abs z ≤ 240000000 → revised_by (double_of z) c ≡ double_of (z +ℤ revision c)
cell-sum None z h l = absurd h
cell-sum (Some Gap) z h l = absurd h
cell-sum (Some (Figure figure)) z h l = ap double_of (nothing_added z)
cell-sum (Some (Revision old new)) z h l =
    sum_exact z (revision (Some (Revision old new))) (difference (Some (Revision old new))) (omega arith) (cell-difference (Some (Revision old new)) h)

-- ---- all of them
module _ (sheet : List ℕ) (n : ℕ) (most : n ≤ most_months) (a : AllAccepted sheet n) where
  here : (t : ℕ) → t < n → Takes (cell_at sheet t)
  here t h = taken sheet t (a.each t h)

  size : (k : ℕ) → k ≤ n → nat_abs (revision_of_first sheet k) ≤ 400000 * k
  unfolding revision_of_first sum_z
  size zero h = omega arith
  size (suc k) h =
      omega (arith, size k (omega arith), cell_size (cell_at sheet k) (here k (omega arith)), abs-add (sum_z k (λ t. revision (cell_at sheet t))) (revision (cell_at sheet k)))

  pub sum-of-first : (k : ℕ) → k ≤ n → summed sheet k ≡ double_of (revision_of_first sheet k)
  unfolding revision_of_first sum_z summed
  sum-of-first zero h = sym zero-positive
  sum-of-first (suc k) h =
      rw (sum-of-first k (omega arith)) (cell-sum (cell_at sheet k) (sum_z k (λ t. revision (cell_at sheet t))) (here k (omega arith)) (omega (arith, size k (omega arith))))

  pub step-exact : (t : ℕ) → t < n → StepExact sheet t
  step-exact t h =
      let small = size (suc t) h in
      let e = sum-of-first (suc t) h in
      record {
        difference_size = cell_size (cell_at sheet t) (here t h);
        difference_exact = cell-difference (cell_at sheet t) (here t h);
        sum_size = omega (arith, small);
        sum_double = e;
        sum_exact = rw e (double-exact (revision_of_first sheet (suc t)) (omega (arith, small)));
      }

  pub sum-exactly : IsNumber (double_of (revision_of_first sheet n)) (revision_of_first sheet n)
  sum-exactly = double-exact (revision_of_first sheet n) (omega (arith, size n (omega arith)))
