use Prim.Native.Nat.{ℕ, ◌≤◌, ◌<◌, ◌*◌, ◌+◌}
use mathlib.Core.Path.{◌≡◌, sym}
use mathlib.Core.List.{List}
use native.Mathlib.Omega.{arith}
use lib.Dec.{lt→ltb}
use lib.IntN.{ℤ, nat_abs, ◌+ℤ◌, ◌*ℤ◌}
use lib.ListN.{length}
use mir.Syntax.{w64}
use mir.Val.{to_z, of_z}
use Rattle.integers.proofs.Signed64.{Reads, Room, i_lit, i+, i*, i_kept, i_in, i≤, i≡, i_fits}
use Rattle.integers.specs.Lists.{◌‼◌}
use Rattle.integers.specs.Sums.{wsum, norm}
use Rattle.integers.proofs.SumLaws.{self_within, sum-zero, sum_more, sum_n-more, sum_n-upto}
use Rattle.rows.specs.Stored.{largest_norm, largest_over}
use Rattle.filters.specs.Filter.{dot}
use Rattle.filters.specs.Promises.{largest, Dots}
use Rattle.filters.proofs.dot.Goals as goal

module _ {w x : List ℤ} {from step : ℕ} (d : Dots w x from step) (k : ℕ) (l : k < length w) where
  -- the sizes of the first weights, and of one more
  light : (norm k (λ j. w ‼ j) + nat_abs (w ‼ k)) * 1000 ≤ largest_norm * largest_over
  light = let f : ℕ → ℕ = λ j. nat_abs (w ‼ j) in omega (arith, sum_n-upto (k + 1) (length w) f (omega arith), sum_n-more k f, d.light)

  -- the product that is next
  product : Reads (to_z w64 (of_z w64 (w ‼ k)) *ℤ to_z w64 (of_z w64 (x ‼ (from + k * step)))) (w ‼ k *ℤ (x ‼ (from + k * step))) (nat_abs (w ‼ k) * largest)
  product = i* (i_in (self_within (w ‼ k)) (omega (arith, lt→ltb, light))) (i_in (d.small k l) tt)

  fits : Room (nat_abs (w ‼ k) * largest)
  fits = omega (arith, lt→ltb, light)

  -- and the sum with it
  more : {t : ℤ} → Reads t (wsum k (λ j. w ‼ j) (λ j. x ‼ (from + j * step))) (norm k (λ j. w ‼ j) * largest)
      → Reads (t +ℤ to_z w64 (of_z w64 (to_z w64 (of_z w64 (w ‼ k)) *ℤ to_z w64 (of_z w64 (x ‼ (from + k * step)))))) (wsum (k + 1) (λ j. w ‼ j) (λ j. x ‼ (from + j * step))) (norm (k + 1) (λ j. w ‼ j) * largest)
  more h = i≤ (i≡ (i+ h (i_kept product fits)) (sym (sum_more k _))) (omega (arith, sum_n-more k (λ j. nat_abs (w ‼ j))))

  room : Room (norm (k + 1) (λ j. w ‼ j) * largest)
  room = omega (arith, lt→ltb, light, sum_n-more k (λ j. nat_abs (w ‼ j)))

pub loop-k-init : goal.loop-k-init
loop-k-init c = (omega arith, i≤ (i≡ (i_lit 0) (sym (sum-zero _))) (omega arith))

pub loop-k-preserved : goal.loop-k-preserved
loop-k-preserved c = let k = c.loop-k.k in let l : k < length c.args.weights.now = omega arith in
    (omega arith, i_kept (more c.requires k l c.loop-k.invariant.1) (room c.requires k l))

pub returns : goal.returns
unfolding dot
returns c = let e : c.loop-k.k ≡ length c.args.weights.now = omega arith in rw (← e) c.loop-k.invariant.1.eq

pub overflow_mul-sum-in-loop-k : goal.overflow_mul-sum-in-loop-k
overflow_mul-sum-in-loop-k c = let k = c.loop-k.k in let l : k < length c.args.weights.now = omega arith in i_fits (product c.requires k l) (fits c.requires k l)

pub overflow_add-sum-in-loop-k : goal.overflow_add-sum-in-loop-k
overflow_add-sum-in-loop-k c = let k = c.loop-k.k in let l : k < length c.args.weights.now = omega arith in i_fits (more c.requires k l c.loop-k.invariant.1) (room c.requires k l)
