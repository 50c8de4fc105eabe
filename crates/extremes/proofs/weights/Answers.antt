-- `extremes::weights` meets its contract: the work slices hold the sizes of the irregular and their running sums, and it is weighed by them.
use Prim.Native.Nat.{ℕ}
use mathlib.Core.Path.{◌≡◌, ap, subst⁻¹, ◌∙◌}
use mathlib.Core.List.{List, map}
use native.Mathlib.Omega.{arith}
use lib.ListN.{length, length-map}
use lib.IntN.{ℤ, pos, nat_abs}
use Rattle.integers.specs.Lists.{AllWithin}
use Rattle.extremes.specs.Spreads.{sizes_of}
use Rattle.extremes.specs.Weighing.{weights_of}
use Rattle.extremes.specs.Promises.{largest_irregular, largest_size, running_squares, AllBelow}
use Rattle.extremes.proofs.ListLaws.{read_back}
use Rattle.extremes.proofs.HeldSizes.{held_whole, length-sizes_of, small-sizes}
use Rattle.extremes.proofs.RunningSums.{length-running}
use Rattle.extremes.proofs.weights.Goals as goal

-- what a slice holds, read back
held : {work : List ℤ} {l : List ℕ} → work ≡ map pos l → map nat_abs work ≡ l
held {work} {l} e = ap (map nat_abs) e ∙ read_back l

held_long : {work : List ℤ} (l : List ℕ) → work ≡ map pos l → length work ≡ length l
held_long l e = ap length e ∙ length-map l pos

module _ (x : List ℤ) {work : List ℤ} (e : work ≡ map pos (sizes_of x)) where
  long : length (map nat_abs work) ≡ length x
  long = ap length (held e) ∙ length-sizes_of x

  small : AllWithin largest_irregular x → AllBelow largest_size (map nat_abs work)
  small h = subst⁻¹ (AllBelow largest_size) (held e) (small-sizes h)

pub invariant_of-sizes : goal.invariant_of-sizes
invariant_of-sizes c = let l = sizes_of c.args.irregular.now in let e = c.fill_sizes.ensures in
    (held_whole l e, omega (arith, held_long l e, length-sizes_of c.args.irregular.now, c.requires.calendar.most))

pub fill_sums-requires : goal.fill_sums-requires
fill_sums-requires c = let n = long c.args.irregular.now c.fill_sizes.ensures in
    (small c.args.irregular.now c.fill_sizes.ensures c.requires.small, omega (arith, n, c.requires.calendar.most), omega (arith, n, c.requires.sums))

pub invariant_of-sums : goal.invariant_of-sums
invariant_of-sums c = let l = map nat_abs c.fill_sizes.new.sizes in let f = c.fill_sums.ensures in
    (held_whole (running_squares l) f, omega (arith, held_long (running_squares l) f, length-running l, long c.args.irregular.now c.fill_sizes.ensures, c.requires.calendar.most))

pub invariant_of-months : goal.invariant_of-months
invariant_of-months c = let x = c.args.irregular.now in let e = c.fill_sizes.ensures in
    record { all = long x e; small = small x e c.requires.small; summed = held c.fill_sums.ensures }

pub returns : goal.returns
unfolding weights_of
returns c = let e = held c.fill_sizes.ensures in record {
  sizes = c.fill_sizes.ensures;
  sums = c.fill_sums.ensures ∙ ap (λ (l : List ℕ). map pos (running_squares l)) e;
  weights = rw (c.from.ensures, c.from-2.ensures, e) at c.weigh.ensures;
}
