-- `extremes::sizes::size_of` meets its contract: a number is rounded as its size is, and what is rounded is small.
use Prim.Native.Nat.{ℕ}
use mathlib.Core.Path.{◌≡◌, refl, ap, ◌∙◌}
use native.Mathlib.Omega.{arith}
use lib.IntN.{ℤ, pos, negsuc, nat_abs}
use Rattle.integers.specs.Sizes.{◌within◌}
use Rattle.integers.proofs.SizeLaws.{by-abs, abs_neg, sfits64}
use Rattle.integers.specs.Rounding.{half_up, away_from_zero}
use Rattle.integers.proofs.Signed64.{i_arg, i_in}
use Rattle.extremes.specs.Spreads.{size_of}
use Rattle.extremes.specs.Promises.{largest_size}
use Rattle.extremes.proofs.HeldSizes.{size_most}
use Rattle.extremes.proofs.sizes.size_of.Lts as lts
use Rattle.extremes.proofs.sizes.size_of.Tie as tie
use Rattle.extremes.proofs.sizes.size_of.Reads as reads
use Rattle.extremes.proofs.sizes.size_of.Goals as goal

abbrev After-size : Type 0
After-size = lts.After-size tie.the-claims reads.Pre reads.Post

abbrev After-half_up : Type 0
After-half_up = lts.After-half_up tie.the-claims reads.Pre reads.Post

abs_is : (c : After-size) → c.size.result ≡ nat_abs c.args.irregular
abs_is c = c.size.ensures ∙ ap nat_abs (i_arg c.ranges.irregular c.requires).eq

by_size : (z : ℤ) → half_up (nat_abs z) 1000 ≡ size_of z
unfolding size_of away_from_zero
by_size (pos n) = refl
by_size (negsuc n) = rw abs_neg

size_is : (c : After-half_up) → c.half_up.result ≡ size_of c.args.irregular
size_is c = c.half_up.ensures ∙ ap (λ (n : ℕ). half_up n 1000) (abs_is c.before) ∙ by_size c.args.irregular

small : (c : After-half_up) → pos c.half_up.result within largest_size
small c = by-abs (omega (arith, size_is c, size_most c.args.irregular c.requires))

pub returns : goal.returns
returns c = (i_in (small c) tt).eq ∙ ap pos (size_is c)

pub overflow_cast-result : goal.overflow_cast-result
overflow_cast-result c = sfits64 (small c) (omega arith)
