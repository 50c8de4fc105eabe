-- `integers::to_grain` meets its contract: each value of the code with the number that it is and a bound, for the law of the pairs.
use Prim.Native.Nat.{ℕ, ◌+◌, ◌*◌, ◌/◌, ◌%◌, ◌<◌, ◌≤◌}
use mathlib.Core.Path.{◌≡◌, sym, ap, ◌∙◌}
use mathlib.Core.Bool.{Bool, true, false, cond}
use native.Mathlib.Nat.{le_of_mul-le-mul_left, div-add-mod, mod-lt}
use native.Mathlib.Omega.{arith}
use lib.Dec.{leb}
use lib.IntN.{ℤ, pos, nat_abs, ◌+ℤ◌, ◌-ℤ◌, ◌*ℤ◌}
use mir.Syntax.{w64}
use mir.Val.{to_z, of_z}
use Rattle.integers.specs.Sizes.{◌within◌}
use Rattle.integers.specs.Rounding.{to_grain}
use Rattle.integers.specs.Promises.{largest_quotient, largest_divisor, largest_numerator}
use Rattle.integers.proofs.SizeLaws.{abs-add, w_lit}
use Rattle.integers.proofs.Signed64.{Reads, i_arg, i_lit, i_positive, i_cast, i_call, i+, i-, i*, i≡, i_kept, pos-abs, numerator_within, i_fits}
use Rattle.integers.proofs.RoundingLaws.{raised_is, by_pairs}
use Rattle.integers.proofs.to_grain.Lts as lts
use Rattle.integers.proofs.to_grain.Tie as tie
use Rattle.integers.proofs.to_grain.Reads as reads
use Rattle.integers.proofs.to_grain.Goals as goal

abbrev Start : Type 0
Start = lts.Start tie.the-claims reads.Pre reads.Post

abbrev After-half-after : Type 0
After-half-after = lts.After-half2 tie.the-claims reads.Pre reads.Post

abbrev After-odd : Type 0
After-odd = lts.After-odd tie.the-claims reads.Pre reads.Post

bit-within : (b : Bool) → cond b (pos 1) (pos 0) within 1
bit-within true = w_lit 1
bit-within false = omega arith

-- the largest quotient, in pairs of grains
abbrev many : ℕ
many = 2_000_000_000_000

module _ (s : Start) where
  abbrev x : ℤ
  x = s.args.x

  -- the divisor, as it is cast
  d-is : Reads (to_z w64 (of_z w64 s.args.d)) (pos (nat_abs s.args.d)) largest_divisor
  d-is = i_positive s.ranges.d s.requires.divisor s.requires.positive

  abbrev n : ℕ
  n = nat_abs (to_z w64 (of_z w64 s.args.d))

  n-is : n ≡ nat_abs s.args.d
  n-is = ap nat_abs d-is.eq

  n-limits : (1 ≤ n) × (n ≤ largest_divisor)
  n-limits = (omega (arith, n-is, pos-abs s.args.d s.requires.positive), omega (arith, n-is, s.requires.divisor))

  -- so many pairs are not below a numerator
  enough : nat_abs x ≤ many * (2 * n)
  enough = omega (arith, n-is, s.requires.quotient)

  twice : Reads (pos 2 *ℤ to_z w64 (of_z w64 s.args.d)) (pos (2 * nat_abs s.args.d)) (2 * largest_divisor)
  twice = i* (i_lit 2) d-is

  multiple : Reads (pos many *ℤ to_z w64 (of_z w64 (pos 2 *ℤ to_z w64 (of_z w64 s.args.d)))) (pos (many * (2 * nat_abs s.args.d))) largest_numerator
  multiple = i* (i_lit many) (i_kept twice tt)

  -- the raised numerator
  raised : x +ℤ pos (many * (2 * n)) ≡ pos (nat_abs (x +ℤ pos (many * (2 * n))))
  raised = raised_is x (many * (2 * n)) enough

  sum : Reads (to_z w64 (of_z w64 x) +ℤ to_z w64 (of_z w64 (pos many *ℤ to_z w64 (of_z w64 (pos 2 *ℤ to_z w64 (of_z w64 s.args.d))))))
      (pos (nat_abs (x +ℤ pos (many * (2 * n))))) (largest_numerator + largest_numerator)
  sum = i≡ (i+ (i_arg s.ranges.x (numerator_within s.requires)) (i_kept multiple tt)) (ap (λ (m : ℕ). x +ℤ pos (many * (2 * m))) (sym n-is) ∙ raised)

  abbrev whole : ℕ
  whole = nat_abs (to_z w64 (of_z w64 (to_z w64 (of_z w64 x) +ℤ to_z w64 (of_z w64 (pos many *ℤ to_z w64 (of_z w64 (pos 2 *ℤ to_z w64 (of_z w64 s.args.d))))))))

  whole_is : whole ≡ nat_abs (x +ℤ pos (many * (2 * n)))
  whole_is = ap nat_abs (i_kept sum tt).eq

  whole-most : whole ≤ 2 * many * (2 * n)
  whole-most = omega (arith, whole_is, abs-add x (pos (many * (2 * n))), enough)

-- with `before` and `after` from their calls
module _ (c : After-half-after) where
  abbrev s : Start
  s = c.before.before

  abbrev before : ℕ
  before = c.half-before.result

  abbrev after : ℕ
  after = c.half-after.result

  -- the pairs and the rest
  abbrev y : ℕ
  y = whole s + (n s + before)

  abbrev pair : ℕ
  pair = 2 * n s

  y-is : (pair * (y / pair) + y % pair ≡ y) × (y % pair < pair)
  y-is = (div-add-mod y pair, mod-lt y {m = pair} (omega (arith, n-limits s)))

  pairs_is : Reads (to_z w64 (y / pair)) (pos (y / pair)) (largest_quotient + 1)
  pairs_is =
      let l : pair * (y / pair) ≤ pair * (largest_quotient + 1) = omega (arith, y-is, c.half-before.ensures, whole-most s) in
      i_cast (le_of_mul-le-mul_left l (omega (arith, n-limits s))) tt

  even_is : Reads (pos 2 *ℤ to_z w64 (of_z w64 (to_z w64 (y / pair) -ℤ pos many))) (pos 2 *ℤ (pos (y / pair) -ℤ pos many)) (2 * (largest_quotient + 1 + many))
  even_is = i* (i_lit 2) (i_kept (i- pairs_is (i_lit many)) tt)

  -- both are fewer than a half, and the most that are
  fewer : 2 * before < n s
  fewer = omega (arith, n-limits s, c.half-before.ensures)

  most : n s ≤ 2 * before + 2
  most = omega (arith, n-limits s, c.half-before.ensures)

  alike : before + after ≡ 2 * before
  alike = omega (arith, n-limits s, c.half-before.ensures, c.half-after.ensures)

result-is : (c : After-odd) → let b = c in
    Reads (to_z w64 (of_z w64 (pos 2 *ℤ to_z w64 (of_z w64 (to_z w64 (y b.before / pair b.before) -ℤ pos many)))) -ℤ to_z w64 (of_z w64 c.odd.result))
    (pos 2 *ℤ (pos (y b.before / pair b.before) -ℤ pos many) -ℤ cond (leb (y b.before % pair b.before) (before b.before + after b.before)) (pos 1) (pos 0)) (2 * (largest_quotient + 1 + many) + 1)
result-is c = let b = c in i- (i_kept (even_is b.before) tt) (i_call c.odd.type_inv c.odd.ensures (bit-within (leb (y b.before % pair b.before) (before b.before + after b.before))))

pub returns : goal.returns
returns c = let s = s c.before in let r = y c.before % pair c.before in
    (i_kept (result-is c) tt).eq
    ∙ ap (λ (k : ℕ). pos 2 *ℤ (pos (y c.before / pair c.before) -ℤ pos many) -ℤ cond (leb r k) (pos 1) (pos 0)) (alike c.before)
    ∙ by_pairs (x s) (n s) many (whole s) (before c.before) (y c.before / pair c.before) r (raised s ∙ ap pos (sym (whole_is s))) (sym (y-is c.before).0) (y-is c.before).1 (fewer c.before) (most c.before)
    ∙ ap (to_grain (x s)) (n-is s)

pub overflow_mul-even : goal.overflow_mul-even
overflow_mul-even c = i_fits (even_is c) tt

pub overflow_sub-result : goal.overflow_sub-result
overflow_sub-result c = i_fits (result-is c) tt
