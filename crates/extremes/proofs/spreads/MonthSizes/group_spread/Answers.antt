-- `extremes::spreads::MonthSizes::group_spread` meets its contract: the range is the group's, and the total and the first spread are those of all its months.
use Prim.Native.Nat.{◌+◌, ◌-◌}
use mathlib.Core.Path.{◌≡◌, ◌∙◌}
use native.Mathlib.Omega.{arith}
use Rattle.extremes.specs.Years.{months}
use Rattle.extremes.specs.Spreads.{squares, spread, limit_of, remaining, second_spread}
use Rattle.extremes.proofs.YearLaws.{years-few}
use Rattle.extremes.proofs.RunningSums.{squares-before, first_is}
use Rattle.extremes.proofs.Groups.{GroupFound, group-found}
use Rattle.extremes.proofs.spreads.MonthSizes.group_spread.Lts as lts
use Rattle.extremes.proofs.spreads.MonthSizes.group_spread.Tie as tie
use Rattle.extremes.proofs.spreads.MonthSizes.group_spread.Reads as reads
use Rattle.extremes.proofs.spreads.MonthSizes.group_spread.Goals as goal

abbrev After-first_month-hi : Type 0
After-first_month-hi = lts.After-first_month2 tie.the-claims reads.Pre reads.Post

found : (c : After-first_month-hi) → let m = c.args.self.now in GroupFound m.years.start m.years.period c.args.c m.sizes c.first_month-lo.result c.first_month-hi.result
found c = let m = c.args.self.now in group-found m.all m.years.calendar m.small c.requires.0 c.requires.1 c.first_month-lo.ensures c.first_month-hi.ensures

pub overflow_add-c : goal.overflow_add-c
overflow_add-c c = omega (arith, years-few c.args.self.now.years.calendar, c.requires.1)

pub sum_before-requires : goal.sum_before-requires
sum_before-requires c = (found c).inside

pub sum_before-requires-2 : goal.sum_before-requires-2
sum_before-requires-2 c = omega (arith, found c.before)

abbrev After-sum_before-lo : Type 0
After-sum_before-lo = lts.After-sum_before2 tie.the-claims reads.Pre reads.Post

-- the squares of the months before lo, and those of the group's months, are those of the months before hi
total : (c : After-sum_before-lo) → squares (months c.first_month-lo.result c.first_month-hi.result c.args.self.now.sizes) + c.sum_before-2.result ≡ c.sum_before.result
total c = let f = found c.before.before in omega (arith, c.sum_before.ensures, c.sum_before-2.ensures, squares-before c.args.self.now.sizes c.first_month-lo.result c.first_month-hi.result (omega (arith, f.order)) f.inside)

pub overflow_sub-total : goal.overflow_sub-total
overflow_sub-total c = omega (arith, total c)

pub overflow_sub-hi : goal.overflow_sub-hi
overflow_sub-hi c = omega (arith, (found c.before.before).order)

pub nonzero_div-total : goal.nonzero_div-total
nonzero_div-total c = omega (arith, (found c.before.before).order)

abbrev After-root-first : Type 0
After-root-first = lts.After-root tie.the-claims reads.Pre reads.Post

group_total : (c : After-sum_before-lo) → c.sum_before.result - c.sum_before-2.result ≡ squares (months c.first_month-lo.result c.first_month-hi.result c.args.self.now.sizes)
group_total c = omega (arith, total c)

first : (c : After-root-first) → c.root-first.result ≡ spread (months c.first_month-lo.result c.first_month-hi.result c.args.self.now.sizes)
first c = first_is c.args.self.now.sizes c.first_month-lo.result (found c.before.before.before).inside (group_total c.before) c.root-first.ensures

pub overflow_mul-first : goal.overflow_mul-first
overflow_mul-first c = omega (arith, first c, (found c.before.before.before).first_most)

pub spread_of-requires : goal.spread_of-requires
unfolding remaining limit_of
spread_of-requires c = let f = found c.before.before.before in let e = first c in (omega (arith, f.order), f.inside, group_total c.before, rw e f.stays)

pub returns : goal.returns
unfolding second_spread remaining limit_of
returns c = let e = first c.before in rw e at c.spread_of.ensures ∙ (found c.before.before.before.before).second
