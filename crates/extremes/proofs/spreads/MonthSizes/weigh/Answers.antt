use Prim.Native.Nat.{ℕ, ◌+◌, ◌-◌}
use mathlib.Core.Path.{◌≡◌, sym, ap, ◌∙◌}
use native.Mathlib.Omega.{arith}
use Rattle.integers.proofs.FillingLaws.{filled_none, filled-tab}
use Rattle.extremes.specs.Weighing.{weights_by}
use Rattle.extremes.specs.Promises.{served_from}
use Rattle.extremes.proofs.YearLaws.{years-some, served_first, served_end, served_order}
use Rattle.extremes.proofs.Groups.{second_most, group-filled}
use Rattle.extremes.proofs.spreads.MonthSizes.weigh.Goals as goal

pub overflow_sub-last : goal.overflow_sub-last
overflow_sub-last c = let s = c.args.self.now.years.calendar in omega (arith, c.count-last.ensures, years-some s.early s.late s.least)

pub loop-c-init : goal.loop-c-init
loop-c-init c = let s = c.args.self.now.years.calendar in let e = ap (λ (k : ℕ). k - 3) c.count-last.ensures in
    (omega arith, omega (arith, c.count-last.ensures, years-some s.early s.late s.least), e, rw (served_first s e) filled_none)

pub fill_weights-requires : goal.fill_weights-requires
fill_weights-requires c = let m = c.args.self.now in let o = served_order m.years.calendar c.loop-c.invariant.2 c.loop-c.c in (
  omega (arith, o, c.served_from-lo.ensures, c.served_from-hi.ensures),
  omega (arith, o, c.served_from-hi.ensures, m.all),
  c.loop-c.invariant.3.long ∙ c.requires,
  omega (arith, c.group_spread-spread.ensures, second_most m.sizes m.all m.years.calendar m.small c.loop-c.c),
)

pub loop-c-preserved : goal.loop-c-preserved
loop-c-preserved c = let m = c.args.self.now in (
  omega arith,
  omega arith,
  c.loop-c.invariant.2,
  group-filled m.sizes m.all m.years.calendar c.loop-c.invariant.2 c.loop-c.c (omega arith) (omega arith)
      c.group_spread-spread.ensures c.served_from-lo.ensures c.served_from-hi.ensures c.loop-c.invariant.3 c.fill_weights.ensures,
)

pub returns : goal.returns
unfolding weights_by
returns c = let m = c.args.self.now in let last = c.count-last.result - 3 in
    let e : c.loop-c.c ≡ last + 1 = omega arith in
    filled-tab c.loop-c.invariant.3
    (ap (served_from m.years.start m.years.period m.years.months last) e ∙ served_end m.years.calendar c.loop-c.invariant.2 ∙ sym m.all) c.requires
