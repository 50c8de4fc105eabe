use native.Mathlib.Omega.{arith}
use Rattle.seasonal_choice.proofs.Asking.{decided, given_up, less_i, less_s, next, asked_again}
use Rattle.seasonal_choice.proofs.+ask.Goals as goal

pub returns-in-Some : goal.returns-in-Some
returns-in-Some t c = decided c.requires c.decide.ensures c.in-Some.is

pub returns-then-tries-eq0 : goal.returns-then-tries-eq0
returns-then-tries-eq0 t c = given_up c.requires c.decide.ensures c.in_default.is c.if-tries-eq0.true

pub overflow_sub-i : goal.overflow_sub-i
overflow_sub-i t c = omega (arith, (less_i c.requires c.if-tries-eq0.false c.year_changes-last_i.ensures.0).0)

pub overflow_sub-s : goal.overflow_sub-s
overflow_sub-s t c = (less_s c.requires c.if-tries-eq0.false c.year_changes-last_s.ensures.0).0

pub ask-requires : goal.ask-requires
ask-requires t c = (
  omega (arith, c.if-tries-eq0.false),
  next c.requires c.if-tries-eq0.false c.year_changes-last_i.ensures.0 c.year_changes-last_s.ensures.0,
)

pub returns : goal.returns
returns t c = asked_again c.requires c.if-tries-eq0.false c.decide.ensures c.in_default.is c.ask.ensures
