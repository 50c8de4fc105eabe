-- `seasonal_choice::chosen_filter` meets its contract: the sums over all months, and five questions more at most.
use native.Mathlib.Omega.{arith}
use Rattle.seasonal_choice.specs.SeasonalChoice.{year_changes, chosen_filter}
use Rattle.seasonal_choice.proofs.chosen_filter.Goals as goal

pub ask-requires : goal.ask-requires
unfolding year_changes
ask-requires c = let p = c.requires in record {
  both = p.both;
  long = omega (arith, p.long);
  i_is = c.year_changes-i.ensures.0;
  s_is = c.year_changes-s.ensures.0;
  i_most = c.year_changes-i.ensures.1;
  s_most = c.year_changes-s.ensures.1;
}

pub returns : goal.returns
unfolding chosen_filter
returns c = c.ask.ensures
