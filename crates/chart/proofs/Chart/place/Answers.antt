-- `chart::Chart::place` meets its contract: the columns before, and the years.
use native.Mathlib.Omega.{arith}
use Rattle.chart.proofs.Places.{place_computed}
use Rattle.chart.proofs.Chart.place.Goals as goal

pub returns : goal.returns
returns c =
    let s = c.args.self in
    place_computed s.period s.start s.charted.starts s.count c.args.t c.column_of.result c.before-2.result c.requires c.column_of.ensures.0 c.before-2.ensures

pub overflow_add-result : goal.overflow_add-result
overflow_add-result c =
    let s = c.args.self in
    record {
      fits = omega (arith, (place_computed s.period s.start s.charted.starts s.count c.args.t c.column_of.result c.before-2.result c.requires c.column_of.ensures.0 c.before-2.ensures).1);
    }
