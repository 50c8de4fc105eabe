-- `desk_forms::DatedSeries::put` meets its contract: what stands before the figures, and both arrays in the order of the form.
use mathlib.Core.Path.{◌∙◌}
use Rattle.desk_arrays.specs.Arrays.{figures_bytes, weights_bytes}
use Rattle.desk_forms.specs.Header.{series}
use Rattle.desk_forms.proofs.FormLaws.{form_starts}
use Rattle.desk_forms.proofs.FileLaws.{put_parts}
use Rattle.desk_forms.proofs.dated.DatedSeries.put.Goals as goal

pub returns : goal.returns
unfolding figures_bytes weights_bytes
returns c =
    let a = c.args.self in
    let fits = c.requires in
    let k = c.chart-chart.ensures in
    c.put-2.ensures
    ∙ rw (c.put.ensures, c.put_front.ensures, c.front.ensures.0, c.weights.ensures, k.0, k.1)
    (put_parts c.args.form a.year (series a.start a.figures.now a.weights.now) (form_starts c.args.form a.start fits.inside) fits.same c.args.out.now fits.enough)
