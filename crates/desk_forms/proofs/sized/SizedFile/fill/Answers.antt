-- `desk_forms::sized::SizedFile::fill` meets its contract: both arrays, in the order of the form, are what the file means.
use mathlib.Core.Path.{◌∙◌}
use Rattle.desk_arrays.proofs.ArrayLaws.{figures_are, weights_are}
use Rattle.desk_forms.proofs.FormLaws.{form_figures, form-weights}
use Rattle.desk_forms.proofs.sized.SizedFile.fill.Goals as goal

pub returns : goal.returns
returns c =
    let z = c.args.self.sized in
    let k = c.chart-chart.ensures in (
      c.get.ensures ∙ rw (k.0, k.1, k.2, c.front.ensures.0, figures_are, form_figures z),
      c.get-2.ensures ∙ rw (k.0, k.1, k.2, c.weights.ensures, weights_are, form-weights z),
    )
