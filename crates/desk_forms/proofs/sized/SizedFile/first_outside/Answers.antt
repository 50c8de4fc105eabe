-- `desk_forms::SizedFile::first_outside` meets its contract: the array, in the order of the form, is what the file means.
use mathlib.Core.Path.{◌∙◌}
use Rattle.refusals.specs.First.{first_outside}
use Rattle.desk_arrays.proofs.ArrayLaws.{figures_are}
use Rattle.desk_forms.proofs.FormLaws.{form_figures}
use Rattle.desk_forms.proofs.sized.SizedFile.first_outside.Goals as goal

pub returns : goal.returns
unfolding first_outside
returns c =
    let z = c.args.self.sized in
    let k = c.chart-chart.ensures in
    c.first_bad.ensures ∙ rw (k.0, k.1, k.2, c.front.ensures.0, figures_are, form_figures z)
