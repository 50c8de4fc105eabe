-- `desk_forms::SizedFile::first_above` meets its contract: the array, in the order of the form, is what the file means.
use mathlib.Core.Path.{◌∙◌}
use Rattle.refusals.specs.First.{first_above}
use Rattle.desk_arrays.proofs.ArrayLaws.{weights_are}
use Rattle.desk_forms.proofs.FormLaws.{form-weights}
use Rattle.desk_forms.proofs.sized.SizedFile.first_above.Goals as goal

pub returns : goal.returns
unfolding first_above
returns c =
    let z = c.args.self.sized in
    let k = c.chart-chart.ensures in
    c.first_bad.ensures ∙ rw (k.0, k.1, k.2, c.weights.ensures, weights_are, form-weights z)
