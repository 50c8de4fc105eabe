-- `desk_forms::Form::chart` meets its contract: a series has a year or more, and starts in one of its months.
use Rattle.desk_forms.proofs.FormLaws.{charted_form}
use Rattle.desk_forms.proofs.Form.chart.Goals as goal

pub invariant_of-result : goal.invariant_of-result
invariant_of-result c = record { charted = rw (c.months_in.ensures, c.start_of.ensures) (charted_form c.args.self c.requires) }
