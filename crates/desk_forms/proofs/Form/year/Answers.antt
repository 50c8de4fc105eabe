-- `desk_forms::Form::year` meets its contract: the year that is given, or the two bytes behind the header.
use mathlib.Core.Path.{sym, ap, ◌∙◌}
use Rattle.desk_forms.specs.declared.Form.{Form}
use Rattle.desk_forms.specs.ColumnsFile.{first_year_in}
use Rattle.desk_forms.specs.Forms.{year_of}
use Rattle.desk_forms.proofs.Form.year.Goals as goal

pub returns-in-Columns : goal.returns-in-Columns
unfolding first_year_in
returns-in-Columns c =
    c.number_at.ensures.value ∙ ap (λ (f : Form). year_of f c.args.given c.args.file.now) (sym c.in-Columns.is)
