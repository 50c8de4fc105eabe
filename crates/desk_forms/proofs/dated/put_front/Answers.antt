-- `desk_forms::dated::put_front` meets its contract: the header, and by calendar month the first year behind it.
use Prim.Native.Nat.{ℕ}
use mathlib.Core.List.{List}
use mathlib.Core.Path.{◌≡◌, sym, ap, ◌∙◌}
use lib.Seq.{sets}
use Rattle.desk_forms.specs.declared.Form.{Form}
use Rattle.desk_forms.specs.Forms.{front_bytes}
use Rattle.desk_forms.proofs.FileLaws.{put_year}
use Rattle.desk_forms.proofs.dated.put_front.Goals as goal

-- the bytes of the form that was found
by_form : (out : List ℕ) (n start year : ℕ) {form found : Form} → form ≡ found → ◌≡◌ (sets out 0 (front_bytes found n start year)) (sets out 0 (front_bytes form n start year))
by_form out n start year e = ap (λ (f : Form). sets out 0 (front_bytes f n start year)) (sym e)

pub returns-in-Columns : goal.returns-in-Columns
returns-in-Columns c =
    let a = c.args in
    c.put_number.ensures ∙ (rw (c.put_header.ensures, c.from.ensures) (put_year a.out.now a.n a.start a.year)) ∙ by_form a.out.now a.n a.start a.year c.in-Columns.is
