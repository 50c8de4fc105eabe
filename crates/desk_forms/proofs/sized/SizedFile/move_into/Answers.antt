-- `desk_forms::SizedFile::move_into` meets its contract: what stands before the figures, and both arrays, from one order into the other.
use mathlib.Core.Path.{◌≡◌, sym, ◌∙◌}
use Rattle.desk_arrays.specs.Arrays.{figures_bytes, weights_bytes}
use Rattle.desk_arrays.proofs.ArrayLaws.{figures_are, weights_are}
use Rattle.desk_forms.specs.Forms.{meaning_of}
use Rattle.desk_forms.proofs.FormLaws.{form_starts, form_figures, form-weights, meaning_start, meaning-months}
use Rattle.desk_forms.proofs.FileLaws.{put_parts}
use Rattle.desk_forms.proofs.sized.SizedFile.move_into.Goals as goal

pub returns : goal.returns
unfolding figures_bytes weights_bytes
returns c =
    let a = c.args.self in
    let z = a.sized in
    let series = meaning_of a.form a.bytes.now in
    let begins : series.start ≡ a.start = meaning_start a.form a.bytes.now ∙ sym z.begins in
    let months = meaning-months z in
    let k = c.chart-from.ensures in
    let m = c.chart-to.ensures in
    c.move_array-2.ensures.entries
    ∙ rw (c.move_array.ensures.entries, c.put_front.ensures, c.front.ensures.0, c.weights.ensures, c.front-2.ensures.0, c.weights-2.ensures, k.0, k.1, k.2, m.0, m.1, figures_are, weights_are, form_figures z, form-weights z)
    (rw (begins, months.0) at (put_parts c.args.other a.year series (rw begins (form_starts c.args.other a.start z.inside)) (months.1 ∙ sym months.0) c.args.out.now (rw months.0 c.requires)))
