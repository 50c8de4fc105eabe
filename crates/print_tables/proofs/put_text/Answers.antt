-- `print_tables::put_text` meets its contract: the line of a refusal, or the text of the series that was read, before which nothing was put.
use mathlib.Core.Path.{refl, sym}
use native.Mathlib.Omega.{arith}
use Rattle.decimals.proofs.StoringLaws.{put-eq}
use Rattle.print_tables.proofs.PrintLaws.{after_nothing, unread-printed, nothing_put, months-fit, months-read, series-printed, figures_room}
use Rattle.print_tables.proofs.put_text.Goals as goal

pub returns-in_default : goal.returns-in_default
returns-in_default c = put-eq (unread-printed c.read-answer.ensures refl refl _ c.in_default.is) c.put_unread.ensures

pub put_series-requires : goal.put_series-requires
put_series-requires c =
    let read = c.read-answer.ensures in
    let told = c.in-Ok.is in
    let put = put-eq (nothing_put read refl refl _ told) c.put_unread.ensures in
    (omega (arith, put.stored), omega (arith, months-read read refl refl _ told, months-fit read refl refl _ told))

pub returns : goal.returns
returns c =
    let read = c.read-answer.ensures in
    let told = c.in-Ok.is in
    after_nothing (put-eq (nothing_put read refl refl _ told) c.put_unread.ensures) (put-eq (series-printed read refl refl _ told) c.put_series.ensures)

pub slice_bounds-figures-end : goal.slice_bounds-figures-end
slice_bounds-figures-end c = figures_room c.read-answer.ensures refl refl _ c.in-Ok.is

pub slice_bounds-put_series-end : goal.slice_bounds-put_series-end
slice_bounds-put_series-end c = sym (months-read c.read-answer.ensures refl refl _ c.in-Ok.is)
