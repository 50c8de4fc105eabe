-- `filters::by_row` meets its contract: the row and the window lie within the slices, and the sum is that of the rules.
use Rattle.integers.proofs.Signed64.{kept}
use Rattle.rows.specs.Table.{row_for}
use Rattle.filters.specs.Promises.{table_of}
use Rattle.filters.proofs.Window as window
use Rattle.filters.proofs.by_row.Goals as goal

pub dot-sum-requires : goal.dot-sum-requires
unfolding row_for
dot-sum-requires c = let a = c.args in window.dots (table_of a.f) a.x.now a.t a.earlier a.later a.f.readable c.requires.0

pub rounded-requires : goal.rounded-requires
unfolding row_for
rounded-requires c = let a = c.args in window.sum-within (table_of a.f) a.x.now a.t a.earlier a.later a.f.readable c.requires.0 (kept c.dot-sum.type_inv c.dot-sum.ensures)

pub returns : goal.returns
unfolding row_for
returns c = let a = c.args in
    window.value_is (table_of a.f) a.x.now a.t a.earlier a.later a.f.readable c.requires.0 (kept c.dot-sum.type_inv c.dot-sum.ensures) (kept c.rounded.type_inv c.rounded.ensures)
