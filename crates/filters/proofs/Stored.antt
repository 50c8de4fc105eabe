-- Any rows that the code stores can be read, by one test that is computed: of their sizes, and of each row, whose denominator divides L and the sizes of
-- whose weights sum to little more.
use mathlib.Core.Bool.{Bool, ◌&&◌}
use Prim.Native.Nat.{ℕ, ◌+◌, ◌*◌}
use lib.Dec.{T, leb, leb→le}
use lib.ListN.{length}
use Rattle.rows.specs.Table.{Table, row_count}
use Rattle.rows.specs.Stored.{largest_norm, largest_over, most_side, most_step, most_width, most_row_step, Readable}
use Rattle.rows.proofs.RowTests.{both, all, fair}
use Rattle.filters.proofs.Light.{all_light}

abbrev pub can_be_read : ℕ → Table → Bool
can_be_read L F =
    (leb 1 F.side && leb F.side most_side) && ((leb 1 F.step && leb F.step most_step) && ((leb 1 F.middle && leb F.middle largest_over) && ((leb 1 F.ends && leb F.ends largest_over)
    && ((leb F.row_step most_row_step && leb F.width most_width) && (leb ((F.side * F.row_step + F.side) * F.width + (2 * F.side + 1)) (length F.rows) && all (row_count F) (fair L largest_norm F))))))

pub readable : (F : Table) (L : ℕ) → T (can_be_read L F) → Readable F
readable F L t =
    let side = both _ _ t in
    let step = both _ _ side.1 in
    let middle = both _ _ step.1 in
    let ends = both _ _ middle.1 in
    let sizes = both _ _ ends.1 in
    let rows = both _ _ sizes.1 in
    record {
      side_least = leb→le _ _ (both _ _ side.0).0;
      side_most = leb→le _ _ (both _ _ side.0).1;
      row_step_most = leb→le _ _ (both _ _ sizes.0).0;
      step_least = leb→le _ _ (both _ _ step.0).0;
      step_most = leb→le _ _ (both _ _ step.0).1;
      width_most = leb→le _ _ (both _ _ sizes.0).1;
      rows_long = leb→le _ _ rows.0;
      light = λ b a i j. ((all_light F L largest_norm rows.1).at b a i j).light;
      middle_least = leb→le _ _ (both _ _ middle.0).0;
      ends_least = leb→le _ _ (both _ _ ends.0).0;
      middle_most = leb→le _ _ (both _ _ middle.0).1;
      ends_most = leb→le _ _ (both _ _ ends.0).1;
    }
