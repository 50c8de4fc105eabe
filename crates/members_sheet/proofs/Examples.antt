-- METHOD 7.10 to 7.13, 8.1 and 8.2, the examples of reading a members' sheet, by computation.
use mathlib.Core.Path.{refl}
use lib.Ieee.{of_bits}
use Rattle.integers.specs.Lists.{tab_from, tab}
use Rattle.integers.specs.Sums.{sum_z}
use Rattle.refusals.specs.Inside.{start_inside, figure_inside}
use Rattle.little_endian.specs.Bytes.{number_at}
use Rattle.desk_forms.specs.Header.{count_in, start_in}
use Rattle.doubles.specs.Doubles.{double_at, unused_at, is_whole, number_in, counts}
use Rattle.sheet_cells.specs.Cells.{imported_at, kind_at, first_at, second_at, cell_at}
use Rattle.members_sheet.specs.Series.{figures_in, revision_of_first, total_revision}
use Rattle.members_sheet.specs.ReadSheet.{cells_from, sheet_answer}
use Rattle.members_sheet.specs.Examples.{SizeRows, CellRows, FirstBadCell, RevisedSheet}

pub size_rows : SizeRows
unfolding start_inside number_at count_in start_in sheet_answer
size_rows = record { two_bytes = refl; too_few = refl; too_many = refl; month_13 = refl; month_0 = refl; bytes_1226 = refl; bytes_1228 = refl; room_of_71 = refl }

pub cell_rows : CellRows
unfolding start_inside figure_inside number_at count_in start_in of_bits double_at unused_at is_whole number_in counts imported_at kind_at first_at second_at cell_at cells_from sheet_answer
cell_rows = record { kind_3 = refl; kind_255 = refl; kind_0 = refl; old_figure = refl; new_figure = refl; figure = refl; gap_first_used = refl; gap_second_used = refl; figure_second_used = refl; negative_zero_used = refl; twelve_before_fourteen = refl }

pub first_bad_cell : FirstBadCell
unfolding start_inside figure_inside number_at count_in start_in of_bits double_at unused_at is_whole number_in counts imported_at kind_at first_at second_at cell_at cells_from sheet_answer
first_bad_cell = record { unknown_first = refl; gap_first = refl; double_first = refl }

pub revised-sheet : RevisedSheet
unfolding tab_from tab sum_z start_inside figure_inside number_at count_in start_in of_bits double_at unused_at is_whole number_in counts imported_at kind_at first_at second_at cell_at cells_from figures_in revision_of_first total_revision sheet_answer
revised-sheet = record { answer = refl; series = refl }
