-- METHOD 7.5 to 7.8, 8.1 and 8.2, the examples of the desk file by calendar month, by computation.
use mathlib.Core.Path.{refl}
use Rattle.integers.specs.Lists.{tab_from, tab}
use Rattle.integers.specs.Sums.{sum_n}
use Rattle.refusals.specs.Inside.{start_inside, figure_inside, weight_inside, last_year, year_inside, years_inside}
use Rattle.refusals.specs.First.{first_from, first_failing, first_outside, first_above}
use Rattle.little_endian.specs.Bytes.{bytes_of, number_at, word, signed, array}
use Rattle.chart.specs.Chart.{column_of, first_in, in_column, place, column, next_columns, month_order, order_of_t}
use Rattle.desk_arrays.specs.Arrays.{figures_bytes, weights_bytes, stored_figure, stored_weight, figures_at, weights_at}
use Rattle.desk_forms.specs.Header.{header, count_in, start_in, period_in}
use Rattle.desk_forms.specs.File.{file_bytes, series_in}
use Rattle.desk_forms.specs.ColumnsFile.{columns_bytes, first_year_in, series_in_columns}
use Rattle.desk_columns.specs.ReadColumns.{read_columns_answer}
use Rattle.desk_columns.specs.WriteColumns.{write_columns_answer}
use Rattle.desk_columns.specs.Moving.{forward_answer, back_answer}
use Rattle.desk_columns.specs.Examples.{ReadingColumnsRows, BackRows, WritingColumnsRows, ForwardRows, YearsAtLimits, MonthsFromMarch, BytesFromMarch}

pub reading_columns_rows : ReadingColumnsRows
unfolding tab_from tab sum_n start_inside figure_inside weight_inside last_year year_inside years_inside first_from first_failing first_outside first_above number_at signed column_of first_in in_column place order_of_t stored_figure stored_weight figures_at weights_at count_in start_in period_in first_year_in series_in_columns read_columns_answer
reading_columns_rows = record { bytes_5 = refl; too_few = refl; too_many = refl; month_0 = refl; month_13 = refl; period_6 = refl; year_0 = refl; bytes_437 = refl; bytes_436 = refl; bytes_439 = refl; figures_71 = refl; weights_71 = refl; first_figure = refl; first_weight = refl; good = refl }

pub back_rows : BackRows
unfolding tab_from tab sum_n start_inside figure_inside weight_inside last_year year_inside years_inside first_from first_failing first_outside first_above number_at signed column_of first_in in_column place order_of_t stored_figure stored_weight figures_at weights_at count_in start_in period_in first_year_in series_in_columns back_answer
back_rows = record { bytes_5 = refl; too_few = refl; too_many = refl; month_0 = refl; month_13 = refl; period_6 = refl; year_0 = refl; bytes_437 = refl; room_of_435 = refl; first_figure = refl; first_weight = refl; good = refl }

pub writing_columns_rows : WritingColumnsRows
unfolding start_inside figure_inside weight_inside last_year year_inside years_inside first_from first_failing first_outside first_above write_columns_answer
writing_columns_rows = record { too_few = refl; too_many = refl; month_0 = refl; month_13 = refl; year_0 = refl; weights_71 = refl; weights_73 = refl; room_of_437 = refl; first_figure = refl; first_weight = refl; fewest = refl; most = refl }

pub forward_rows : ForwardRows
unfolding tab_from tab start_inside figure_inside weight_inside last_year year_inside years_inside first_from first_failing first_outside first_above number_at signed stored_figure stored_weight figures_at weights_at count_in start_in period_in series_in forward_answer
forward_rows = record { bytes_3 = refl; too_few = refl; too_many = refl; month_0 = refl; month_13 = refl; period_6 = refl; year_0 = refl; bytes_435 = refl; bytes_438 = refl; room_of_437 = refl; first_figure = refl; first_weight = refl; good = refl }

pub years-at-limits : YearsAtLimits
unfolding tab_from tab sum_n start_inside figure_inside weight_inside last_year year_inside years_inside first_from first_failing first_outside first_above number_at signed column_of first_in in_column place order_of_t stored_figure stored_weight figures_at weights_at count_in start_in period_in series_in first_year_in series_in_columns read_columns_answer write_columns_answer forward_answer back_answer
years-at-limits = record { last_year_is = refl; read_1 = refl; read_10000 = refl; read_65535 = refl; read_january = refl; read_february = refl; back_1 = refl; back_10000 = refl; back_january = refl; back_february = refl; write_10000 = refl; write_january = refl; write_february = refl; forward_10000 = refl; forward_january = refl; forward_february = refl }

pub months-from-march : MonthsFromMarch
unfolding tab_from tab sum_n start_inside figure_inside weight_inside last_year year_inside years_inside first_from first_failing first_outside first_above bytes_of number_at word signed array column_of first_in in_column place column next_columns month_order order_of_t figures_bytes weights_bytes stored_figure stored_weight figures_at weights_at header count_in start_in period_in file_bytes series_in columns_bytes first_year_in series_in_columns read_columns_answer write_columns_answer forward_answer back_answer
months-from-march = record {
  read = λ r figures weights d. (d.answer, d.figures_left, d.weights_left);
  written = λ r out d. (d.answer, d.out_left);
  forward = λ r out d. (d.answer, d.out_left);
  year_0 = λ r out d. (d.answer, d.out_left);
  back = λ r out d. (d.answer, d.out_left);
}

pub bytes_from_march : BytesFromMarch
unfolding tab_from tab bytes_of word array first_in in_column column next_columns month_order figures_bytes weights_bytes header columns_bytes
bytes_from_march = record { first_bytes = refl; april_figure = refl; april_weight = refl }
