-- METHOD 7 and 8, the examples of reading and writing the plain desk file, by computation.
use mathlib.Core.Path.{refl}
use Rattle.integers.specs.Lists.{tab_from, tab}
use Rattle.refusals.specs.Inside.{start_inside, figure_inside, weight_inside}
use Rattle.refusals.specs.First.{first_from, first_failing, first_outside, first_above}
use Rattle.little_endian.specs.Bytes.{bytes_of, number_at, word, signed, array}
use Rattle.desk_arrays.specs.Arrays.{figures_bytes, weights_bytes, stored_figure, stored_weight, figures_at, weights_at}
use Rattle.desk_forms.specs.Header.{header, count_in, start_in, period_in}
use Rattle.desk_forms.specs.File.{file_bytes, series_in}
use Rattle.desk_file.specs.ReadFile.{read_answer}
use Rattle.desk_file.specs.WriteFile.{write_answer}
use Rattle.desk_file.specs.Examples.{ReadingRows, WritingRows, SeriesFromMarch}

pub reading_rows : ReadingRows
unfolding tab_from tab start_inside figure_inside weight_inside first_from first_failing first_outside first_above number_at signed stored_figure stored_weight figures_at weights_at count_in start_in period_in series_in read_answer
reading_rows = record { no_header = refl; seven_first = refl; too_few = refl; too_many = refl; month_0 = refl; month_13 = refl; period_4 = refl; bytes_435 = refl; bytes_437 = refl; room_of_71 = refl; weights_71 = refl; figure_at_0 = refl; first_figure = refl; first_below = refl; weight_at_5 = refl; first_weight = refl; good = refl }

pub writing_rows : WritingRows
unfolding start_inside figure_inside weight_inside first_from first_failing first_outside first_above write_answer
writing_rows = record { too_few = refl; too_many = refl; month_0 = refl; month_13 = refl; weights_71 = refl; weights_73 = refl; room_of_435 = refl; first_figure = refl; first_below = refl; first_weight = refl; fewest = refl; most = refl }

pub series-from-march : SeriesFromMarch
unfolding tab_from tab start_inside figure_inside weight_inside first_from first_failing first_outside first_above bytes_of number_at word signed array figures_bytes weights_bytes stored_figure stored_weight figures_at weights_at header count_in start_in period_in file_bytes series_in read_answer write_answer
series-from-march = record {
  read = λ r figures weights d. (d.answer, d.figures_left, d.weights_left);
  written = λ r out d. (d.answer, d.out_left);
  too_short = λ r out d. (d.answer, d.out_left);
}
