-- METHOD 7.5, the desk file by calendar month: the bytes of a series with weights and its first year, and what a byte string means.
use Rattle.std.specs.Prelude.{ℕ, ◌+◌, ◌*◌, ◌≡◌, List, ◌++◌, pos, length}
use Rattle.refusals.specs.Limits.{months_of_year}
use Rattle.little_endian.specs.Bytes.{bytes_of, number_at}
use Rattle.chart.specs.Chart.{Starts, month_order, order_of_t}
use Rattle.desk_arrays.specs.Arrays.{figures_bytes, weights_bytes, figures_at, weights_at}
use Rattle.desk_forms.specs.File.{header_length}
use Rattle.desk_forms.specs.Header.{SeriesWithWeights, header, count_in, start_in, weights_start, length_for}

-- METHOD 7.5: the header, with period 12, and the first year in 2 bytes; then the figures and the weights, each in month order
unfoldable pub columns_bytes : ℕ → SeriesWithWeights → List ℕ
columns_bytes year s =
    (header (length s.figures) s.start months_of_year ++ bytes_of 2 year)
    ++ figures_bytes (month_order (pos 0) months_of_year s.start s.figures)
    ++ weights_bytes (month_order 0 months_of_year s.start s.weights)

-- the bytes before the figures: the header and the first year take 4 + 2
abbrev pub columns_front : ℕ
columns_front = 6

-- METHOD 7.5: the length of a file of n months; it is 6 + 6n, and as many are the bytes of a series (proofs/FileLaws: six_and_six, columns-length)
abbrev pub columns_length : ℕ → ℕ
columns_length n = length_for columns_front n

abbrev pub SixAndSix : Type 0
SixAndSix = (n : ℕ) → columns_length n ≡ 6 + 6 * n

abbrev pub ColumnsLength : Type 0
ColumnsLength = (year : ℕ) (s : SeriesWithWeights) → Starts months_of_year s.start → length s.weights ≡ length s.figures
    → length (columns_bytes year s) ≡ columns_length (length s.figures)

-- METHOD 7.5: the first year of a byte string, in the 2 bytes from place 4 on
unfoldable pub first_year_in : List ℕ → ℕ
first_year_in file = number_at file header_length 2

-- METHOD 7.5: what an accepted byte string means, beside its first year: a series in order of t; bytes past the end count 0
unfoldable pub series_in_columns : List ℕ → SeriesWithWeights
series_in_columns file = record {
  start = start_in file;
  figures = order_of_t (pos 0) months_of_year (start_in file) (figures_at file columns_front (count_in file));
  weights = order_of_t 0 months_of_year (start_in file) (weights_at file (weights_start columns_front (count_in file)) (count_in file));
}
