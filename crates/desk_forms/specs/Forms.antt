-- The two forms side by side, for the code that serves both: what each definition of File and ColumnsFile is called there. Nothing here is promised
-- to a caller of the desk.
use Rattle.std.specs.Prelude.{ℕ, ◌≤◌, ◌≡◌, true, List, ◌++◌, length}
use Rattle.refusals.specs.Limits.{least_months, most_months, months_of_year}
use Rattle.refusals.specs.Inside.{start_inside}
use Rattle.little_endian.specs.Bytes.{bytes_of}
use Rattle.desk_forms.specs.declared.Form.{Form}
use Rattle.desk_forms.specs.declared.Form.TheVariants.{Plain, Columns}
use Rattle.desk_forms.specs.Header.{SeriesWithWeights, header, count_in, start_in, length_for}
use Rattle.desk_forms.specs.File.{header_length, file_bytes, series_in}
use Rattle.desk_forms.specs.ColumnsFile.{columns_front, columns_bytes, first_year_in, series_in_columns}

-- how many bytes stand before the figures
abbrev pub front_of : Form → ℕ
front_of Plain = header_length
front_of Columns = columns_front

-- these bytes
abbrev pub front_bytes : Form → ℕ → ℕ → ℕ → List ℕ
front_bytes Plain n start year = header n start months_of_year
front_bytes Columns n start year = header n start months_of_year ++ bytes_of 2 year

-- the order of the arrays, as a month order: with one month in a year it is the order of t
abbrev pub months_in : Form → ℕ
months_in Plain = 1
months_in Columns = months_of_year

abbrev pub start_of : Form → ℕ → ℕ
start_of Plain start = 1
start_of Columns start = start

-- the first year: the plain form has none, so that it is given
abbrev pub year_of : Form → ℕ → List ℕ → ℕ
year_of Plain given file = given
year_of Columns given file = first_year_in file

-- what a byte string means
abbrev pub meaning_of : Form → List ℕ → SeriesWithWeights
meaning_of Plain file = series_in file
meaning_of Columns file = series_in_columns file

-- and the bytes of a series
abbrev pub bytes_in : Form → ℕ → SeriesWithWeights → List ℕ
bytes_in Plain year s = file_bytes s
bytes_in Columns year s = columns_bytes year s

-- a file whose sizes are right: n months from a start month
pub record Sized (form : Form) (file : List ℕ) (n start : ℕ) : Type 0 where
  pub count : n ≡ count_in file
  pub begins : start ≡ start_in file
  pub least : least_months ≤ n
  pub most : n ≤ most_months
  pub inside : start_inside start ≡ true
  pub size : length file ≡ length_for (front_of form) n

-- a series that fits its form, and an output with room for it
pub record Fitting (form : Form) (s : SeriesWithWeights) (room : ℕ) : Type 0 where
  pub least : least_months ≤ length s.figures
  pub most : length s.figures ≤ most_months
  pub inside : start_inside s.start ≡ true
  pub same : length s.weights ≡ length s.figures
  pub enough : length_for (front_of form) (length s.figures) ≤ room
