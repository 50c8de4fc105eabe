-- METHOD 7.7 and 8: what reading a desk file by calendar month answers, and what the two lent slices then hold.
use Rattle.std.specs.Prelude.{ℕ, min, ◌≡◌, List, ltb, ℤ, length, Result, Ok, Err}
use Rattle.refusals.specs.declared.Refusal.{Refusal}
use Rattle.refusals.specs.Sheet.{Answer, success, refusal_of}
use Rattle.refusals.specs.Checks.{Check, first_to_apply}
use Rattle.desk_forms.specs.Header.{count_in, start_in}
use Rattle.desk_forms.specs.ColumnsFile.{columns_front, first_year_in, series_in_columns}
use Rattle.desk_checks.specs.FileChecks.{years_check, file_checks}
use Rattle.desk_forms.specs.After.{front_after}
use Rattle.desk_columns.specs.declared.ColumnsSeries.{ColumnsSeries}

-- METHOD 7.7: what an accepted file answers, n, the start month and the first year
pub record Dated : Type 0 where
  pub count : ℕ
  pub start : ℕ
  pub first_year : ℕ

abbrev pub dated : ℕ → ℕ → ℕ → Answer Dated
dated n start year = success (record { count = n; start = start; first_year = year })

-- each case of the program's answer, as METHOD 7.7 and 8.1 have it
abbrev pub read_columns_says : Result ColumnsSeries Refusal → Answer Dated
read_columns_says (Ok s) = dated s.count s.start s.year
read_columns_says (Err q) = refusal_of q

-- METHOD 8.2: row 11 of the years of a file by calendar month
abbrev pub years_check_in : List ℕ → List Check
years_check_in file = years_check (first_year_in file) (start_in file) (count_in file)

-- METHOD 8.2: the checks of reading by calendar month; the slices come in by their lengths, each n or more (7.7)
abbrev pub read_columns_checks : List ℕ → ℕ → ℕ → List Check
read_columns_checks file figuresRoom weightsRoom =
    file_checks columns_front (years_check_in file) (ltb (min figuresRoom weightsRoom) (count_in file)) (series_in_columns file) file

-- METHOD 8.2: the answer is the first that applies, else n, the start month and the first year
unfoldable pub read_columns_answer : List ℕ → ℕ → ℕ → Answer Dated
read_columns_answer file figuresRoom weightsRoom =
    first_to_apply (read_columns_checks file figuresRoom weightsRoom) (dated (count_in file) (start_in file) (first_year_in file))

-- METHOD 10.1 and 10.2, the promise of `read_columns`, for all inputs: the file and both slices before, the answer, both slices after
pub record ReadColumnsDone (file : List ℕ) (figures₀ : List ℤ) (weights₀ : List ℕ) (r : Result ColumnsSeries Refusal) (figures : List ℤ) (weights : List ℕ) : Type 0 where
  pub answer : read_columns_says r ≡ read_columns_answer file (length figures₀) (length weights₀)
  pub figures_left : figures ≡ front_after (read_columns_answer file (length figures₀) (length weights₀)) (series_in_columns file).figures figures₀
  pub weights_left : weights ≡ front_after (read_columns_answer file (length figures₀) (length weights₀)) (series_in_columns file).weights weights₀
