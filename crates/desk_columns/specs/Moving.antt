-- METHOD 7.8 and 8: what moving a desk file from one form to the other answers, and what the lent output then holds.
use Rattle.std.specs.Prelude.{ℕ, ◌≡◌, List, ltb, length, Result, Ok, Err}
use Rattle.refusals.specs.declared.Refusal.{Refusal}
use Rattle.refusals.specs.Sheet.{Answer, success, refusal_of}
use Rattle.refusals.specs.Checks.{Check, first_to_apply}
use Rattle.desk_forms.specs.Header.{count_in, start_in}
use Rattle.desk_forms.specs.File.{header_length, file_length, file_bytes, series_in}
use Rattle.desk_forms.specs.ColumnsFile.{columns_front, columns_length, columns_bytes, first_year_in, series_in_columns}
use Rattle.desk_checks.specs.FileChecks.{years_check, file_checks}
use Rattle.desk_forms.specs.After.{front_after}
use Rattle.desk_file.specs.WriteFile.{write_says}
use Rattle.desk_columns.specs.declared.PlainSize.{PlainSize}
use Rattle.desk_columns.specs.ReadColumns.{years_check_in}

-- ---- forward: a plain file, and the first year that the caller gives
-- METHOD 8.2: the checks are those of a plain file, with row 11 of the given year; the output, which comes in by its length, has room for the file by
-- calendar month
abbrev pub forward_checks : List ℕ → ℕ → ℕ → List Check
forward_checks file year room =
    file_checks header_length (years_check year (start_in file) (count_in file)) (ltb room (columns_length (count_in file))) (series_in file) file

-- METHOD 8.2: the answer is the first that applies, else the length of the file by calendar month (7.8)
unfoldable pub forward_answer : List ℕ → ℕ → ℕ → Answer ℕ
forward_answer file year room = first_to_apply (forward_checks file year room) (success (columns_length (count_in file)))

-- METHOD 10.1 and 10.2, the promise of `to_columns`, for all inputs: the file, the first year, the output before, the answer, the output after
pub record MovedForward (file : List ℕ) (year : ℕ) (out₀ : List ℕ) (r : Result ℕ Refusal) (out : List ℕ) : Type 0 where
  pub answer : write_says r ≡ forward_answer file year (length out₀)
  pub out_left : out ≡ front_after (forward_answer file year (length out₀)) (columns_bytes year (series_in file)) out₀

-- ---- back: a file by calendar month
-- METHOD 7.8: what an accepted file answers, the length of the plain file, and the first year beside it
pub record SizeAndYear : Type 0 where
  pub size : ℕ
  pub first_year : ℕ

abbrev pub size_and_year : ℕ → ℕ → Answer SizeAndYear
size_and_year size year = success (record { size = size; first_year = year })

-- each case of the program's answer, as METHOD 7.8 and 8.1 have it
abbrev pub back_says : Result PlainSize Refusal → Answer SizeAndYear
back_says (Ok s) = size_and_year s.size s.year
back_says (Err q) = refusal_of q

-- METHOD 8.2: the checks are those of a file by calendar month; the output, which comes in by its length, has room for the plain file
abbrev pub back_checks : List ℕ → ℕ → List Check
back_checks file room = file_checks columns_front (years_check_in file) (ltb room (file_length (count_in file))) (series_in_columns file) file

-- METHOD 8.2: the answer is the first that applies, else the length of the plain file and the first year (7.8)
unfoldable pub back_answer : List ℕ → ℕ → Answer SizeAndYear
back_answer file room = first_to_apply (back_checks file room) (size_and_year (file_length (count_in file)) (first_year_in file))

-- METHOD 10.1 and 10.2, the promise of `from_columns`, for all inputs: the file, the output before, the answer, the output after
pub record MovedBack (file : List ℕ) (out₀ : List ℕ) (r : Result PlainSize Refusal) (out : List ℕ) : Type 0 where
  pub answer : back_says r ≡ back_answer file (length out₀)
  pub out_left : out ≡ front_after (back_answer file (length out₀)) (file_bytes (series_in_columns file)) out₀
