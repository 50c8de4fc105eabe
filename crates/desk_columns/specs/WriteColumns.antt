-- METHOD 7.7 and 8: what writing a desk file by calendar month answers, and what the lent output then holds.
use Rattle.std.specs.Prelude.{ℕ, ◌≡◌, List, length, Result}
use Rattle.refusals.specs.declared.Refusal.{Refusal}
use Rattle.refusals.specs.Sheet.{Answer, success}
use Rattle.refusals.specs.Checks.{Check, first_to_apply}
use Rattle.desk_forms.specs.Header.{SeriesWithWeights}
use Rattle.desk_forms.specs.ColumnsFile.{columns_front, columns_length, columns_bytes}
use Rattle.desk_checks.specs.FileChecks.{years_check, series_checks}
use Rattle.desk_forms.specs.After.{front_after}
use Rattle.desk_file.specs.WriteFile.{write_says}

-- METHOD 8.2: the checks of writing by calendar month, from a first year on; the output comes in by its length
abbrev pub write_columns_checks : ℕ → SeriesWithWeights → ℕ → List Check
write_columns_checks year s room = series_checks columns_front (years_check year s.start (length s.figures)) s room

-- METHOD 8.2: the answer is the first that applies, else the length of the file
unfoldable pub write_columns_answer : ℕ → SeriesWithWeights → ℕ → Answer ℕ
write_columns_answer year s room = first_to_apply (write_columns_checks year s room) (success (columns_length (length s.figures)))

-- METHOD 10.1 and 10.2, the promise of `write_columns`, for all inputs: the first year, the series with its weights, the output before, the answer,
-- the output after
pub record WriteColumnsDone (year : ℕ) (s : SeriesWithWeights) (out₀ : List ℕ) (r : Result ℕ Refusal) (out : List ℕ) : Type 0 where
  pub answer : write_says r ≡ write_columns_answer year s (length out₀)
  pub out_left : out ≡ front_after (write_columns_answer year s (length out₀)) (columns_bytes year s) out₀
