-- METHOD 8.5: what reading, writing and moving a desk file answer as numbers, for callers in other languages: the number returned, the values of a
-- success, which are 0 after a refusal, the place, and the lent slices.
use Rattle.std.specs.Prelude.{ℕ, ◌≡◌, List, ℤ, length}
use Rattle.refusals.specs.Sheet.{Answer}
use Rattle.refusals.specs.Numbers.{number_of, place_of, value_of}
use Rattle.desk_forms.specs.Header.{SeriesWithWeights}
use Rattle.desk_forms.specs.File.{file_bytes, series_in}
use Rattle.desk_forms.specs.ColumnsFile.{columns_bytes, series_in_columns}
use Rattle.desk_forms.specs.After.{front_after}
use Rattle.desk_file.specs.ReadFile.{Accepted, read_answer}
use Rattle.desk_file.specs.WriteFile.{write_answer}
use Rattle.desk_columns.specs.ReadColumns.{Dated, read_columns_answer}
use Rattle.desk_columns.specs.WriteColumns.{write_columns_answer}
use Rattle.desk_columns.specs.Moving.{forward_answer, SizeAndYear, back_answer}

-- ---- reading: an answer, and the series that a success leaves in the slices
pub record ReadTold (answer : Answer Accepted) (s : SeriesWithWeights) (figures₀ : List ℤ) (weights₀ : List ℕ) (number count start place : ℕ) (figures : List ℤ) (weights : List ℕ) : Type 0 where
  pub number_is : number ≡ number_of answer
  pub count_is : count ≡ value_of (λ (a : Accepted). a.count) answer
  pub start_is : start ≡ value_of (λ (a : Accepted). a.start) answer
  pub place_is : place ≡ place_of answer
  pub figures_left : figures ≡ front_after answer s.figures figures₀
  pub weights_left : weights ≡ front_after answer s.weights weights₀

abbrev pub ReadNumbers : List ℕ → List ℤ → List ℕ → ℕ → ℕ → ℕ → ℕ → List ℤ → List ℕ → Type 0
ReadNumbers file figures₀ weights₀ number count start place figures weights =
    ReadTold (read_answer file (length figures₀) (length weights₀)) (series_in file) figures₀ weights₀ number count start place figures weights

-- by calendar month, with the first year
pub record DatedTold (answer : Answer Dated) (s : SeriesWithWeights) (figures₀ : List ℤ) (weights₀ : List ℕ) (number count start year place : ℕ) (figures : List ℤ) (weights : List ℕ) : Type 0 where
  pub number_is : number ≡ number_of answer
  pub count_is : count ≡ value_of (λ (a : Dated). a.count) answer
  pub start_is : start ≡ value_of (λ (a : Dated). a.start) answer
  pub year_is : year ≡ value_of (λ (a : Dated). a.first_year) answer
  pub place_is : place ≡ place_of answer
  pub figures_left : figures ≡ front_after answer s.figures figures₀
  pub weights_left : weights ≡ front_after answer s.weights weights₀

abbrev pub ReadColumnsNumbers : List ℕ → List ℤ → List ℕ → ℕ → ℕ → ℕ → ℕ → ℕ → List ℤ → List ℕ → Type 0
ReadColumnsNumbers file figures₀ weights₀ number count start year place figures weights =
    DatedTold (read_columns_answer file (length figures₀) (length weights₀)) (series_in_columns file) figures₀ weights₀ number count start year place figures weights

-- ---- writing in either form, and moving forward: an answer that is a length, and the bytes that a success leaves in the output
pub record WriteTold (answer : Answer ℕ) (bytes out₀ : List ℕ) (number size place : ℕ) (out : List ℕ) : Type 0 where
  pub number_is : number ≡ number_of answer
  pub size_is : size ≡ value_of (λ (n : ℕ). n) answer
  pub place_is : place ≡ place_of answer
  pub out_left : out ≡ front_after answer bytes out₀

abbrev pub WriteNumbers : SeriesWithWeights → List ℕ → ℕ → ℕ → ℕ → List ℕ → Type 0
WriteNumbers s out₀ number size place out = WriteTold (write_answer s (length out₀)) (file_bytes s) out₀ number size place out

abbrev pub WriteColumnsNumbers : ℕ → SeriesWithWeights → List ℕ → ℕ → ℕ → ℕ → List ℕ → Type 0
WriteColumnsNumbers year s out₀ number size place out = WriteTold (write_columns_answer year s (length out₀)) (columns_bytes year s) out₀ number size place out

abbrev pub ForwardNumbers : List ℕ → ℕ → List ℕ → ℕ → ℕ → ℕ → List ℕ → Type 0
ForwardNumbers file year out₀ number size place out = WriteTold (forward_answer file year (length out₀)) (columns_bytes year (series_in file)) out₀ number size place out

-- ---- moving back: the same, with the first year
pub record BackTold (answer : Answer SizeAndYear) (bytes out₀ : List ℕ) (number size year place : ℕ) (out : List ℕ) : Type 0 where
  pub number_is : number ≡ number_of answer
  pub size_is : size ≡ value_of (λ (a : SizeAndYear). a.size) answer
  pub year_is : year ≡ value_of (λ (a : SizeAndYear). a.first_year) answer
  pub place_is : place ≡ place_of answer
  pub out_left : out ≡ front_after answer bytes out₀

abbrev pub BackNumbers : List ℕ → List ℕ → ℕ → ℕ → ℕ → ℕ → List ℕ → Type 0
BackNumbers file out₀ number size year place out = BackTold (back_answer file (length out₀)) (file_bytes (series_in_columns file)) out₀ number size year place out
