-- METHOD 7.7 and 7.9: the theorems on the desk file by calendar month and on moving, whole; the names in brackets are those of their proofs, in
-- proofs/ColumnsTrip.antt. Those on reading, writing and moving speak of what the four entry points promise; every lent slice of bytes is a byte string,
-- `AreBytes` (the contract of little_endian::are_bytes).
use Rattle.std.specs.Prelude.{ℕ, ◌+◌, ◌*◌, ◌^◌, ◌≤◌, ◌<◌, ◌≡◌, true, List, ◌++◌, ℤ, length, take, drop, Result}
use Rattle.refusals.specs.declared.Refusal.{Refusal}
use Rattle.refusals.specs.Limits.{months_of_year}
use Rattle.refusals.specs.Inside.{years_inside}
use Rattle.refusals.specs.Sheet.{success}
use Rattle.little_endian.specs.Bytes.{AreBytes}
use Rattle.chart.specs.Chart.{Starts}
use Rattle.desk_forms.specs.Header.{SeriesWithWeights, series, Storable}
use Rattle.desk_forms.specs.ColumnsFile.{columns_bytes, first_year_in, series_in_columns}
use Rattle.desk_file.specs.WriteFile.{write_says, write_answer}
use Rattle.desk_file.specs.RoundTrips.{WrittenAgain}
use Rattle.desk_columns.specs.declared.ColumnsSeries.{ColumnsSeries}
use Rattle.desk_columns.specs.declared.PlainSize.{PlainSize}
use Rattle.desk_columns.specs.ReadColumns.{Dated, dated, read_columns_says, read_columns_answer, ReadColumnsDone}
use Rattle.desk_columns.specs.WriteColumns.{write_columns_answer, WriteColumnsDone}
use Rattle.desk_columns.specs.Moving.{MovedForward, size_and_year, back_says, MovedBack}

-- what the fields of a file by calendar month can hold, beside those of a plain one: a first year of 2 bytes; and the start month is 1 to 12
pub record StorableFrom (year : ℕ) (s : SeriesWithWeights) : Type 0 where
  pub plain : Storable s
  pub first : year < 2 ^ 16
  pub starts : Starts months_of_year s.start

-- reading gave this series and first year: its length and start month, its figures and weights in the first places of the slices, the rest as before
pub record ReadFrom (year : ℕ) (s : SeriesWithWeights) (figures₀ : List ℤ) (weights₀ : List ℕ) (r : Result ColumnsSeries Refusal) (figures : List ℤ) (weights : List ℕ) : Type 0 where
  pub answer : read_columns_says r ≡ dated (length s.figures) s.start year
  pub figures_left : figures ≡ s.figures ++ drop (length s.figures) figures₀
  pub weights_left : weights ≡ s.weights ++ drop (length s.figures) weights₀

-- moving back gave this file and first year: its length, and its bytes in the first places of the output, the rest as before
pub record BackAgain (file : List ℕ) (year : ℕ) (out₀ : List ℕ) (r : Result PlainSize Refusal) (out : List ℕ) : Type 0 where
  pub answer : back_says r ≡ size_and_year (length file) year
  pub out_left : out ≡ file ++ drop (length file) out₀

-- one byte string for each series with weights and first year: two that reading accepts and that mean the same are the same (one-columns-file)
abbrev pub OneColumnsFile : Type 0
OneColumnsFile = (file file' : List ℕ) (figuresRoom weightsRoom figuresRoom' weightsRoom' : ℕ) (a a' : Dated)
    → AreBytes file
    → AreBytes file'
    → read_columns_answer file figuresRoom weightsRoom ≡ success a
    → read_columns_answer file' figuresRoom' weightsRoom' ≡ success a'
    → series_in_columns file ≡ series_in_columns file'
    → first_year_in file ≡ first_year_in file'
    → file ≡ file'

-- and one series with weights and first year for each byte string: two that can be stored and give the same bytes are the same (same_columns_bytes)
abbrev pub SameColumnsBytes : Type 0
SameColumnsBytes = (year year' : ℕ) (s s' : SeriesWithWeights) → StorableFrom year s → StorableFrom year' s' → columns_bytes year s ≡ columns_bytes year' s'
    → (s ≡ s') × (year ≡ year')

-- what `write_columns` wrote, the first k bytes of its output, `read_columns` reads again into slices with room for it, unchanged (columns_read_again)
abbrev pub ColumnsReadBack : Type 0
ColumnsReadBack = (year : ℕ) (s : SeriesWithWeights) (out₀ out : List ℕ) (q : Result ℕ Refusal) (k : ℕ) (figures₀ figures : List ℤ) (weights₀ weights : List ℕ) (r : Result ColumnsSeries Refusal)
    → WriteColumnsDone year s out₀ q out
    → write_says q ≡ success k
    → length s.figures ≤ length figures₀
    → length s.figures ≤ length weights₀
    → ReadColumnsDone (take k out) figures₀ weights₀ r figures weights
    → ReadFrom year s figures₀ weights₀ r figures weights

-- what `read_columns` accepted, `write_columns` writes again into an output with room for it, byte for byte (columns_write_again)
abbrev pub ColumnsWriteBack : Type 0
ColumnsWriteBack = (file : List ℕ) (figures₀ figures : List ℤ) (weights₀ weights : List ℕ) (q : Result ColumnsSeries Refusal) (n start year : ℕ) (out₀ out : List ℕ) (r : Result ℕ Refusal)
    → AreBytes file
    → ReadColumnsDone file figures₀ weights₀ q figures weights
    → read_columns_says q ≡ dated n start year
    → length file ≤ length out₀
    → WriteColumnsDone year (series start (take n figures) (take n weights)) out₀ r out
    → WrittenAgain file out₀ r out

-- a plain file that `to_columns` moved forward, `from_columns` moves back into an output with room for it: the file, byte for byte, and the year
-- that was given (forward_back)
abbrev pub ForwardBack : Type 0
ForwardBack = (file : List ℕ) (year : ℕ) (out₀ out : List ℕ) (q : Result ℕ Refusal) (k : ℕ) (back₀ back : List ℕ) (r : Result PlainSize Refusal)
    → AreBytes file
    → MovedForward file year out₀ q out
    → write_says q ≡ success k
    → length file ≤ length back₀
    → MovedBack (take k out) back₀ r back
    → BackAgain file year back₀ r back

-- a file by calendar month that `from_columns` moved back, `to_columns` moves forward with its year into an output with room for it, byte for byte
-- (back_forward)
abbrev pub BackForward : Type 0
BackForward = (file : List ℕ) (back₀ back : List ℕ) (q : Result PlainSize Refusal) (k year : ℕ) (out₀ out : List ℕ) (r : Result ℕ Refusal)
    → AreBytes file
    → MovedBack file back₀ q back
    → back_says q ≡ size_and_year k year
    → length file ≤ length out₀
    → MovedForward (take k back) year out₀ r out
    → WrittenAgain file out₀ r out

-- what `write` accepts, whatever its output, `write_columns` accepts too, from every first year by which neither it nor the year of the last month is outside
-- the limits (row 11), into an output with room for it: the answer is its length, 6 + 6n (columns-accepted-too)
abbrev pub ColumnsAcceptedToo : Type 0
ColumnsAcceptedToo = (s : SeriesWithWeights) (plainRoom k year room : ℕ)
    → write_answer s plainRoom ≡ success k
    → years_inside year s.start (length s.figures) ≡ true
    → 6 + 6 * length s.figures ≤ room
    → write_columns_answer year s room ≡ success (6 + 6 * length s.figures)
