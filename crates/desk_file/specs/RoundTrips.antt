-- METHOD 7.4: the theorems on the plain desk file, whole; the names in brackets are those of their proofs, in proofs/RoundTrip.antt. Those on reading and
-- writing speak of what `read` and `write` promise, `ReadDone` and `WriteDone`; every lent slice of bytes is a byte string, `AreBytes` (the contract of
-- little_endian::are_bytes).
use Rattle.std.specs.Prelude.{ℕ, ◌≤◌, ◌≡◌, List, ◌++◌, ℤ, length, take, drop, Result}
use Rattle.refusals.specs.declared.Refusal.{Refusal}
use Rattle.refusals.specs.Sheet.{success}
use Rattle.little_endian.specs.Bytes.{AreBytes}
use Rattle.desk_file.specs.declared.Series.{Series}
use Rattle.desk_forms.specs.Header.{SeriesWithWeights, series, Storable}
use Rattle.desk_forms.specs.File.{file_bytes, series_in}
use Rattle.desk_file.specs.ReadFile.{Accepted, accepted, read_says, read_answer, ReadDone}
use Rattle.desk_file.specs.WriteFile.{write_says, WriteDone}

-- reading gave this series: its length and start month, its figures and weights in the first places of the slices, the rest as before
pub record ReadAgain (s : SeriesWithWeights) (figures₀ : List ℤ) (weights₀ : List ℕ) (r : Result Series Refusal) (figures : List ℤ) (weights : List ℕ) : Type 0 where
  pub answer : read_says r ≡ accepted (length s.figures) s.start
  pub figures_left : figures ≡ s.figures ++ drop (length s.figures) figures₀
  pub weights_left : weights ≡ s.weights ++ drop (length s.figures) weights₀

-- writing gave this file: its length, and its bytes in the first places of the output, the rest as before
pub record WrittenAgain (file out₀ : List ℕ) (r : Result ℕ Refusal) (out : List ℕ) : Type 0 where
  pub answer : write_says r ≡ success (length file)
  pub out_left : out ≡ file ++ drop (length file) out₀

-- one byte string for each series with weights: two that reading accepts and that mean the same are the same (one-file)
abbrev pub OneFile : Type 0
OneFile = (file file' : List ℕ) (figuresRoom weightsRoom figuresRoom' weightsRoom' : ℕ) (a a' : Accepted)
    → AreBytes file
    → AreBytes file'
    → read_answer file figuresRoom weightsRoom ≡ success a
    → read_answer file' figuresRoom' weightsRoom' ≡ success a'
    → series_in file ≡ series_in file'
    → file ≡ file'

-- and one series with weights for each byte string: two that can be stored and give the same bytes are the same (same_bytes)
abbrev pub SameBytes : Type 0
SameBytes = (s s' : SeriesWithWeights) → Storable s → Storable s' → file_bytes s ≡ file_bytes s' → s ≡ s'

-- what `write` wrote, the first k bytes of its output, `read` reads again into slices with room for it, unchanged (read_again)
abbrev pub ReadsBack : Type 0
ReadsBack = (s : SeriesWithWeights) (out₀ out : List ℕ) (q : Result ℕ Refusal) (k : ℕ) (figures₀ figures : List ℤ) (weights₀ weights : List ℕ) (r : Result Series Refusal)
    → WriteDone s out₀ q out
    → write_says q ≡ success k
    → length s.figures ≤ length figures₀
    → length s.figures ≤ length weights₀
    → ReadDone (take k out) figures₀ weights₀ r figures weights
    → ReadAgain s figures₀ weights₀ r figures weights

-- what `read` accepted, `write` writes again into an output with room for it, byte for byte (write_again)
abbrev pub WritesBack : Type 0
WritesBack = (file : List ℕ) (figures₀ figures : List ℤ) (weights₀ weights : List ℕ) (q : Result Series Refusal) (n start : ℕ) (out₀ out : List ℕ) (r : Result ℕ Refusal)
    → AreBytes file
    → ReadDone file figures₀ weights₀ q figures weights
    → read_says q ≡ accepted n start
    → length file ≤ length out₀
    → WriteDone (series start (take n figures) (take n weights)) out₀ r out
    → WrittenAgain file out₀ r out
