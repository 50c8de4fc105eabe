-- Reading, writing and moving in either form: what the checks found, and what the lent slices then hold. Nothing here is promised to a caller of the
-- desk.
use Rattle.std.specs.Prelude.{ℕ, ◌≡◌, List, ◌++◌, ℤ, length, drop, Result, Ok, Err}
use Rattle.refusals.specs.declared.Refusal.{Refusal}
use Rattle.refusals.specs.Promises.{Before, Stopped}
use Rattle.desk_forms.specs.declared.Form.{Form}
use Rattle.desk_forms.specs.Header.{SeriesWithWeights, count_in, length_for}
use Rattle.desk_forms.specs.Forms.{front_of, bytes_in, meaning_of}
use Rattle.desk_forms.specs.declared.sized.SizedFile.{SizedFile}
use Rattle.desk_checks.specs.declared.Lent.TheVariants.{Slices, Bytes}
use Rattle.desk_checks.specs.Checked.{too_short, form_checks, FileFits, written_checks}

-- ---- reading: a success fills both slices in order of t and hands on the file in its form, a refusal leaves them
pub record ReadFits (form : Form) (given : ℕ) (file : List ℕ) (figures₀ : List ℤ) (weights₀ : List ℕ) (n start year : ℕ) (figures : List ℤ) (weights : List ℕ) : Type 0 where
  pub fits : FileFits form given (too_short (Slices (length figures₀) (length weights₀)) (count_in file)) file n start year
  pub figures_left : figures ≡ (meaning_of form file).figures ++ drop n figures₀
  pub weights_left : weights ≡ (meaning_of form file).weights ++ drop n weights₀

pub record ReadStops (form : Form) (given : ℕ) (file : List ℕ) (figures₀ : List ℤ) (weights₀ : List ℕ) (q : Refusal) (figures : List ℤ) (weights : List ℕ) : Type 0 where
  pub stops : Stopped q (form_checks form given (too_short (Slices (length figures₀) (length weights₀)) (count_in file)) file)
  pub figures_left : figures ≡ figures₀
  pub weights_left : weights ≡ weights₀

abbrev pub ReadEither : Form → ℕ → List ℕ → List ℤ → List ℕ → Result SizedFile Refusal → List ℤ → List ℕ → Type 0
ReadEither form given file figures₀ weights₀ (Ok s) figures weights = ReadFits form given file figures₀ weights₀ s.count s.start s.year figures weights × (s.form ≡ form) × (s.bytes.now ≡ file)
ReadEither form given file figures₀ weights₀ (Err q) figures weights = ReadStops form given file figures₀ weights₀ q figures weights

-- ---- writing: a success fills the front of the output with the file, a refusal leaves it
pub record WriteFits (form : Form) (year : ℕ) (s : SeriesWithWeights) (out₀ out : List ℕ) : Type 0 where
  pub fits : Before 8 (written_checks form year s (length out₀))
  pub out_left : out ≡ bytes_in form year s ++ drop (length_for (front_of form) (length s.figures)) out₀

pub record WriteStops (form : Form) (year : ℕ) (s : SeriesWithWeights) (out₀ : List ℕ) (q : Refusal) (out : List ℕ) : Type 0 where
  pub stops : Stopped q (written_checks form year s (length out₀))
  pub out_left : out ≡ out₀

abbrev pub WriteEither : Form → ℕ → SeriesWithWeights → List ℕ → Result Unit Refusal → List ℕ → Type 0
WriteEither form year s out₀ (Ok done) out = WriteFits form year s out₀ out
WriteEither form year s out₀ (Err q) out = WriteStops form year s out₀ q out

-- ---- moving from a form into another: the same
pub record MoveFits (form : Form) (given : ℕ) (other : Form) (file out₀ : List ℕ) (n start year : ℕ) (out : List ℕ) : Type 0 where
  pub fits : FileFits form given (too_short (Bytes other (length out₀)) (count_in file)) file n start year
  pub out_left : out ≡ bytes_in other year (meaning_of form file) ++ drop (length_for (front_of other) n) out₀

pub record MoveStops (form : Form) (given : ℕ) (other : Form) (file out₀ : List ℕ) (q : Refusal) (out : List ℕ) : Type 0 where
  pub stops : Stopped q (form_checks form given (too_short (Bytes other (length out₀)) (count_in file)) file)
  pub out_left : out ≡ out₀

abbrev pub MoveEither : Form → ℕ → Form → List ℕ → List ℕ → Result SizedFile Refusal → List ℕ → Type 0
MoveEither form given other file out₀ (Ok s) out = MoveFits form given other file out₀ s.count s.start s.year out × (s.form ≡ form) × (s.bytes.now ≡ file)
MoveEither form given other file out₀ (Err q) out = MoveStops form given other file out₀ q out
