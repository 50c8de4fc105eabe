-- What the checks find, for the entry points: a file in either form, and a series to be written in either. Nothing here is promised to a caller of
-- the desk.
use Rattle.std.specs.Prelude.{ℕ, min, ◌≡◌, Bool, List, ltb, length, Result, Ok, Err}
use Rattle.refusals.specs.declared.Refusal.{Refusal}
use Rattle.refusals.specs.Checks.{Check}
use Rattle.refusals.specs.Promises.{Before, Stopped}
use Rattle.desk_forms.specs.declared.Form.{Form}
use Rattle.desk_forms.specs.Header.{SeriesWithWeights, count_in, start_in, length_for}
use Rattle.desk_checks.specs.FileChecks.{years_check, contents_checks, file_checks, series_checks}
use Rattle.desk_forms.specs.Forms.{front_of, year_of, meaning_of}
use Rattle.desk_checks.specs.declared.Lent.{Lent}
use Rattle.desk_checks.specs.declared.Lent.TheVariants.{Slices, Bytes}
use Rattle.desk_forms.specs.declared.sized.SizedFile.{SizedFile}

-- what is lent to be filled is too short for n months: slices by their entries, or an output, by its bytes, for a file in a form
abbrev pub too_short : Lent → ℕ → Bool
too_short (Slices figures weights) n = ltb (min figures weights) n
too_short (Bytes form k) n = ltb k (length_for (front_of form) n)

-- the checks of a file in a form; `given` is the first year where the form has none
abbrev pub form_checks : Form → ℕ → Bool → List ℕ → List Check
form_checks form given short file =
    file_checks (front_of form) (years_check (year_of form given file) (start_in file) (count_in file)) short (meaning_of form file) file

-- none of them applies
pub record FileFits (form : Form) (given : ℕ) (short : Bool) (file : List ℕ) (n start year : ℕ) : Type 0 where
  pub passed : Before 10 (form_checks form given short file)
  pub count : n ≡ count_in file
  pub begins : start ≡ start_in file
  pub dated : year ≡ year_of form given file

abbrev pub FileSays : Form → ℕ → Bool → List ℕ → Result SizedFile Refusal → Type 0
FileSays form given short file (Ok s) = FileFits form given short file s.count s.start s.year × (s.form ≡ form) × (s.bytes.now ≡ file)
FileSays form given short file (Err q) = Stopped q (form_checks form given short file)

-- the first seven of them, which look at the sizes alone
pub record SizesFit (form : Form) (given : ℕ) (file : List ℕ) (n start year : ℕ) : Type 0 where
  pub passed : (short : Bool) → Before 7 (form_checks form given short file)
  pub count : n ≡ count_in file
  pub begins : start ≡ start_in file
  pub dated : year ≡ year_of form given file

abbrev pub SizesSay : Form → ℕ → List ℕ → Result SizedFile Refusal → Type 0
SizesSay form given file (Ok s) = SizesFit form given file s.count s.start s.year × (s.form ≡ form) × (s.bytes.now ≡ file)
SizesSay form given file (Err q) = (short : Bool) → Stopped q (form_checks form given short file)

-- rows 5 and 10 of what a file means
abbrev pub ContentsSay : SeriesWithWeights → Result Unit Refusal → Type 0
ContentsSay s (Ok done) = Before 2 (contents_checks s)
ContentsSay s (Err q) = Stopped q (contents_checks s)

-- the checks of a series to be written in a form, from a first year on
abbrev pub written_checks : Form → ℕ → SeriesWithWeights → ℕ → List Check
written_checks form year s room = series_checks (front_of form) (years_check year s.start (length s.figures)) s room

abbrev pub SeriesSays : Form → ℕ → SeriesWithWeights → ℕ → Result Unit Refusal → Type 0
SeriesSays form year s room (Ok done) = Before 8 (written_checks form year s room)
SeriesSays form year s room (Err q) = Stopped q (written_checks form year s room)
