-- The answers of reading and writing, from what the checks found, and what then holds of the slices.
use Prim.Native.Nat.{ℕ, ◌≤◌, min}
use mathlib.Core.Path.{◌≡◌, refl, sym, ap, subst, ◌∙◌}
use mathlib.Core.Bool.{Bool}
use mathlib.Core.List.{List}
use native.Mathlib.Omega.{arith}
use borrow.Author.Tests.{le-ltb}
use lib.Dec.{ltb}
use lib.IntN.{ℤ}
use lib.ListN.{length}
use Rattle.std.specs.Prelude.{Ok, Err}
use Rattle.refusals.specs.declared.Refusal.{Refusal}
use Rattle.refusals.specs.Limits.{earliest_year}
use Rattle.refusals.specs.Sheet.{success, refusal_of}
use Rattle.refusals.specs.Promises.{Before, Stopped}
use Rattle.refusals.proofs.CheckLaws.{stopped, none-applies, all_before}
use Rattle.desk_forms.specs.declared.Form.TheVariants.{Plain}
use Rattle.desk_forms.specs.Header.{SeriesWithWeights, count_in, start_in}
use Rattle.desk_forms.specs.Forms.{Sized}
use Rattle.desk_forms.specs.File.{file_length}
use Rattle.desk_forms.proofs.FormLaws.{meaning-months}
use Rattle.desk_forms.proofs.AfterLaws.{front_filled, front_kept}
use Rattle.desk_checks.specs.Checked.{form_checks, FileFits, written_checks}
use Rattle.desk_checks.proofs.CheckedLaws.{sized, lent_fits, series_fits, undated_file, undated_series}
use Rattle.desk_checks.proofs.Again.{written-length}
use Rattle.desk_either.specs.Either.{ReadFits, ReadStops, WriteFits, WriteStops}
use Rattle.desk_file.specs.ReadFile.{Accepted, accepted, read_answer, ReadDone}
use Rattle.desk_file.specs.WriteFile.{write_answer, WriteDone}

-- ---- reading
module _ (file : List ℕ) (figuresRoom weightsRoom : ℕ) where
  -- whether one of the slices is too short
  abbrev pub short : Bool
  short = ltb (min figuresRoom weightsRoom) (count_in file)

  pub read_stops : {q : Refusal} → Stopped q (form_checks Plain earliest_year short file) → refusal_of q ≡ read_answer file figuresRoom weightsRoom
  unfolding read_answer
  read_stops s = stopped _ s ∙ undated_file _ short file

  pub read_accepts : {n start : ℕ} → Before 10 (form_checks Plain earliest_year short file) → n ≡ count_in file → start ≡ start_in file
      → accepted n start ≡ read_answer file figuresRoom weightsRoom
  unfolding read_answer
  read_accepts h c b = rw (c, b) (none-applies (form_checks Plain earliest_year short file) (accepted (count_in file) (start_in file)) h ∙ undated_file _ short file)

  -- and back
  pub read-accepted : (n start : ℕ) → read_answer file figuresRoom weightsRoom ≡ accepted n start → FileFits Plain earliest_year short file n start earliest_year
  unfolding read_answer
  read-accepted n start e =
      let h = all_before (form_checks Plain earliest_year short file) (accepted (count_in file) (start_in file)) _ (undated_file _ short file ∙ e) in
      let same : ◌≡◌ {A = Accepted} (record { count = count_in file; start = start_in file }) (record { count = n; start = start }) = cc in
      record { passed = h.0; count = sym (ap (λ (a : Accepted). a.count) same); begins = sym (ap (λ (a : Accepted). a.start) same); dated = refl }

  -- what the sizes of an accepted file are like
  pub read_sized : {n start : ℕ} → read_answer file figuresRoom weightsRoom ≡ accepted n start → Sized Plain file n start
  read_sized {n} {start} e = sized (read-accepted n start e)

-- other slices with room for the months change nothing
pub read_with : (file : List ℕ) (a b : ℕ) {n start : ℕ} → read_answer file a b ≡ accepted n start → (f w : ℕ) → n ≤ f → n ≤ w → read_answer file f w ≡ accepted n start
read_with file a b {n} {start} e f w h g =
    let fits = read-accepted file a b n start e in
    let same : short file a b ≡ short file f w =
    lent_fits Plain earliest_year (short file a b) file fits.passed ∙ sym (le-ltb (min f w) (count_in file) (omega (arith, fits.count))) in
    sym (read_accepts file f w (subst (λ (s : Bool). Before 10 (form_checks Plain earliest_year s file)) same fits.passed) fits.count fits.begins)

module _ {file : List ℕ} {figures₀ figures : List ℤ} {weights₀ weights : List ℕ} where
  pub read_refused : {q : Refusal} → ReadStops Plain earliest_year file figures₀ weights₀ q figures weights → ReadDone file figures₀ weights₀ (Err q) figures weights
  read_refused t =
      let a = read_stops file (length figures₀) (length weights₀) t.stops in
      record { answer = a; figures_left = t.figures_left ∙ front_kept _ figures₀ a; weights_left = t.weights_left ∙ front_kept _ weights₀ a }

  pub read_done : {n start year : ℕ} → ReadFits Plain earliest_year file figures₀ weights₀ n start year figures weights
      → ReadDone file figures₀ weights₀ (Ok (record { count = n; start = start })) figures weights
  read_done t =
      let f = t.fits in
      let a = read_accepts file (length figures₀) (length weights₀) f.passed f.count f.begins in
      let m = meaning-months (sized f) in
      record { answer = a; figures_left = t.figures_left ∙ front_filled _ figures₀ a m.0; weights_left = t.weights_left ∙ front_filled _ weights₀ a m.1 }

-- ---- writing
module _ (s : SeriesWithWeights) (room : ℕ) where
  pub write_stops : {q : Refusal} → Stopped q (written_checks Plain earliest_year s room) → refusal_of q ≡ write_answer s room
  unfolding write_answer
  write_stops h = stopped _ h ∙ undated_series _ s room

  pub write_accepts : Before 8 (written_checks Plain earliest_year s room) → success (file_length (length s.figures)) ≡ write_answer s room
  unfolding write_answer
  write_accepts h = none-applies (written_checks Plain earliest_year s room) _ h ∙ undated_series _ s room

  -- and back
  pub write-accepted : {k : ℕ} → write_answer s room ≡ success k → Before 8 (written_checks Plain earliest_year s room) × (k ≡ file_length (length s.figures))
  unfolding write_answer
  write-accepted {k} e =
      let h = all_before (written_checks Plain earliest_year s room) (success (file_length (length s.figures))) k (undated_series _ s room ∙ e) in
      (h.0, cc)

module _ {s : SeriesWithWeights} {out₀ out : List ℕ} where
  pub write_refused : {q : Refusal} → WriteStops Plain earliest_year s out₀ q out → WriteDone s out₀ (Err q) out
  write_refused t =
      let a = write_stops s (length out₀) t.stops in
      record { answer = a; out_left = t.out_left ∙ front_kept _ out₀ a }

  pub write_done : {k : ℕ} → WriteFits Plain earliest_year s out₀ out → k ≡ file_length (length s.figures) → WriteDone s out₀ (Ok k) out
  write_done t e =
      let a = write_accepts s (length out₀) t.fits in
      let w = series_fits Plain earliest_year s (length out₀) t.fits in
      rw e (record { answer = a; out_left = t.out_left ∙ front_filled _ out₀ a (written-length w Plain) })
