-- The answers of the four functions, from what the checks found, and what then holds of the slices. The year 0 is what is given for a file that has
-- its own.
use Prim.Native.Nat.{ℕ, min}
use mathlib.Core.Path.{◌≡◌, refl, sym, ap, ◌∙◌}
use mathlib.Core.Bool.{Bool}
use mathlib.Core.List.{List, ◌++◌}
use lib.Dec.{ltb}
use lib.IntN.{ℤ}
use lib.ListN.{length, drop}
use Rattle.std.specs.Prelude.{Ok, Err}
use Rattle.refusals.specs.declared.Refusal.{Refusal}
use Rattle.refusals.specs.Sheet.{success, refusal_of}
use Rattle.refusals.specs.Promises.{Before, Stopped}
use Rattle.refusals.proofs.CheckLaws.{stopped, none-applies, all_before}
use Rattle.desk_forms.specs.declared.Form.TheVariants.{Plain, Columns}
use Rattle.desk_forms.specs.Header.{SeriesWithWeights, count_in, start_in}
use Rattle.desk_forms.specs.File.{file_length, series_in}
use Rattle.desk_forms.specs.ColumnsFile.{columns_length, columns_bytes, first_year_in}
use Rattle.desk_forms.proofs.FormLaws.{meaning-months}
use Rattle.desk_forms.proofs.AfterLaws.{front_filled, front_kept}
use Rattle.desk_checks.specs.Checked.{form_checks, FileFits, written_checks}
use Rattle.desk_checks.proofs.CheckedLaws.{sized, file_fits, series_fits}
use Rattle.desk_checks.proofs.Again.{written-length}
use Rattle.desk_either.specs.Either.{ReadFits, ReadStops, WriteFits, WriteStops, MoveFits, MoveStops}
use Rattle.desk_columns.specs.ReadColumns.{Dated, dated, read_columns_answer, ReadColumnsDone}
use Rattle.desk_columns.specs.WriteColumns.{write_columns_answer, WriteColumnsDone}
use Rattle.desk_columns.specs.Moving.{forward_answer, MovedForward, SizeAndYear, size_and_year, back_answer, MovedBack}

-- ---- reading
module _ (file : List ℕ) (figuresRoom weightsRoom : ℕ) where
  -- whether one of the slices is too short
  abbrev pub short : Bool
  short = ltb (min figuresRoom weightsRoom) (count_in file)

  pub read_stops : {q : Refusal} → Stopped q (form_checks Columns 0 short file) → refusal_of q ≡ read_columns_answer file figuresRoom weightsRoom
  unfolding read_columns_answer
  read_stops s = stopped _ s

  pub read_accepts : {n start year : ℕ} → FileFits Columns 0 short file n start year → dated n start year ≡ read_columns_answer file figuresRoom weightsRoom
  unfolding read_columns_answer
  read_accepts f = rw (f.count, f.begins, f.dated) (none-applies (form_checks Columns 0 short file) (dated (count_in file) (start_in file) (first_year_in file)) f.passed)

  -- and back
  pub read-accepted : (n start year : ℕ) → read_columns_answer file figuresRoom weightsRoom ≡ dated n start year → FileFits Columns 0 short file n start year
  unfolding read_columns_answer
  read-accepted n start year e =
      let h = all_before (form_checks Columns 0 short file) (dated (count_in file) (start_in file) (first_year_in file)) _ e in
      let same : ◌≡◌ {A = Dated} (record { count = count_in file; start = start_in file; first_year = first_year_in file }) (record { count = n; start = start; first_year = year }) = cc in
      record {
        passed = h.0;
        count = sym (ap (λ (a : Dated). a.count) same);
        begins = sym (ap (λ (a : Dated). a.start) same);
        dated = sym (ap (λ (a : Dated). a.first_year) same);
      }

module _ {file : List ℕ} {figures₀ figures : List ℤ} {weights₀ weights : List ℕ} where
  pub read_refused : {q : Refusal} → ReadStops Columns 0 file figures₀ weights₀ q figures weights → ReadColumnsDone file figures₀ weights₀ (Err q) figures weights
  read_refused t =
      let a = read_stops file (length figures₀) (length weights₀) t.stops in
      record { answer = a; figures_left = t.figures_left ∙ front_kept _ figures₀ a; weights_left = t.weights_left ∙ front_kept _ weights₀ a }

  pub read_done : {n start year : ℕ} → ReadFits Columns 0 file figures₀ weights₀ n start year figures weights
      → ReadColumnsDone file figures₀ weights₀ (Ok (record { count = n; start = start; year = year })) figures weights
  read_done t =
      let a = read_accepts file (length figures₀) (length weights₀) t.fits in
      let m = meaning-months (sized t.fits) in
      record { answer = a; figures_left = t.figures_left ∙ front_filled _ figures₀ a m.0; weights_left = t.weights_left ∙ front_filled _ weights₀ a m.1 }

-- ---- writing
module _ (year : ℕ) (s : SeriesWithWeights) (room : ℕ) where
  pub write_stops : {q : Refusal} → Stopped q (written_checks Columns year s room) → refusal_of q ≡ write_columns_answer year s room
  unfolding write_columns_answer
  write_stops h = stopped _ h

  pub write_accepts : Before 8 (written_checks Columns year s room) → success (columns_length (length s.figures)) ≡ write_columns_answer year s room
  unfolding write_columns_answer
  write_accepts h = none-applies (written_checks Columns year s room) _ h

  -- and back
  pub write-accepted : {k : ℕ} → write_columns_answer year s room ≡ success k → Before 8 (written_checks Columns year s room) × (k ≡ columns_length (length s.figures))
  unfolding write_columns_answer
  write-accepted {k} e = let h = all_before (written_checks Columns year s room) (success (columns_length (length s.figures))) k e in (h.0, cc)

module _ {year : ℕ} {s : SeriesWithWeights} {out₀ out : List ℕ} where
  pub write_refused : {q : Refusal} → WriteStops Columns year s out₀ q out → WriteColumnsDone year s out₀ (Err q) out
  write_refused t =
      let a = write_stops year s (length out₀) t.stops in
      record { answer = a; out_left = t.out_left ∙ front_kept _ out₀ a }

  pub write_done : {k : ℕ} → WriteFits Columns year s out₀ out → k ≡ columns_length (length s.figures) → WriteColumnsDone year s out₀ (Ok k) out
  write_done t e =
      let a = write_accepts year s (length out₀) t.fits in
      let w = series_fits Columns year s (length out₀) t.fits in
      rw e (record { answer = a; out_left = t.out_left ∙ front_filled _ out₀ a (written-length w Columns) })

-- ---- moving forward
module _ (file : List ℕ) (year room : ℕ) where
  -- whether the output is too short
  abbrev pub short_forward : Bool
  short_forward = ltb room (columns_length (count_in file))

  pub forward_stops : {q : Refusal} → Stopped q (form_checks Plain year short_forward file) → refusal_of q ≡ forward_answer file year room
  unfolding forward_answer
  forward_stops s = stopped _ s

  pub forward_accepts : Before 10 (form_checks Plain year short_forward file) → success (columns_length (count_in file)) ≡ forward_answer file year room
  unfolding forward_answer
  forward_accepts h = none-applies (form_checks Plain year short_forward file) _ h

  -- and back
  pub forward-accepted : {k : ℕ} → forward_answer file year room ≡ success k → FileFits Plain year short_forward file (count_in file) (start_in file) year × (k ≡ columns_length (count_in file))
  unfolding forward_answer
  forward-accepted {k} e =
      let h = all_before (form_checks Plain year short_forward file) (success (columns_length (count_in file))) k e in
      (record { passed = h.0; count = refl; begins = refl; dated = refl }, cc)

module _ {file : List ℕ} {year : ℕ} {out₀ out : List ℕ} where
  pub forward_refused : {q : Refusal} → MoveStops Plain year Columns file out₀ q out → MovedForward file year out₀ (Err q) out
  forward_refused t =
      let a = forward_stops file year (length out₀) t.stops in
      record { answer = a; out_left = t.out_left ∙ front_kept _ out₀ a }

  pub forward_done : {n start y k : ℕ} → MoveFits Plain year Columns file out₀ n start y out → k ≡ columns_length n → MovedForward file year out₀ (Ok k) out
  forward_done {n} t e =
      let f = t.fits in
      let a = forward_accepts file year (length out₀) f.passed in
      let w = file_fits Plain year (short_forward file year (length out₀)) file f.passed in
      let left : out ≡ columns_bytes year (series_in file) ++ drop (columns_length n) out₀ = rw f.dated at t.out_left in
      let l : columns_length (length (series_in file).figures) ≡ columns_length n = ap columns_length (meaning-months (sized f)).0 in
      record { answer = ap success (e ∙ ap columns_length f.count) ∙ a; out_left = left ∙ front_filled _ out₀ a (written-length w Columns ∙ l) }

-- ---- moving back
module _ (file : List ℕ) (room : ℕ) where
  -- whether the output is too short
  abbrev pub short_back : Bool
  short_back = ltb room (file_length (count_in file))

  pub back_stops : {q : Refusal} → Stopped q (form_checks Columns 0 short_back file) → refusal_of q ≡ back_answer file room
  unfolding back_answer
  back_stops s = stopped _ s

  pub back_accepts : {n start year : ℕ} → FileFits Columns 0 short_back file n start year → size_and_year (file_length n) year ≡ back_answer file room
  unfolding back_answer
  back_accepts f = rw (f.count, f.dated) (none-applies (form_checks Columns 0 short_back file) (size_and_year (file_length (count_in file)) (first_year_in file)) f.passed)

  -- and back
  pub back-accepted : {k year : ℕ} → back_answer file room ≡ size_and_year k year → FileFits Columns 0 short_back file (count_in file) (start_in file) year × (k ≡ file_length (count_in file))
  unfolding back_answer
  back-accepted {k} {year} e =
      let h = all_before (form_checks Columns 0 short_back file) (size_and_year (file_length (count_in file)) (first_year_in file)) _ e in
      let same : ◌≡◌ {A = SizeAndYear} (record { size = file_length (count_in file); first_year = first_year_in file }) (record { size = k; first_year = year }) = cc in
      (record { passed = h.0; count = refl; begins = refl; dated = sym (ap (λ (a : SizeAndYear). a.first_year) same) }, sym (ap (λ (a : SizeAndYear). a.size) same))

module _ {file out₀ out : List ℕ} where
  pub back_refused : {q : Refusal} → MoveStops Columns 0 Plain file out₀ q out → MovedBack file out₀ (Err q) out
  back_refused t =
      let a = back_stops file (length out₀) t.stops in
      record { answer = a; out_left = t.out_left ∙ front_kept _ out₀ a }

  pub back_done : {n start year k : ℕ} → MoveFits Columns 0 Plain file out₀ n start year out → k ≡ file_length n → MovedBack file out₀ (Ok (record { size = k; year = year })) out
  back_done t e =
      let f = t.fits in
      let a = back_accepts file (length out₀) f in
      let w = file_fits Columns 0 (short_back file (length out₀)) file f.passed in
      rw e (record { answer = a; out_left = t.out_left ∙ front_filled _ out₀ a (written-length w Plain ∙ ap file_length (meaning-months (sized f)).0) })
