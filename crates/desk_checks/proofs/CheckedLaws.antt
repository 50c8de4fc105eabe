-- The checks of a file and of a series in either form: what they say where none applies, and how they follow on one another.
use Prim.Native.Nat.{ℕ, ◌≤◌}
use mathlib.Core.Path.{◌≡◌, refl, sym, ap, ◌∙◌}
use mathlib.Core.Bool.{Bool, true, false, not}
use mathlib.Core.List.{List}
use native.Mathlib.Omega.{arith}
use borrow.Author.Tests.{le-ltb, eq-eqb, ltb-false, eqb-true, not-false}
use lib.ListN.{length, take, drop}
use Rattle.refusals.specs.declared.Refusal.{Refusal}
use Rattle.std.specs.Prelude.{None}
use Rattle.refusals.specs.Limits.{least_months, most_months, months_of_year, earliest_year}
use Rattle.refusals.specs.Inside.{start_inside, years_inside}
use Rattle.refusals.specs.First.{first_outside, first_above}
use Rattle.refusals.specs.Sheet.{Answer}
use Rattle.refusals.specs.Checks.{row11, first_to_apply}
use Rattle.refusals.proofs.InsideLaws.{start-inside, from-year-one}
use Rattle.refusals.specs.Promises.{Before, Stopped}
use Rattle.refusals.proofs.CheckLaws.{◌&◌, one_more, each_passed, each_nowhere, before_fewer, stopped_on, stopped-after, skipped}
use Rattle.desk_forms.specs.declared.Form.{Form}
use Rattle.desk_forms.specs.declared.Form.TheVariants.{Plain}
use Rattle.desk_forms.specs.File.{header_length, series_in}
use Rattle.desk_checks.specs.FileChecks.{contents_checks, no_years_check, file_checks, series_checks}
use Rattle.desk_forms.specs.Header.{SeriesWithWeights, count_in, start_in, period_in, length_for}
use Rattle.desk_forms.specs.Forms.{front_of, year_of, meaning_of, Sized, Fitting}
use Rattle.desk_forms.proofs.FormLaws.{meaning_start, meaning-months}
use Rattle.desk_checks.specs.Checked.{form_checks, FileFits, SizesFit, written_checks}

-- ---- a file whose sizes are right
sized_by : (form : Form) (given : ℕ) (short : Bool) (file : List ℕ) {n start : ℕ} → Before 7 (form_checks form given short file) → n ≡ count_in file → start ≡ start_in file
    → Sized form file n start
sized_by form given short file h e b =
    record {
      count = e;
      begins = b;
      least = omega (arith, ltb-false (count_in file) least_months h.1.0);
      most = omega (arith, ltb-false most_months (count_in file) h.1.1.0);
      inside = rw b (not-false _ h.1.1.1.0);
      size = rw e (eqb-true (length file) (length_for (front_of form) (count_in file)) (not-false _ h.1.1.1.1.1.1.0));
    }

module _ {form : Form} {given : ℕ} {file : List ℕ} {n start year : ℕ} where
  pub sizes-sized : SizesFit form given file n start year → Sized form file n start
  sizes-sized z = sized_by form given false file (z.passed false) z.count z.begins

  pub sized : {short : Bool} → FileFits form given short file n start year → Sized form file n start
  sized {short} z = sized_by form given short file (before_fewer (form_checks form given short file) 7 10 (omega arith) z.passed) z.count z.begins

-- its arrays behind: none of the checks of them applies, or one does
module _ {form : Form} {given : ℕ} {short : Bool} {file : List ℕ} {n start year : ℕ} (z : SizesFit form given file n start year) (e : short ≡ false) where
  pub contents_passed : Before 2 (contents_checks (meaning_of form file)) → FileFits form given short file n start year
  contents_passed h =
      let ks = form_checks form given short file in
      record {
        passed = one_more ks 9 (one_more ks 8 (one_more ks 7 (z.passed short) e) h.0) h.1.0;
        count = z.count;
        begins = z.begins;
        dated = z.dated;
      }

  pub contents_stopped : {q : Refusal} → Stopped q (contents_checks (meaning_of form file)) → Stopped q (form_checks form given short file)
  contents_stopped s = stopped_on (form_checks form given short file) 7 (z.passed short) (stopped-after e s)

-- ---- a series inside its limits, from a first year on
pub record SeriesFits (year : ℕ) (s : SeriesWithWeights) : Type 0 where
  pub least : least_months ≤ length s.figures
  pub most : length s.figures ≤ most_months
  pub inside : start_inside s.start ≡ true
  pub same : length s.weights ≡ length s.figures
  pub years : years_inside year s.start (length s.figures) ≡ true
  pub figures_fit : first_outside s.figures ≡ None
  pub weights_fit : first_above s.weights ≡ None

-- it is written
module _ (form : Form) (year : ℕ) (s : SeriesWithWeights) (room : ℕ) where
  pub series_fits : Before 8 (written_checks form year s room) → SeriesFits year s
  series_fits h =
      let t = h.1.1.1 in
      record {
        least = ltb-false (length s.figures) least_months h.0;
        most = ltb-false most_months (length s.figures) h.1.0;
        inside = not-false _ h.1.1.0;
        same = eqb-true (length s.weights) (length s.figures) (not-false _ t.1.0);
        years = not-false _ t.0;
        figures_fit = each_nowhere 5 _ t.1.1.1.0;
        weights_fit = each_nowhere 10 _ t.1.1.1.1.0;
      }

  pub fitting : Before 8 (written_checks form year s room) → Fitting form s room
  fitting h =
      let v = series_fits h in
      record {
        least = v.least;
        most = v.most;
        inside = v.inside;
        same = v.same;
        enough = ltb-false room (length_for (front_of form) (length s.figures)) h.1.1.1.1.1.0;
      }

  pub fits_series : SeriesFits year s → length_for (front_of form) (length s.figures) ≤ room → Before 8 (written_checks form year s room)
  fits_series v l =
      le-ltb (length s.figures) least_months v.least
      & le-ltb most_months (length s.figures) v.most
      & ap not v.inside
      & ap not v.years
      & ap not (eq-eqb (length s.weights) (length s.figures) v.same)
      & le-ltb room (length_for (front_of form) (length s.figures)) l
      & each_passed 5 v.figures_fit
      & each_passed 10 v.weights_fit
      & tt

-- it is what a file means
module _ (form : Form) (given : ℕ) (short : Bool) (file : List ℕ) where
  pub file_fits : Before 10 (form_checks form given short file) → SeriesFits (year_of form given file) (meaning_of form file)
  file_fits h =
      let z = sized_by form given short file (before_fewer (form_checks form given short file) 7 10 (omega arith) h) refl refl in
      let m = meaning-months z in
      let t = h.1.1.1.1.1 in
      record {
        least = rw m.0 z.least;
        most = rw m.0 z.most;
        inside = rw (meaning_start form file) z.inside;
        same = m.1 ∙ sym m.0;
        years = rw (meaning_start form file, m.0) (not-false _ t.0);
        figures_fit = each_nowhere 5 _ t.1.1.1.0;
        weights_fit = each_nowhere 10 _ t.1.1.1.1.0;
      }

  pub period_fits : Before 10 (form_checks form given short file) → period_in file ≡ months_of_year
  period_fits h = eqb-true (period_in file) months_of_year (not-false _ h.1.1.1.1.0)

  pub lent_fits : Before 10 (form_checks form given short file) → short ≡ false
  lent_fits h = h.1.1.1.1.1.1.1.0

  pub fits_file : {year : ℕ} → SeriesFits year (meaning_of form file) → year ≡ year_of form given file → count_in file ≡ length (meaning_of form file).figures
      → start_in file ≡ (meaning_of form file).start → period_in file ≡ months_of_year → length file ≡ length_for (front_of form) (count_in file) → short ≡ false
      → Before 10 (form_checks form given short file)
  fits_file v y n b p l e =
      let i : start_inside (start_in file) ≡ true = rw b v.inside in
      let k : years_inside (year_of form given file) (start_in file) (count_in file) ≡ true = rw (← y, b, n) v.years in
      le-ltb (length file) (front_of form) (omega arith)
      & le-ltb (count_in file) least_months (rw n v.least)
      & le-ltb most_months (count_in file) (rw n v.most)
      & ap not i
      & ap not (eq-eqb (period_in file) months_of_year p)
      & ap not k
      & ap not (eq-eqb (length file) (length_for (front_of form) (count_in file)) l)
      & e
      & each_passed 5 v.figures_fit
      & each_passed 10 v.weights_fit
      & tt

-- ---- the plain form by itself has no year: from the earliest year on row 11 never applies, and can be left out
module _ {A : Type 0} (otherwise : Answer A) where
  pub undated_file : (short : Bool) (file : List ℕ)
      → first_to_apply (form_checks Plain earliest_year short file) otherwise ≡ first_to_apply (file_checks header_length no_years_check short (series_in file) file) otherwise
  undated_file short file =
      let checks = file_checks header_length no_years_check short (series_in file) file in
      skipped (take 5 checks) (row11 earliest_year (start_in file) (count_in file)) (drop 5 checks) otherwise
      (λ h. ap not (from-year-one (start_in file) (count_in file) (start-inside (start_in file) (not-false _ h.1.1.1.0)).1 (ltb-false most_months (count_in file) h.1.1.0)))

  pub undated_series : (s : SeriesWithWeights) (room : ℕ)
      → first_to_apply (written_checks Plain earliest_year s room) otherwise ≡ first_to_apply (series_checks header_length no_years_check s room) otherwise
  undated_series s room =
      let checks = series_checks header_length no_years_check s room in
      skipped (take 3 checks) (row11 earliest_year s.start (length s.figures)) (drop 3 checks) otherwise
      (λ h. ap not (from-year-one s.start (length s.figures) (start-inside s.start (not-false _ h.1.1.0)).1 (ltb-false most_months (length s.figures) h.1.0)))
