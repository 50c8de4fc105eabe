-- A series that fits, written in either form, is a file that fits; and a file that fits means a series that fits, whose bytes are that file.
use Prim.Native.Nat.{ℕ, ◌^◌, ◌<◌, ◌≤◌}
use mathlib.Core.Path.{◌≡◌, refl, sym}
use mathlib.Core.Bool.{Bool, false}
use mathlib.Core.List.{List}
use native.Mathlib.Omega.{arith}
use lib.IntN.{ℤ, pos, negsuc, nat_abs}
use lib.ListN.{length}
use Rattle.integers.specs.Lists.{◌‼◌}
use Rattle.refusals.specs.Limits.{largest_figure}
use Rattle.refusals.specs.Promises.{Before}
use Rattle.refusals.specs.First.{first_outside, first_above}
use Rattle.refusals.proofs.FirstLaws.{all_passed}
use Rattle.refusals.proofs.InsideLaws.{start-inside, figure-inside, weight-inside, first-inside}
use Rattle.little_endian.specs.Bytes.{AreBytes, FourBytes}
use Rattle.chart.specs.Chart.{Starts}
use Rattle.desk_forms.specs.declared.Form.{Form}
use Rattle.desk_forms.specs.Header.{SeriesWithWeights, Storable, count_in, start_in, length_for}
use Rattle.desk_forms.specs.Forms.{front_of, months_in, start_of, year_of, bytes_in, meaning_of}
use Rattle.desk_forms.proofs.FormLaws.{form_starts}
use Rattle.desk_forms.proofs.FileLaws.{file-length}
use Rattle.desk_forms.proofs.Decoding.{count-back, start_back, period_back, meaning_back, year_back, bytes_again}
use Rattle.desk_checks.specs.Checked.{form_checks, FileFits}
use Rattle.desk_checks.proofs.CheckedLaws.{SeriesFits, sized, period_fits, fits_file}

-- ---- a series that fits
in_four_bytes : (z : ℤ) → nat_abs z ≤ largest_figure → FourBytes z
in_four_bytes (pos n) h = omega arith
in_four_bytes (negsuc k) h = omega arith

module _ {year : ℕ} {s : SeriesWithWeights} (w : SeriesFits year s) where
  -- it can be stored
  pub storable : Storable s
  unfolding first_outside first_above
  storable = record {
    count = omega (arith, w.most);
    start = omega (arith, (start-inside s.start w.inside).1);
    same = w.same;
    figures_fit = λ t h. in_four_bytes (s.figures ‼ t) (figure-inside _ ((all_passed {d = pos 0} w.figures_fit).each t h));
    weights_fit = λ t h. omega (arith, weight-inside _ ((all_passed {d = 0} w.weights_fit).each t h));
  }

  pub small_year : year < 2 ^ 16
  small_year = omega (arith, first-inside year s.start (length s.figures) w.years)

  module _ (form : Form) where
    starts : Starts (months_in form) (start_of form s.start)
    starts = form_starts form s.start w.inside

    -- what its bytes mean
    pub written_count : count_in (bytes_in form year s) ≡ length s.figures
    written_count = count-back form year s storable starts

    pub written_start : start_in (bytes_in form year s) ≡ s.start
    written_start = start_back form year s storable starts

    pub written_year : year_of form year (bytes_in form year s) ≡ year
    written_year = year_back form year s small_year

    pub written_meaning : meaning_of form (bytes_in form year s) ≡ s
    written_meaning = meaning_back form year s storable starts

    pub written-length : length (bytes_in form year s) ≡ length_for (front_of form) (length s.figures)
    written-length = file-length form year s starts w.same

    -- no check of a file applies to them, where there is room
    pub written_fits : (short : Bool) → short ≡ false → Before 10 (form_checks form year short (bytes_in form year s))
    written_fits short e =
        let file = bytes_in form year s in
        let m = written_meaning in
        fits_file form year short file (rw m w) (sym written_year) (rw m written_count) (rw m written_start) (period_back form year s storable starts) (rw written_count written-length) e

-- ---- a file that fits: the bytes of what it means are that file
pub same_file : {form : Form} {given : ℕ} {short : Bool} {file : List ℕ} {n start year : ℕ} → AreBytes file → FileFits form given short file n start year
    → bytes_in form (year_of form given file) (meaning_of form file) ≡ file
same_file {form} {given} {short} {file} b f = bytes_again file b given (sized f) (period_fits form given short file f.passed) refl
