-- METHOD 7.7 and 7.9, the theorems on the desk file by calendar month and on moving. They speak of the promises that the four entry points keep.
use Prim.Native.Nat.{ℕ, min}
use mathlib.Core.Path.{◌≡◌, sym, ap, subst, ◌∙◌}
use mathlib.Core.List.{List, ◌++◌}
use native.Mathlib.Omega.{arith}
use borrow.Author.Tests.{le-ltb}
use lib.ListN.{length, take, drop}
use lib.Seq.{take_at}
use Rattle.refusals.specs.Limits.{earliest_year}
use Rattle.refusals.specs.Sheet.{success}
use Rattle.little_endian.specs.Bytes.{AreBytes}
use Rattle.desk_forms.specs.declared.Form.TheVariants.{Plain, Columns}
use Rattle.desk_forms.specs.Header.{SeriesWithWeights, series, count_in}
use Rattle.desk_forms.specs.File.{file_length, file_bytes, series_in}
use Rattle.desk_forms.specs.ColumnsFile.{columns_length, columns_bytes, first_year_in, series_in_columns}
use Rattle.desk_forms.proofs.FormLaws.{meaning-whole, meaning-months}
use Rattle.desk_forms.proofs.FileLaws.{six_and_six}
use Rattle.desk_forms.proofs.Decoding.{meaning_back, year_back}
use Rattle.desk_checks.specs.Checked.{FileFits}
use Rattle.desk_checks.proofs.CheckedLaws.{SeriesFits, sized, file_fits, series_fits, fits_series}
use Rattle.desk_checks.proofs.Again.{written_count, written_start, written_year, written_meaning, written-length, written_fits, same_file}
use Rattle.desk_file.proofs.Answers as plain
use Rattle.desk_columns.specs.ReadColumns.{Dated, dated, read_columns_answer, ReadColumnsDone}
use Rattle.desk_columns.specs.WriteColumns.{write_columns_answer, WriteColumnsDone}
use Rattle.desk_columns.specs.Moving.{forward_answer, MovedForward, size_and_year, back_answer, MovedBack}
use Rattle.desk_columns.specs.ColumnsTrips.{OneColumnsFile, SameColumnsBytes, ColumnsReadBack, ColumnsWriteBack, ForwardBack, BackForward, ColumnsAcceptedToo}
use Rattle.desk_columns.proofs.Answers.{short, read_accepts, read-accepted, write_accepts, write-accepted, short_forward, forward_accepts, forward-accepted, short_back, back_accepts, back-accepted}

-- the bytes of what an accepted byte string means are that byte string
meant : (file : List ℕ) (nf nw : ℕ) (a : Dated) → AreBytes file → read_columns_answer file nf nw ≡ success a → columns_bytes (first_year_in file) (series_in_columns file) ≡ file
meant file nf nw a b h = same_file b (read-accepted file nf nw a.count a.start a.first_year h)

-- a series with weights and first year has one byte string
pub one-columns-file : OneColumnsFile
one-columns-file file file' _ _ _ _ a a' b b' h h' e y =
    sym (meant file _ _ a b h) ∙ ap (λ (s : SeriesWithWeights). columns_bytes (first_year_in file) s) e ∙ ap (λ (k : ℕ). columns_bytes k (series_in_columns file')) y ∙ meant file' _ _ a' b' h'

-- and a byte string means one series with weights and first year
pub same_columns_bytes : SameColumnsBytes
same_columns_bytes year year' s s' a a' e = (
  sym (meaning_back Columns year s a.plain a.starts) ∙ ap series_in_columns e ∙ meaning_back Columns year' s' a'.plain a'.starts,
  sym (year_back Columns year s a.first) ∙ ap first_year_in e ∙ year_back Columns year' s' a'.first,
)

-- ---- reading and writing
-- what `write_columns` writes, `read_columns` reads again unchanged
pub columns_read_again : ColumnsReadBack
columns_read_again year s out₀ out q k figures₀ figures weights₀ weights r d ha hf hw e =
    let told : write_columns_answer year s (length out₀) ≡ success k = sym d.answer ∙ ha in
    let w = series_fits Columns year s (length out₀) (write-accepted year s (length out₀) told).0 in
    let written = columns_bytes year s in
    let left : out ≡ written ++ drop (length written) out₀ = rw told at d.out_left in
    let long : length written ≡ k = written-length w Columns ∙ sym (write-accepted year s (length out₀) told).1 in
    let file : take k out ≡ written = ap (take k) left ∙ take_at written _ k long in
    let e' = subst (λ (f : List ℕ). ReadColumnsDone f figures₀ weights₀ r figures weights) file e in
    let room = le-ltb (min (length figures₀) (length weights₀)) (count_in written) (omega (arith, written_count w Columns)) in
    let fits : FileFits Columns 0 (short written (length figures₀) (length weights₀)) written (length s.figures) s.start year = record {
      passed = written_fits w Columns (short written (length figures₀) (length weights₀)) room;
      count = sym (written_count w Columns);
      begins = sym (written_start w Columns);
      dated = sym (written_year w Columns);
    } in
    let answer : read_columns_answer written (length figures₀) (length weights₀) ≡ dated (length s.figures) s.start year = sym (read_accepts written (length figures₀) (length weights₀) fits) in
    record {
      answer = e'.answer ∙ answer;
      figures_left = rw (answer, written_meaning w Columns) at e'.figures_left;
      weights_left = rw (answer, written_meaning w Columns, w.same) at e'.weights_left;
    }

-- whatever `read_columns` accepts, `write_columns` writes again byte for byte
pub columns_write_again : ColumnsWriteBack
columns_write_again file figures₀ figures weights₀ weights q n start year out₀ out r b d ha room e =
    let told : read_columns_answer file (length figures₀) (length weights₀) ≡ dated n start year = sym d.answer ∙ ha in
    let f = read-accepted file (length figures₀) (length weights₀) n start year told in
    let m = meaning-months (sized f) in
    let s = series_in_columns file in
    let w : SeriesFits year s = rw f.dated (file_fits Columns 0 _ file f.passed) in
    let figures_left : figures ≡ s.figures ++ drop (length s.figures) figures₀ = rw told at d.figures_left in
    let weights_left : weights ≡ s.weights ++ drop (length s.weights) weights₀ = rw told at d.weights_left in
    let read : series start (take n figures) (take n weights) ≡ s =
    rw (figures_left, weights_left, take_at s.figures (drop (length s.figures) figures₀) n m.0, take_at s.weights (drop (length s.weights) weights₀) n m.1, f.begins)
    (sym (meaning-whole Columns file)) in
    let e' = subst (λ (s : SeriesWithWeights). WriteColumnsDone year s out₀ r out) read e in
    let same : columns_bytes year s ≡ file = rw f.dated (meant file (length figures₀) (length weights₀) _ b told) in
    let answer : write_columns_answer year s (length out₀) ≡ success (length file) =
    sym (rw (ap length (sym same) ∙ written-length w Columns) (write_accepts year s (length out₀) (fits_series Columns year s (length out₀) w (omega (arith, written-length w Columns, ap length same))))) in
    record { answer = e'.answer ∙ answer; out_left = rw (answer, same) at e'.out_left }

-- ---- moving
-- forward and then back: the plain file and the year
pub forward_back : ForwardBack
forward_back file year out₀ out q k back₀ back r b d ha room e =
    let told : forward_answer file year (length out₀) ≡ success k = sym d.answer ∙ ha in
    let f = (forward-accepted file year (length out₀) told).0 in
    let s = series_in file in
    let w = file_fits Plain year _ file f.passed in
    let moved = columns_bytes year s in
    let same : file_bytes s ≡ file = same_file b f in
    let months = (meaning-months (sized f)).0 in
    let left : out ≡ moved ++ drop (length moved) out₀ = rw told at d.out_left in
    let long : length moved ≡ k = written-length w Columns ∙ ap columns_length months ∙ sym (forward-accepted file year (length out₀) told).1 in
    let forward : take k out ≡ moved = ap (take k) left ∙ take_at moved _ k long in
    let e' = subst (λ (g : List ℕ). MovedBack g back₀ r back) forward e in
    let size : file_length (length s.figures) ≡ length file = sym (written-length w Plain) ∙ ap length same in
    let enough = le-ltb (length back₀) (file_length (count_in moved)) (omega (arith, written_count w Columns, size)) in
    let fits : FileFits Columns 0 (short_back moved (length back₀)) moved (length s.figures) s.start year = record {
      passed = written_fits w Columns (short_back moved (length back₀)) enough;
      count = sym (written_count w Columns);
      begins = sym (written_start w Columns);
      dated = sym (written_year w Columns);
    } in
    let answer : back_answer moved (length back₀) ≡ size_and_year (length file) year = sym (rw (← size) (back_accepts moved (length back₀) fits)) in
    record { answer = e'.answer ∙ answer; out_left = rw (answer, written_meaning w Columns, same) at e'.out_left }

-- back and then forward: the file by calendar month
pub back_forward : BackForward
back_forward file back₀ back q k year out₀ out r b d ha room e =
    let told : back_answer file (length back₀) ≡ size_and_year k year = sym d.answer ∙ ha in
    let f = (back-accepted file (length back₀) told).0 in
    let s = series_in_columns file in
    let w : SeriesFits year s = rw f.dated (file_fits Columns 0 _ file f.passed) in
    let moved = file_bytes s in
    let same : columns_bytes year s ≡ file = rw f.dated (same_file b f) in
    let months = (meaning-months (sized f)).0 in
    let left : back ≡ moved ++ drop (length moved) back₀ = rw told at d.out_left in
    let long : length moved ≡ k = written-length w Plain ∙ ap file_length months ∙ sym (back-accepted file (length back₀) told).1 in
    let back' : take k back ≡ moved = ap (take k) left ∙ take_at moved _ k long in
    let e' = subst (λ (g : List ℕ). MovedForward g year out₀ r out) back' e in
    let size : columns_length (count_in moved) ≡ length file = ap columns_length (written_count w Plain) ∙ sym (written-length w Columns) ∙ ap length same in
    let enough = le-ltb (length out₀) (columns_length (count_in moved)) (omega (arith, size)) in
    let answer : forward_answer moved year (length out₀) ≡ success (length file) =
    sym (rw (← size) (forward_accepts moved year (length out₀) (written_fits w Plain (short_forward moved year (length out₀)) enough))) in
    record { answer = e'.answer ∙ answer; out_left = rw (answer, written_meaning w Plain, same) at e'.out_left }

-- ---- writing in either form
-- what `write` accepts, `write_columns` accepts, from a first year inside the limits
pub columns-accepted-too : ColumnsAcceptedToo
columns-accepted-too s plainRoom k year room e y l =
    let v = series_fits Plain earliest_year s plainRoom (plain.write-accepted s plainRoom e).0 in
    let w : SeriesFits year s = record {
      least = v.least;
      most = v.most;
      inside = v.inside;
      same = v.same;
      years = y;
      figures_fit = v.figures_fit;
      weights_fit = v.weights_fit;
    } in
    sym (write_accepts year s room (fits_series Columns year s room w (omega (arith, six_and_six (length s.figures))))) ∙ ap success (six_and_six (length s.figures))
