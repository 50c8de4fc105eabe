-- METHOD 7.4, the round trips. They speak of the promises that `write` and `read` keep (`WriteDone` and `ReadDone` are their contracts).
use Prim.Native.Nat.{ℕ, min}
use mathlib.Core.Path.{◌≡◌, sym, ap, subst, ◌∙◌}
use mathlib.Core.List.{List, ◌++◌}
use native.Mathlib.Omega.{arith}
use borrow.Author.Tests.{le-ltb}
use lib.ListN.{length, take, drop}
use lib.Seq.{take_at}
use Rattle.refusals.specs.Limits.{earliest_year}
use Rattle.refusals.specs.Sheet.{success}
use Rattle.little_endian.specs.Bytes.{AreBytes}
use Rattle.chart.proofs.Loops.{one-starts}
use Rattle.desk_forms.specs.declared.Form.TheVariants.{Plain}
use Rattle.desk_forms.specs.Header.{SeriesWithWeights, series, count_in}
use Rattle.desk_forms.specs.File.{file_bytes, series_in}
use Rattle.desk_forms.proofs.FormLaws.{meaning-whole, meaning-months}
use Rattle.desk_forms.proofs.Decoding.{meaning_back}
use Rattle.desk_checks.proofs.CheckedLaws.{sized, file_fits, series_fits, fits_series}
use Rattle.desk_checks.proofs.Again.{written_count, written_start, written_meaning, written-length, written_fits, same_file}
use Rattle.desk_file.specs.ReadFile.{Accepted, accepted, read_answer, ReadDone}
use Rattle.desk_file.specs.WriteFile.{write_answer, WriteDone}
use Rattle.desk_file.specs.RoundTrips.{OneFile, SameBytes, ReadsBack, WritesBack}
use Rattle.desk_file.proofs.Answers.{short, read_accepts, read-accepted, write_accepts, write-accepted}

-- the bytes of what an accepted byte string means are that byte string
meant : (file : List ℕ) (nf nw : ℕ) (a : Accepted) → AreBytes file → read_answer file nf nw ≡ success a → file_bytes (series_in file) ≡ file
meant file nf nw a b h = same_file b (read-accepted file nf nw a.count a.start h)

-- a series with weights has one byte string: two accepted byte strings that mean the same are the same
pub one-file : OneFile
one-file file file' _ _ _ _ a a' b b' h h' e = sym (meant file _ _ a b h) ∙ ap file_bytes e ∙ meant file' _ _ a' b' h'

-- and a byte string means one series with weights: two that give the same bytes are the same
pub same_bytes : SameBytes
same_bytes s s' a a' e = sym (meaning_back Plain earliest_year s a one-starts) ∙ ap series_in e ∙ meaning_back Plain earliest_year s' a' one-starts

-- what `write` writes, `read` reads again unchanged
pub read_again : ReadsBack
read_again s out₀ out q k figures₀ figures weights₀ weights r d ha hf hw e =
    let told : write_answer s (length out₀) ≡ success k = sym d.answer ∙ ha in
    let w = series_fits Plain earliest_year s (length out₀) (write-accepted s (length out₀) told).0 in
    let n = length s.figures in
    let left : out ≡ file_bytes s ++ drop (length (file_bytes s)) out₀ = rw told at d.out_left in
    let long : length (file_bytes s) ≡ k = written-length w Plain ∙ sym (write-accepted s (length out₀) told).1 in
    let file : take k out ≡ file_bytes s = ap (take k) left ∙ take_at (file_bytes s) _ k long in
    let e' = subst (λ (f : List ℕ). ReadDone f figures₀ weights₀ r figures weights) file e in
    let room = le-ltb (min (length figures₀) (length weights₀)) (count_in (file_bytes s)) (omega (arith, written_count w Plain)) in
    let answer : read_answer (file_bytes s) (length figures₀) (length weights₀) ≡ accepted n s.start =
    sym (read_accepts (file_bytes s) (length figures₀) (length weights₀) (written_fits w Plain (short (file_bytes s) (length figures₀) (length weights₀)) room) (sym (written_count w Plain)) (sym (written_start w Plain))) in
    record {
      answer = e'.answer ∙ answer;
      figures_left = rw (answer, written_meaning w Plain) at e'.figures_left;
      weights_left = rw (answer, written_meaning w Plain, w.same) at e'.weights_left;
    }

-- whatever `read` accepts, `write` writes again byte for byte
pub write_again : WritesBack
write_again file figures₀ figures weights₀ weights q n start out₀ out r b d ha room e =
    let told : read_answer file (length figures₀) (length weights₀) ≡ accepted n start = sym d.answer ∙ ha in
    let f = read-accepted file (length figures₀) (length weights₀) n start told in
    let z = sized f in
    let m = meaning-months z in
    let w = file_fits Plain earliest_year _ file f.passed in
    let figures_left : figures ≡ (series_in file).figures ++ drop (length (series_in file).figures) figures₀ = rw told at d.figures_left in
    let weights_left : weights ≡ (series_in file).weights ++ drop (length (series_in file).weights) weights₀ = rw told at d.weights_left in
    let s : series start (take n figures) (take n weights) ≡ series_in file =
    rw (figures_left, weights_left, take_at (series_in file).figures (drop (length (series_in file).figures) figures₀) n m.0, take_at (series_in file).weights (drop (length (series_in file).weights) weights₀) n m.1, f.begins)
    (sym (meaning-whole Plain file)) in
    let e' = subst (λ (s : SeriesWithWeights). WriteDone s out₀ r out) s e in
    let same = meant file (length figures₀) (length weights₀) _ b told in
    let answer : write_answer (series_in file) (length out₀) ≡ success (length file) =
    sym (rw (ap length (sym same) ∙ written-length w Plain) (write_accepts (series_in file) (length out₀) (fits_series Plain earliest_year (series_in file) (length out₀) w (omega (arith, written-length w Plain, ap length same))))) in
    record { answer = e'.answer ∙ answer; out_left = rw (answer, same) at e'.out_left }
