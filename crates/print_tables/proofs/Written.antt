-- METHOD 7.3: what decomposing leaves in B17 and C17, writing accepts.
use Prim.Native.Nat.{ℕ}
use mathlib.Core.Path.{◌≡◌, refl, sym, ap, ◌∙◌}
use mathlib.Core.List.{List}
use native.Mathlib.Omega.{arith}
use borrow.Author.Tests.{ltb-false, not-false, le-leb}
use lib.IntN.{ℤ}
use lib.ListN.{length, get_or}
use Rattle.std.specs.Prelude.{None}
use Rattle.refusals.specs.Limits.{least_months, most_months, full_weight, earliest_year}
use Rattle.refusals.specs.Inside.{weight_inside}
use Rattle.refusals.specs.First.{first_above}
use Rattle.refusals.specs.Sheet.{Answer, success}
use Rattle.refusals.proofs.InsideLaws.{start-inside, from-year-one}
use Rattle.refusals.proofs.FirstLaws.{first-none}
use Rattle.refusals.proofs.CheckLaws.{all_before, each_nowhere}
use Rattle.tables.specs.Weighings.{WeightsOfMonths}
use Rattle.tables.proofs.Weighings.{no-weight-above-full}
use Rattle.checks.specs.declared.Lengths.{Lengths}
use Rattle.checks.specs.Answer.{decompose_checks, answer_for}
use Rattle.desk_forms.specs.declared.Form.TheVariants.{Plain}
use Rattle.desk_forms.specs.Header.{series}
use Rattle.desk_forms.proofs.FileLaws.{four_and_six}
use Rattle.desk_checks.proofs.CheckedLaws.{SeriesFits, fits_series}
use Rattle.desk_file.proofs.Answers.{write_accepts}
use Rattle.decompose.specs.Promise.{Slices, lengths_of, answer, after}
use Rattle.print_tables.specs.Written.{Written, DecomposedThenWritten}

-- weights of which none is above 1,000 pass row 10
none_above : {n : ℕ} (weights : List ℕ) → WeightsOfMonths n weights → first_above weights ≡ None
unfolding first_above weight_inside
none_above weights h = sym (first-none {d = 0} (record { each = λ t l. le-leb (get_or weights t 0) full_weight (h.most t) }) refl)

-- where decomposing answers tables, rows 1 to 3 and 5 do not apply
module _ (start : ℕ) (figures : List ℤ) (lengths : Lengths) (e : answer_for start figures lengths ≡ success tt) where
  fits : {weights : List ℕ} → WeightsOfMonths (length figures) weights → SeriesFits earliest_year (series start figures weights)
  unfolding answer_for
  fits {weights} w =
      let h = (all_before (decompose_checks start figures lengths) (success tt) tt e).0 in
      let most = ltb-false most_months (length figures) h.1.0 in
      let inside = not-false _ h.1.1.0 in
      record {
        least = ltb-false (length figures) least_months h.0;
        most = most;
        inside = inside;
        same = w.long;
        years = from-year-one start (length figures) (start-inside start inside).1 most;
        figures_fit = each_nowhere 5 _ h.1.1.1.1.0;
        weights_fit = none_above weights w;
      }

  written : {weights : List ℕ} → WeightsOfMonths (length figures) weights → Written start figures weights
  written {weights} w = record {
    accepted = λ room l. let s = series start figures weights in
        sym (write_accepts s room (fits_series Plain earliest_year s room (fits w) (omega (arith, four_and_six (length figures)))))
        ∙ ap success (four_and_six (length figures));
  }

pub decomposed_then_written : DecomposedThenWritten
unfolding answer after
decomposed_then_written start figures lent left p =
    let done : answer_for start figures (lengths_of lent) ≡ success tt = sym p.answered in
    let tables : left ≡ after (success tt) start figures lent = p.slices ∙ ap (λ (a : Answer Unit). after a start figures lent) done in
    let w = no-weight-above-full start figures in
    record {
      b17 = rw (ap (λ (s : Slices). s.b17) tables) (written start figures (lengths_of lent) done w.b17);
      c17 = rw (ap (λ (s : Slices). s.c17) tables) (written start figures (lengths_of lent) done w.c17);
    }
