-- METHOD 9.1: of a file that reading accepts the tables are printed.
use Prim.Native.Nat.{ℕ, ◌≤◌}
use mathlib.Core.Path.{◌≡◌, refl}
use mathlib.Core.Bool.{true}
use mathlib.Core.List.{List}
use native.Mathlib.Omega.{arith}
use borrow.Author.Tests.{eq-eqb, le-leb}
use lib.ListN.{length}
use Rattle.refusals.specs.Limits.{most_months, earliest_year}
use Rattle.refusals.specs.Sheet.{success}
use Rattle.desk_forms.specs.declared.Form.TheVariants.{Plain}
use Rattle.desk_forms.specs.File.{series_in}
use Rattle.desk_checks.proofs.CheckedLaws.{file_fits}
use Rattle.desk_file.specs.ReadFile.{accepted, read_answer}
use Rattle.desk_file.proofs.Answers.{read-accepted, read_sized, read_with}
use Rattle.scratch.specs.Scratch.{scratch_for}
use Rattle.checks.specs.Answer.{fitting}
use Rattle.checks.proofs.Rows.{fine}
use Rattle.print_tables.specs.Printed.{lent_for, series_answer, decomposed_text, series_text, read_text, printed, ReadThenPrinted}

-- row 4: what is lent is long enough
lent_enough : (n : ℕ) → n ≤ most_months → fitting n (lent_for n) ≡ true
unfolding fitting
lent_enough n h = simp (eq-eqb n n refl, le-leb (scratch_for n) (scratch_for most_months) (omega arith))

module _ (file : List ℕ) (figuresRoom weightsRoom n start : ℕ) (e : read_answer file figuresRoom weightsRoom ≡ accepted n start) where
  answered : series_answer start (series_in file).figures ≡ success tt
  unfolding series_answer
  answered =
      let f = read-accepted file figuresRoom weightsRoom n start e in
      let s = file_fits Plain earliest_year _ file f.passed in
      let z = read_sized file figuresRoom weightsRoom e in
      (fine start (series_in file).figures (lent_for (length (series_in file).figures))
      (record { least = s.least; most = s.most; inside = z.inside }) (lent_enough (length (series_in file).figures) s.most) s.figures_fit).answer_is

  read_here : read_answer file most_months most_months ≡ accepted n start
  read_here =
      let z = read_sized file figuresRoom weightsRoom e in
      read_with file figuresRoom weightsRoom e most_months most_months z.most z.most

pub read-then-printed : ReadThenPrinted
unfolding printed read_text series_text decomposed_text
read-then-printed file figuresRoom weightsRoom n start e =
    rw (read_here file figuresRoom weightsRoom n start e, answered file figuresRoom weightsRoom n start e)
