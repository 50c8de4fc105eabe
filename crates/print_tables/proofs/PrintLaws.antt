-- What is printed, by the promises of decomposing and of reading.
use Prim.Native.Nat.{ℕ, ◌+◌, ◌≤◌}
use mathlib.Core.Path.{◌≡◌, sym, ap, ◌∙◌}
use mathlib.Core.List.{List, [], ◌++◌}
use native.Mathlib.Omega.{arith}
use lib.IntN.{ℤ}
use lib.ListN.{length, take, drop, length-take}
use lib.Seq.{length-take-le, take_at, sets-eq}
use Rattle.std.specs.Prelude.{Result, Ok, Err}
use Rattle.refusals.specs.declared.Refusal.{Refusal}
use Rattle.refusals.specs.Limits.{most_months}
use Rattle.refusals.specs.Sheet.{Answer, success, row}
use Rattle.desk_file.specs.declared.Series.{Series}
use Rattle.desk_forms.specs.File.{series_in}
use Rattle.desk_file.specs.ReadFile.{Accepted, accepted, read_says, read_answer, ReadDone}
use Rattle.desk_forms.proofs.FormLaws.{meaning-months}
use Rattle.desk_file.proofs.Answers.{read_sized}
use Rattle.decompose.specs.Promise.{Slices, Promise, answer, after, says, lengths_of}
use Rattle.decimals.specs.declared.Text.{Text}
use Rattle.decimals.specs.Storing.{Stored, Put}
use Rattle.decimals.proofs.StoringLaws.{put-then, put_short}
use Rattle.print_lines.specs.Text.{refused_line, tables_text, text_room}
use Rattle.print_tables.specs.Printed.{lent_for, series_answer, tables_of, decomposed_text, series_text, unread_text, read_text, printed, PrintDone}

-- the text of a file that is stored at the front of an array with room for every text
pub print_done : {file out₀ out : List ℕ} {r : ℕ} → text_room ≤ length out₀ → Stored text_room out₀ 0 (printed file) r out → PrintDone file out₀ r out
print_done {file} {out₀} {r} h s =
    let e : r ≡ length (printed file) = omega (arith, s.ends) in
    let l : 0 + length (printed file) ≡ r = omega arith in
    record { answer = e; out_left = s.stored ∙ sets-eq (printed file) out₀ 0 (omega (arith, s.short)) ∙ ap (λ (k : ℕ). printed file ++ drop k out₀) l }

-- what is put where nothing was put before
pub after_nothing : {a most : ℕ} {x y z : Text} {bytes : List ℕ} → Put a x [] y → Put most y bytes z → Put most x bytes z
after_nothing p q = put_short (put-then p q) q.stored.short

-- ---- decomposing
-- the slices that are lent: the fronts of arrays
abbrev fronts_of : ℕ → List ℤ → List ℕ → List ℤ → Slices
fronts_of n x w scratch = record { d10 = take n x; d11 = take n x; d12 = take n x; d13 = take n x; b17 = take n w; c17 = take n w; scratch = scratch }

pub fronts_lent : (n : ℕ) (x : List ℤ) (w : List ℕ) (scratch : List ℤ) → n ≤ length x → n ≤ length w → length scratch ≡ (lent_for n).scratch → lengths_of (fronts_of n x w scratch) ≡ lent_for n
unfolding lengths_of
fronts_lent n x w scratch h g e = rw (length-take-le n x h, length-take-le n w g, e)

module _ {start : ℕ} {figures : List ℤ} {lent left : Slices} {r : Result Unit Refusal} (p : Promise start figures lent r left) (h : lengths_of lent ≡ lent_for (length figures)) where
  says-answer : says r ≡ series_answer start figures
  unfolding answer series_answer
  says-answer = rw h at p.answered

  pub tables-printed : r ≡ Ok tt → {a b c d : List ℤ} {w : List ℕ} → a ≡ left.d10 → b ≡ left.d11 → c ≡ left.d12 → d ≡ left.d13 → w ≡ left.c17
      → tables_text (record { figures = figures; d10 = a; d11 = b; d12 = c; d13 = d; c17 = w }) start ≡ series_text start figures
  unfolding series_text decomposed_text tables_of after
  tables-printed e i j k l m =
      let done : answer start figures lent ≡ success tt = sym p.answered ∙ ap says e in
      let tables : left ≡ after (success tt) start figures lent = p.slices ∙ ap (λ (a : Answer Unit). after a start figures lent) done in
      rw (i, j, k, l, m)
      (ap (λ (s : Slices). tables_text (record { figures = figures; d10 = s.d10; d11 = s.d11; d12 = s.d12; d13 = s.d13; c17 = s.c17 }) start) tables
      ∙ ap (λ (a : Answer Unit). decomposed_text a start figures) (sym (ap says e) ∙ says-answer))

  pub refusal-printed : (q : Refusal) → r ≡ Err q → refused_line (row q).number (row q).place ≡ series_text start figures
  unfolding series_text decomposed_text
  refusal-printed q e = ap (λ (a : Answer Unit). decomposed_text a start figures) (sym (ap says e) ∙ says-answer)

-- ---- reading
module _ {file : List ℕ} {figures₀ figures : List ℤ} {weights₀ weights : List ℕ} {r : Result Series Refusal} (p : ReadDone file figures₀ weights₀ r figures weights)
    (f : length figures₀ ≡ most_months) (w : length weights₀ ≡ most_months) where
  read_answer_lem : read_says r ≡ read_answer file most_months most_months
  read_answer_lem = rw (f, w) at p.answer

  pub unread-printed : (q : Refusal) → r ≡ Err q → unread_text (read_says r) ≡ printed file
  unfolding printed read_text unread_text
  unread-printed q e = ap (λ (x : Result Series Refusal). unread_text (read_says x)) e ∙ ap (λ (a : Answer Accepted). read_text a file) (sym (ap read_says e) ∙ read_answer_lem)

  module _ (s : Series) (e : r ≡ Ok s) where
    told : read_answer file (length figures₀) (length weights₀) ≡ accepted s.count s.start
    told = sym p.answer ∙ ap read_says e

    pub nothing_put : unread_text (read_says r) ≡ []
    unfolding unread_text
    nothing_put = ap (λ (x : Result Series Refusal). unread_text (read_says x)) e

    pub months-fit : s.count ≤ most_months
    months-fit = (read_sized file (length figures₀) (length weights₀) told).most

    long : length (series_in file).figures ≡ s.count
    long = (meaning-months (read_sized file (length figures₀) (length weights₀) told)).0

    figures_read : take s.count figures ≡ (series_in file).figures
    figures_read =
        let left : figures ≡ (series_in file).figures ++ drop (length (series_in file).figures) figures₀ = rw told at p.figures_left in
        ap (take s.count) left ∙ take_at (series_in file).figures _ s.count long

    pub months-read : length (take s.count figures) ≡ s.count
    months-read = ap length figures_read ∙ long

    pub figures_room : s.count ≤ length figures
    figures_room = omega (arith, length-take s.count figures, months-read)

    pub series-printed : series_text s.start (take s.count figures) ≡ printed file
    unfolding printed read_text
    series-printed = ap (series_text s.start) figures_read ∙ ap (λ (a : Answer Accepted). read_text a file) (sym (ap read_says e) ∙ read_answer_lem)
