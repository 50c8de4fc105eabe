-- The answer of reading a members' sheet, from what the checks found, and what then holds of the slice.
use Prim.Native.Nat.{ℕ}
use mathlib.Core.Path.{◌≡◌, sym, ap, subst, ◌∙◌}
use mathlib.Core.List.{List, ◌++◌}
use native.Mathlib.Omega.{arith}
use borrow.Author.Tests.{ltb-false}
use lib.IntN.{ℤ}
use lib.ListN.{length, drop}
use lib.Ieee.{Float}
use Rattle.integers.proofs.FillingLaws.{length-tab}
use Rattle.refusals.specs.declared.Refusal.{Refusal}
use Rattle.refusals.specs.Limits.{most_months}
use Rattle.refusals.specs.Sheet.{Answer, success, refusal, refusal_of}
use Rattle.refusals.specs.Promises.{Stopped}
use Rattle.refusals.proofs.CheckLaws.{◌&◌, stopped, none-applies, all_before}
use Rattle.desk_forms.specs.Header.{count_in, start_in}
use Rattle.desk_forms.proofs.AfterLaws.{front_filled, front_kept}
use Rattle.doubles.specs.Doubles.{IsNumber, double_of, positive_zero}
use Rattle.std.specs.Prelude.{Ok, Err}
use Rattle.members_sheet.specs.Series.{figures_in, total_revision, summed, TotalExact}
use Rattle.members_sheet.specs.ReadSheet.{SheetAccepted, sheet_accepted, sheet_checks, sheet_answer, SheetDone}
use Rattle.members_sheet.specs.Promises.{SheetFits}
use Rattle.members_sheet.specs.AllAccepted.{AllAccepted}
use Rattle.members_sheet.specs.declared.filling.AcceptedSheet.{AcceptedSheet}
use Rattle.sheet_cells.specs.Promises.{HasCells}
use Rattle.members_sheet.proofs.CheckingLaws.{all_passed, all_taken}
use Rattle.members_sheet.proofs.Sums.{sum-of-first, step-exact, sum-exactly}

-- the total in an answer
abbrev total_in : Answer SheetAccepted → Float
total_in (success a) = a.total
total_in (refusal number place) = positive_zero

module _ (sheet : List ℕ) (room : ℕ) where
  -- where the answer is a success no check applies, its total is exact, and so is every step to it
  pub exact : (a : SheetAccepted) → sheet_answer sheet room ≡ success a → TotalExact sheet a.total
  unfolding sheet_answer total_revision
  exact a e =
      let h = all_before (sheet_checks sheet room) (sheet_accepted (count_in sheet) (start_in sheet) (double_of (total_revision sheet))) a e in
      let most = ltb-false most_months (count_in sheet) h.0.1.1.0 in
      let taken = all_taken h.0.1.1.1.1.1.1 in
      let t : double_of (total_revision sheet) ≡ a.total = ap total_in h.1 in
      record {
        in_doubles = sym t ∙ sym (sum-of-first sheet (count_in sheet) most taken (count_in sheet) (omega arith));
        exact = subst (λ (x : Float). IsNumber x (total_revision sheet)) t (sum-exactly sheet (count_in sheet) most taken);
        steps = step-exact sheet (count_in sheet) most taken;
      }

  sheet_stops : {q : Refusal} → Stopped q (sheet_checks sheet room) → refusal_of q ≡ sheet_answer sheet room
  unfolding sheet_answer
  sheet_stops s = stopped _ s

  module _ (accepted : AcceptedSheet) (f : SheetFits sheet room accepted) where
    abbrev n : ℕ
    n = accepted.cells.n

    has_cells : HasCells sheet n
    has_cells = subst (λ (s : List ℕ). HasCells s n) f.own accepted.cells.has_cells

    taken : AllAccepted sheet (count_in sheet)
    taken = subst (AllAccepted sheet) has_cells.count (subst (λ (s : List ℕ). AllAccepted s n) f.own accepted.each_accepted)

    -- the sum in doubles is the double of the exact total
    total : summed sheet n ≡ double_of (total_revision sheet)
    unfolding total_revision
    total = rw has_cells.count (sum-of-first sheet (count_in sheet) (rw has_cells.count at has_cells.most) taken (count_in sheet) (omega arith))

    sheet_accepts : sheet_accepted n accepted.start (summed sheet n) ≡ sheet_answer sheet room
    unfolding sheet_answer
    sheet_accepts =
        let p = f.passed in
        rw (total, has_cells.count, f.begins)
        (none-applies (sheet_checks sheet room) (sheet_accepted (count_in sheet) (start_in sheet) (double_of (total_revision sheet)))
        (p.0 & p.1.0 & p.1.1.0 & p.1.1.1.0 & p.1.1.1.1.0 & p.1.1.1.1.1.0 & all_passed taken))

    length-series : length (figures_in sheet) ≡ n
    unfolding figures_in
    length-series = length-tab (count_in sheet) _ ∙ sym has_cells.count

module _ {sheet : List ℕ} {figures₀ figures : List ℤ} where
  pub refused : {q : Refusal} → Stopped q (sheet_checks sheet (length figures₀)) → figures ≡ figures₀ → SheetDone sheet figures₀ (Err q) figures
  refused s e =
      let a = sheet_stops sheet (length figures₀) s in
      record { answer = a; figures_left = e ∙ front_kept (figures_in sheet) figures₀ a; exact = λ b e. exact sheet (length figures₀) b (sym a ∙ e) }

  pub accepted : (a : AcceptedSheet) {total : Float} → SheetFits sheet (length figures₀) a
      → total ≡ summed a.cells.sheet.now a.cells.n → figures ≡ figures_in a.cells.sheet.now ++ drop a.cells.n figures₀
      → SheetDone sheet figures₀ (Ok (record { count = a.cells.n; start = a.start; total = total })) figures
  accepted a f t e =
      let r = ap (sheet_accepted a.cells.n a.start) (rw f.own at t) ∙ sheet_accepts sheet (length figures₀) a f in
      record {
        answer = r;
        figures_left = rw f.own at e ∙ front_filled (figures_in sheet) figures₀ r (length-series sheet (length figures₀) a f);
        exact = λ b e. exact sheet (length figures₀) b (sym r ∙ e);
      }
