-- An answer as numbers, from what `read_sheet` promises of it.
use Prim.Native.Nat.{ℕ}
use mathlib.Core.Path.{◌≡◌, sym, ap, ◌∙◌}
use mathlib.Core.List.{List}
use lib.IntN.{ℤ}
use lib.Ieee.{Float}
use Rattle.refusals.specs.declared.Refusal.{Refusal}
use Rattle.refusals.specs.Sheet.{row}
use Rattle.refusals.proofs.RowNumbers.{unused_numbers}
use Rattle.refusals.specs.Numbers.{number_of, place_of, value_of}
use Rattle.doubles.specs.Doubles.{positive_zero}
use Rattle.std.specs.Prelude.{Result, Ok, Err}
use Rattle.members_sheet.specs.declared.SheetSeries.{SheetSeries}
use Rattle.members_sheet.specs.ReadSheet.{SheetAccepted, sheet_says, SheetDone}
use Rattle.sheet_numbers.specs.SheetNumbers.{total_told, SheetNumbers}

module _ {sheet : List ℕ} {f₀ f : List ℤ} {r : Result SheetSeries Refusal} (p : SheetDone sheet f₀ r f) where
  pub has-series : {series : SheetSeries} → r ≡ Ok series → SheetNumbers sheet f₀ 0 series.count series.start series.total 0 f
  has-series e = let s = ap sheet_says (sym e) ∙ p.answer in
      record {
        number_is = ap number_of s;
        count_is = ap (value_of (λ (a : SheetAccepted). a.count)) s;
        start_is = ap (value_of (λ (a : SheetAccepted). a.start)) s;
        total_is = ap total_told s;
        place_is = ap place_of s;
        figures_left = p.figures_left;
        exact = λ _. p.exact _ (ap sheet_says e);
      }

  pub not-read : {q : Refusal} {k t : ℕ} {v : Float} → r ≡ Err q → k ≡ (row q).number → v ≡ positive_zero → t ≡ (row q).place → SheetNumbers sheet f₀ k 0 0 v t f
  not-read {q} e i z j = let s = ap sheet_says (sym e) ∙ p.answer in
      record {
        number_is = i ∙ ap number_of s;
        count_is = ap (value_of (λ (a : SheetAccepted). a.count)) s;
        start_is = ap (value_of (λ (a : SheetAccepted). a.start)) s;
        total_is = z ∙ ap total_told s;
        place_is = j ∙ ap place_of s;
        figures_left = p.figures_left;
        exact = λ z. absurd (unused_numbers.zero.none q (sym i ∙ z));
      }
