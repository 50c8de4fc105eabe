-- An answer as numbers, from what the proved functions promise of it.
use mathlib.Core.Path.{◌≡◌, sym, ap, ◌∙◌}
use mathlib.Core.List.{List}
use Prim.Native.Nat.{ℕ}
use lib.IntN.{ℤ}
use Rattle.refusals.specs.Sheet.{row}
use Rattle.refusals.specs.Numbers.{number_of, place_of}
use Rattle.refusals.specs.declared.Refusal.{Refusal}
use Rattle.refusals.proofs.RowNumbers.{unused_numbers}
use Rattle.decompose.specs.Promise as tables
use Rattle.std.specs.Prelude.{Result, Ok, Err}
use Rattle.vepsjalm.specs.Numbers.{DecomposeNumbers}

module _ {start : ℕ} {f : List ℤ} {lent left : tables.Slices} {r : Result Unit Refusal} (p : tables.Promise start f lent r left) where
  pub has_tables : r ≡ Ok tt → DecomposeNumbers start f lent 0 0 left
  has_tables e = let s = ap tables.says (sym e) ∙ p.answered in
      record { number_is = ap number_of s; place_is = ap place_of s; slices = p.slices; near = λ _. p.near (ap tables.says e); passes = p.passes }

  pub not-tables : {q : Refusal} {k t : ℕ} → r ≡ Err q → k ≡ (row q).number → t ≡ (row q).place → DecomposeNumbers start f lent k t left
  not-tables {q} e i j = let s = ap tables.says (sym e) ∙ p.answered in
      record { number_is = i ∙ ap number_of s; place_is = j ∙ ap place_of s; slices = p.slices; near = λ z. absurd (unused_numbers.zero.none q (sym i ∙ z)); passes = p.passes }
