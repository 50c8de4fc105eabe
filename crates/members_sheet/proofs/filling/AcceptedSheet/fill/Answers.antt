use Prim.Native.Nat.{ℕ, ◌+◌, ◌<◌}
use mathlib.Core.Path.{◌≡◌, sym, ap, subst, ◌∙◌}
use mathlib.Core.List.{List}
use native.Mathlib.Omega.{arith}
use borrow.Author.Rules.{sfits_of}
use lib.IntN.{ℤ, pos}
use lib.ListN.{length, set}
use lib.Ieee.{Float}
use mir.Syntax.{w32}
use mir.Facts.{to_z-of_z}
use Rattle.integers.specs.Filling.{Filled}
use Rattle.integers.proofs.FillingLaws.{filled_none, filled_more, filled_front}
use Rattle.doubles.specs.Doubles.{number_in, counts}
use Rattle.doubles.proofs.Exact.{zero_bits}
use Rattle.sheet_cells.specs.declared.Imported.{Imported}
use Rattle.sheet_cells.specs.Cells.{with_month, cell_at, newest, revised_by}
use Rattle.sheet_cells.specs.Promises.{OfMonth}
use Rattle.sheet_cells.proofs.CellLaws.{cell-month, taken, newest-counts}
use Rattle.members_sheet.specs.Series.{figures_in, summed}
use Rattle.members_sheet.proofs.Sums.{summed-more}
use Rattle.members_sheet.proofs.filling.AcceptedSheet.fill.Goals as goal

-- the parts of what a cell brings in
months : {d : Imported} {t : ℕ} {x : Float} → d ≡ with_month t x → d.month ≡ t
months e = ap (λ (d : Imported). d.month) e

doubled : {d : Imported} {t : ℕ} {x : Float} → d ≡ with_month t x → d.double ≡ x
doubled e = ap (λ (d : Imported). d.double) e

-- one month more, at its own number
more-at : {f : ℕ → ℤ} {t m : ℕ} {v : ℤ} {old new : List ℤ} → Filled (pos 0) f 0 t old new → t < length new → m ≡ t → v ≡ f t → Filled (pos 0) f 0 (t + 1) old (set new m v)
more-at {f} {t} {m} {v} {old} {new} p l e q = subst (λ (k : ℕ). Filled (pos 0) f 0 (t + 1) old (set new k v)) (sym e) (filled_more p (omega arith) l q)

pub loop-t-init : goal.loop-t-init
unfolding summed
loop-t-init c = (filled_none, zero_bits)

pub import-imported-requires : goal.import-imported-requires
import-imported-requires c = subst (OfMonth c.loop-t.t) (sym c.cell_at-cell.ensures) (cell-month c.args.self.now.cells.sheet.now c.loop-t.t)

pub number_of-requires : goal.number_of-requires
number_of-requires c =
    let a = c.args.self.now in
    let t = c.loop-t.t in
    ap counts (doubled c.import-imported.ensures ∙ ap newest c.cell_at-cell.ensures)
    ∙ newest-counts (cell_at a.cells.sheet.now t) (taken a.cells.sheet.now t (a.each_accepted.each t c.loop-t-test.true))

pub loop-t-preserved : goal.loop-t-preserved
loop-t-preserved c =
    let z = to_z-of_z {w = w32} (sfits_of c.number_of.type_inv) ∙ c.number_of.ensures ∙ ap number_in (doubled c.import-imported.ensures ∙ ap newest c.cell_at-cell.ensures) in (
      more-at c.loop-t.invariant.0 (omega (arith, c.loop-t-test.true, c.loop-t.auto.figures, c.requires)) (months c.import-imported.ensures) z,
      c.with_revision-total.ensures ∙ ap (revised_by c.loop-t.total) c.cell_at-cell.ensures ∙ summed-more _ c.loop-t.t c.loop-t.invariant.1,
    )

pub returns : goal.returns
unfolding figures_in
returns c =
    let a = c.args.self.now in
    let e : c.loop-t.t ≡ a.cells.n = omega (arith, c.loop-t-test.false, c.loop-t.auto.t-end) in (
      rw (← a.cells.has_cells.count) (filled_front c.loop-t.invariant.0 e (omega (arith, c.requires))),
      c.loop-t.invariant.1 ∙ ap (summed a.cells.sheet.now) e,
    )
