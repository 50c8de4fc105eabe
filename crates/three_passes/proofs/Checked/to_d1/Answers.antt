-- `three_passes::Checked::to_d1` meets its contract: pass C, then its extremes corrected.
use native.Mathlib.Omega.{arith}
use mathlib.Core.Path.{◌≡◌, ap, ◌∙◌}
use Prim.Native.Nat.{ℕ}
use mathlib.Core.List.{List}
use lib.ListN.{length}
use lib.IntN.{ℤ}
use Rattle.tables.specs.Tables.{C1}
use Rattle.tables.proofs.Sizes.{length-c1}
use Rattle.three_passes.proofs.Passes.{series-c, correctable_c, to_d1}
use Rattle.three_passes.proofs.Checked.to_d1.Goals as goal

-- x is as long as the figures
x_long : (start : ℕ) (f : List ℤ) {x : List ℤ} → x ≡ C1 start f → length x ≡ length f
x_long start f e = ap length e ∙ length-c1 start f

pub one_pass-requires : goal.one_pass-requires
one_pass-requires c = let w = c.requires.0 in let l = x_long c.args.self.now.start c.args.self.now.figures.now c.requires.1 in
    (series-c c.args.self.now.workable c.requires.1, record { a_long = omega (arith, w, l); b_long = omega (arith, w, l); out_long = omega (arith, w, l) }, omega (arith, w, l))

pub correct_extremes-requires : goal.correct_extremes-requires
correct_extremes-requires c = let s = c.requires in (
  correctable_c c.args.self.now.workable s.1 c.one_pass.ensures,
  x_long c.args.self.now.start c.args.self.now.figures.now s.1,
  omega (arith, s.0, c.one_pass),
  omega (arith, s.0, c.one_pass),
  s.2,
)

pub returns : goal.returns
returns c = let s = c.requires in to_d1 c.args.self.now.workable s.1 c.one_pass.ensures c.correct_extremes.ensures
