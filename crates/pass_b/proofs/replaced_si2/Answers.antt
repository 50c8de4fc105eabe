-- `pass_b::replaced_si2` meets its contract: SI2, its weights, its values replaced by them, and T2 again.
use Prim.Native.Nat.{ℕ}
use mathlib.Core.List.{List}
use lib.IntN.{ℤ}
use mathlib.Core.Path.{◌≡◌, ap, ap₂, ◌∙◌}
use native.Mathlib.Omega.{arith}
use Rattle.refusals.specs.Limits.{months_of_year}
use Rattle.series.specs.Operations.{minus}
use Rattle.replacing.specs.Replaced.{replaced_by}
use Rattle.steps.specs.Steps.{T2, SI2}
use Rattle.tables.specs.PassB.{choices_b4}
use Rattle.pass_b.specs.Promises.{PassBSeries}
use Rattle.pass.proofs.Stages as stages
use Rattle.pass_b.proofs.Turns.{series, sound4, taken_twice, si2_filterable, si2_long, si2-months, si2_3x5, si2_minusable, weighs2, weights2}
use Rattle.pass_b.proofs.replaced_si2.Goals as goal

-- a has SI2
abbrev is-si2 : {start : ℕ} {x t a : List ℤ} → PassBSeries start x → t ≡ T2 (choices_b4 start x) x → a ≡ minus x t → a ≡ SI2 (choices_b4 start x) x
is-si2 h e f = stages.to_si2 (sound4 h) (series h) e f

pub minus-requires : goal.minus-requires
minus-requires c = let h = c.args.given.now.fits in (stages.minusable2 (sound4 h) (series h) c.requires.0, c.requires.1.a_long)

pub three_by_five-requires : goal.three_by_five-requires
three_by_five-requires c = let h = c.args.given.now.fits in let e = is-si2 h c.requires.0 c.minus.ensures in
    (si2-months h e, omega (arith, h.long), omega (arith, c.requires.1.b_long, si2_long h e))

pub weigh-requires : goal.weigh-requires
weigh-requires c = let h = c.args.given.now.fits in let e = is-si2 h c.requires.0 c.minus.ensures in let s = c.requires.1 in
    weighs2 h e (si2_3x5 h e c.three_by_five.ensures s.b_long) s.t_long s.s_long s.w_long

pub replace-requires : goal.replace-requires
replace-requires c = let h = c.args.given.now.fits in let e = is-si2 h c.requires.0 c.minus.ensures in let s = c.requires.1 in
    (si2_filterable h e, omega (arith, s.w_long, si2_long h e, c.weigh), omega (arith, s.b_long, si2_long h e, c.three_by_five, c.weigh))

pub minus-requires-2 : goal.minus-requires-2
minus-requires-2 c = let h = c.args.given.now.fits in (si2_minusable h (is-si2 h c.requires.0 c.minus.ensures), omega (arith, c.requires.1.t_long, c.weigh))

pub returns : goal.returns
returns c = let h = c.args.given.now.fits in let e = is-si2 h c.requires.0 c.minus.ensures in let s = c.requires.1 in record {
  si2 = c.replace.ensures ∙ ap₂ (replaced_by months_of_year) (weights2 h e (si2_3x5 h e c.three_by_five.ensures s.b_long) c.weigh.ensures) e;
  trend = c.minus-2.ensures ∙ ap (minus c.args.given.now.x.now) c.minus.ensures ∙ taken_twice c.args.given.now.x.now c.args.t.now s.t_long ∙ c.requires.0;
}
