-- `three_passes::three_passes` meets its contract: the first n entries of the scratch hold D1, and its first 5n are zeroed at the end.
use Prim.Native.Nat.{ℕ, ◌≤◌}
use mathlib.Core.Path.{◌≡◌, sym, ◌∙◌}
use mathlib.Core.List.{List, ◌++◌}
use native.Mathlib.Omega.{arith}
use lib.ListN.{length, take, drop}
use lib.IntN.{ℤ}
use Rattle.integers.proofs.Fronts.{front_long, front_back, front_kept}
use Rattle.scratch.specs.Scratch.{scratch_for, zeroed}
use Rattle.scratch.proofs.ScratchLaws.{front-zeroed}
use Rattle.three_passes.proofs.Passes.{final, measurable, final_terms_lem, choosable, final_seasonal, final_d}
use Rattle.three_passes.proofs.three_passes.Goals as goal

-- x is at the front of the scratch, which is long enough
module _ (n : ℕ) (scratch x : List ℤ) (room : scratch_for n ≤ length scratch) (same : length x ≡ length (take n scratch)) where
  long : n ≤ length scratch
  long = omega arith

  back : {d1 : List ℤ} → x ≡ d1 → take n (x ++ drop n scratch) ≡ d1
  back e = front_back n scratch long x same ∙ e

  kept : length (x ++ drop n scratch) ≡ length scratch
  kept = front_kept n scratch long x same

  cleared : zeroed n (x ++ drop n scratch) ≡ zeroed n scratch
  cleared = front-zeroed n scratch long x same

pub corrected_series-requires : goal.corrected_series-requires
corrected_series-requires c = let s = c.requires in
    (s.1, sym (front_long (length c.args.figures.now) c.args.scratch.now (omega (arith, s.3))), s.2)

pub chosen_filter-chosen-requires : goal.chosen_filter-chosen-requires
chosen_filter-chosen-requires c = choosable c.requires.0 c.corrected_series.ensures.choice_tables

pub trend_length-terms-requires : goal.trend_length-terms-requires
trend_length-terms-requires c = measurable c.requires.0 c.corrected_series.ensures.choice_tables

pub final_tables-requires : goal.final_tables-requires
final_tables-requires c = let s = c.requires in let g = c.corrected_series in (
  final s.0 (back (length c.args.figures.now) c.args.scratch.now _ s.3 g.auto.x g.ensures.series),
  record { a_long = omega (arith, s.1, g); b_long = omega (arith, s.1, g); t_long = omega (arith, s.1, g); s_long = omega (arith, s.1, g) },
)

pub clear-requires : goal.clear-requires
clear-requires c = let s = c.requires in (s.0.figures.short, omega (arith, kept (length c.args.figures.now) c.args.scratch.now _ s.3 c.corrected_series.auto.x, s.3))

pub returns : goal.returns
returns c = let s = c.requires in let g = c.corrected_series in let e = g.ensures in
    let d = final_d c.args.start c.args.figures.now (final_seasonal s.0 e.choice_tables c.chosen_filter-chosen.ensures) (final_terms_lem s.0 e.choice_tables c.trend_length-terms.ensures) (back (length c.args.figures.now) c.args.scratch.now _ s.3 g.auto.x e.series) c.final_tables.ensures in
    record { d10_is = d.0; d11_is = d.1; d12_is = d.2; d13_is = d.3; b17_is = e.b17_is; c17_is = e.c17_is; scratch_is = c.clear.ensures ∙ cleared (length c.args.figures.now) c.args.scratch.now _ s.3 g.auto.x }
