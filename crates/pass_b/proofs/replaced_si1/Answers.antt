-- `pass_b::replaced_si1` meets its contract: SI1, its weights, and its values replaced by them.
use Prim.Native.Nat.{ℕ, ◌-◌, ◌≤◌}
use mathlib.Core.Path.{◌≡◌, sym, ap, ap₂, ◌∙◌}
use mathlib.Core.List.{List, ◌++◌}
use native.Mathlib.Omega.{arith}
use lib.ListN.{length, take, drop}
use lib.IntN.{ℤ, pos}
use Rattle.integers.specs.Filling.{Filled}
use Rattle.integers.proofs.FillingLaws.{filled_as, filled_again}
use Rattle.integers.proofs.Parts.{part_long, part_kept, part_back, part_filled}
use Rattle.refusals.specs.Limits.{months_of_year}
use Rattle.rows.specs.declared.SeasonalFilter.TheVariants.{ThreeByThree}
use Rattle.rows.specs.FilterTables.{table2x12, table_seasonal}
use Rattle.filters.specs.Filter.{value_at, filter}
use Rattle.replacing.specs.Replaced.{replaced_by}
use Rattle.steps.specs.Choices.{plain_monthly}
use Rattle.steps.specs.Places.{at_month}
use Rattle.steps.specs.ByMonth.{Stands}
use Rattle.steps.specs.Steps.{SI1}
use Rattle.tables.specs.PassB.{start_b4, weights_b4}
use Rattle.extremes.specs.Weighing.{weights_of}
use Rattle.series.specs.Operations.{minus}
use Rattle.pass.specs.Promises.{without_level}
use Rattle.pass_b.specs.Promises.{PassBSeries}
use Rattle.pass_b.proofs.Turns.{si1_stands, si1-months, si1_part, si1_3x3, si1_filterable, weighs1, weights1}
use Rattle.pass_b.proofs.replaced_si1.Goals as goal

-- a slice of n months with its lent part back: y as it was lent, z what came back
abbrev back : {A : Type 0} → ℕ → List A → List A → List A
back n y z = take 6 y ++ (z ++ drop (n - 6 - 6) (drop 6 y))

-- b has SI1 at its own months, and a its 3×3; b₀ and a₀ are what they were before
module _ {start : ℕ} {x b₀ b a₀ a : List ℤ} (h : PassBSeries start x) (f : Filled (pos 0) (at_month 6 (SI1 plain_monthly x)) 6 (length x - 6) b₀ b) (l : length b₀ ≡ length x)
    (r : Filled (pos 0) (value_at (table_seasonal ThreeByThree) 6 (length x - 6) b) 6 (length x - 6) a₀ a) (m : length a₀ ≡ length x) where
  order : 6 ≤ length x - 6
  order = omega (arith, h.long)

  -- how long the lent part of a slice of n months is
  lent : {A : Type 0} (y : List A) → length y ≡ length x → length (take (length x - 6 - 6) (drop 6 y)) ≡ length x - 12
  lent y e = part_long 6 (length x - 6) y order (omega (arith, e)) ∙ omega arith

  stands : Stands 6 (length x) (SI1 plain_monthly x) b
  stands = si1_stands h f l

  is-si1 : take (length x - 6 - 6) (drop 6 b) ≡ SI1 plain_monthly x
  is-si1 = si1_part h stands

  is-3x3 : take (length x - 6 - 6) (drop 6 a) ≡ filter (table_seasonal ThreeByThree) (take (length x - 6 - 6) (drop 6 b))
  is-3x3 = si1_3x3 h stands r m ∙ ap (filter (table_seasonal ThreeByThree)) (sym is-si1)

  -- a and w have their lent parts back, a₁ and w₁, and w the weights
  module _ (a₁ : List ℤ) (w w₁ : List ℕ) (i : length a₁ ≡ length (take (length x - 6 - 6) (drop 6 a))) (j : length w ≡ length x) (k : length w₁ ≡ length (take (length x - 6 - 6) (drop 6 w))) where
    a-filled : Filled (pos 0) (at_month 6 a₁) 6 (length x - 6) a (back (length x) a a₁)
    a-filled = part_filled 6 (length x - 6) a order (omega (arith, r.long, m)) a₁ i (pos 0)

    a-back : length (back (length x) a a₁) ≡ length x
    a-back = a-filled.long ∙ r.long ∙ m

    w-back : length (back (length x) w w₁) ≡ length x
    w-back = part_kept 6 (length x - 6) w order (omega (arith, j)) w₁ k ∙ j

    module _ (e : w₁ ≡ weights_of (start_b4 start) months_of_year (minus (take (length x - 6 - 6) (drop 6 b)) (without_level 6 table2x12 (take (length x - 6 - 6) (drop 6 a))))) where
      is-weights : take (length x - 6 - 6) (drop 6 (back (length x) w w₁)) ≡ weights_b4 start x
      is-weights = part_back 6 (length x - 6) w order (omega (arith, j)) w₁ k ∙ weights1 h is-si1 is-3x3 e

      -- SI1 replaced, z, at its own months, and the rest of a as it was before the first call, in a₂
      replaced : {f₁ : ℕ → ℤ} {a₂ z : List ℤ} → Filled (pos 0) f₁ 6 (length x - 6) a₂ a₀ → length z ≡ length (take (length x - 6 - 6) (drop 6 (back (length x) a a₁)))
          → z ≡ replaced_by months_of_year (take (length x - 6 - 6) (drop 6 (back (length x) w w₁))) (take (length x - 6 - 6) (drop 6 b))
          → Filled (pos 0) (at_month 6 (replaced_by months_of_year (weights_b4 start x) (SI1 plain_monthly x))) 6 (length x - 6) a₂ (back (length x) (back (length x) a a₁) z)
      replaced {z = z} g o p = filled_again g (filled_again r (filled_again a-filled
          (filled_as (part_filled 6 (length x - 6) (back (length x) a a₁) order (omega (arith, a-back)) z o (pos 0))
          (λ t _ _. ap (λ (y : List ℤ). at_month 6 y t) (p ∙ ap₂ (replaced_by months_of_year) is-weights is-si1)))))

pub three_by_three-requires : goal.three_by_three-requires
three_by_three-requires c = let h = c.args.given.now.fits in
    (si1-months h (si1_stands h c.first_si.ensures.1 c.requires.b_long), omega (arith, h.long), omega (arith, c.requires, c.first_si))

pub weigh-requires : goal.weigh-requires
weigh-requires c = let h = c.args.given.now.fits in let f = c.first_si.ensures.1 in let l = c.requires.b_long in let r = c.three_by_three.ensures in
    let m : length c.first_si.new.t1 ≡ length c.args.given.now.x.now = omega (arith, c.requires, c.first_si) in
    weighs1 h (is-si1 h f l r m) c.month_of-start_b4.ensures.1 c.month_of-start_b4.ensures.2 (is-3x3 h f l r m) (lent h f l r m c.args.t.now c.requires.t_long) (lent h f l r m c.args.s.now c.requires.s_long) (lent h f l r m c.args.w.now c.requires.w_long)

pub replace-requires : goal.replace-requires
replace-requires c = let h = c.args.given.now.fits in let f = c.first_si.ensures.1 in let l = c.requires.b_long in let r = c.three_by_three.ensures in
    let m : length c.first_si.new.t1 ≡ length c.args.given.now.x.now = omega (arith, c.requires, c.first_si) in
    let i : length c.weigh.new.r ≡ length (take (length c.args.given.now.x.now - 6 - 6) (drop 6 c.three_by_three.new.out)) = omega (arith, c.weigh) in
    let k : length c.weigh.new.w ≡ length (take (length c.args.given.now.x.now - 6 - 6) (drop 6 c.args.w.now)) = omega (arith, c.weigh) in
    let b = lent h f l r m c.first_si.new.si (stands h f l r m).long in
    (si1_filterable h (is-si1 h f l r m), lent h f l r m _ (w-back h f l r m c.weigh.new.r c.args.w.now c.weigh.new.w i c.requires.w_long k) ∙ sym b, lent h f l r m _ (a-back h f l r m c.weigh.new.r c.args.w.now c.weigh.new.w i c.requires.w_long k) ∙ sym b)

pub shape_of-a : goal.shape_of-a
shape_of-a c = let h = c.args.given.now.fits in let f = c.first_si.ensures.1 in let l = c.requires.b_long in let r = c.three_by_three.ensures in
    let m : length c.first_si.new.t1 ≡ length c.args.given.now.x.now = omega (arith, c.requires, c.first_si) in
    let i : length c.weigh.new.r ≡ length (take (length c.args.given.now.x.now - 6 - 6) (drop 6 c.three_by_three.new.out)) = omega (arith, c.weigh) in
    let k : length c.weigh.new.w ≡ length (take (length c.args.given.now.x.now - 6 - 6) (drop 6 c.args.w.now)) = omega (arith, c.weigh) in
    (replaced h f l r m c.weigh.new.r c.args.w.now c.weigh.new.w i c.requires.w_long k (rw c.month_of-start_b4.ensures.0 at c.weigh.ensures) c.first_si.ensures.0 (omega (arith, c.replace)) c.replace.ensures).long

pub shape_of-b : goal.shape_of-b
shape_of-b c = c.first_si.ensures.1.long

pub returns : goal.returns
returns c = let h = c.args.given.now.fits in let f = c.first_si.ensures.1 in let l = c.requires.b_long in let r = c.three_by_three.ensures in
    let m : length c.first_si.new.t1 ≡ length c.args.given.now.x.now = omega (arith, c.requires, c.first_si) in
    let i : length c.weigh.new.r ≡ length (take (length c.args.given.now.x.now - 6 - 6) (drop 6 c.three_by_three.new.out)) = omega (arith, c.weigh) in
    let k : length c.weigh.new.w ≡ length (take (length c.args.given.now.x.now - 6 - 6) (drop 6 c.args.w.now)) = omega (arith, c.weigh) in
    replaced h f l r m c.weigh.new.r c.args.w.now c.weigh.new.w i c.requires.w_long k (rw c.month_of-start_b4.ensures.0 at c.weigh.ensures) c.first_si.ensures.0 (omega (arith, c.replace)) c.replace.ensures
