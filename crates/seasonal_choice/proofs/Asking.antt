-- The question asked again with a year set aside.
use mathlib.Core.Path.{◌≡◌, refl, sym, ap, ap₂, ◌∙◌}
use mathlib.Core.List.{List}
use Prim.Native.Nat.{ℕ, zero, suc, ◌+◌, ◌*◌, ◌-◌, ◌≤◌}
use native.Mathlib.Nat.{mul-le-mul_left, mul-add}
use native.Mathlib.Omega.{arith}
use lib.ListN.{length, take, length-take}
use lib.IntN.{ℤ}
use Rattle.std.specs.Prelude.{Option, None, Some}
use Rattle.integers.proofs.Fronts.{front_long}
use Rattle.series.specs.Operations.{changes}
use Rattle.series.proofs.Largest.{within_front}
use Rattle.series.proofs.ChangeLaws.{changes-split, changes-front}
use Rattle.rows.specs.declared.SeasonalFilter.{SeasonalFilter}
use Rattle.rows.specs.declared.SeasonalFilter.TheVariants.{ThreeByFive}
use Rattle.seasonal_choice.specs.SeasonalChoice.{year_changes, decide, year_off, ask}
use Rattle.seasonal_choice.specs.Promises.{MonthsKept}

-- ---- the three ways on, by what the sums decide
module _ (p : ℕ) (irregular seasonal : List ℤ) where
  abbrev decision : Option SeasonalFilter
  decision = decide (year_changes p irregular) (year_changes p seasonal)

  decided_is : (tries : ℕ) {f : SeasonalFilter} → Some f ≡ decision → f ≡ ask p tries irregular seasonal
  unfolding ask
  decided_is zero e = rw (← e)
  decided_is (suc k) e = rw (← e)

  last_is : (tries : ℕ) → None ≡ decision → tries ≡ 0 → ThreeByFive ≡ ask p tries irregular seasonal
  unfolding ask
  last_is zero e z = rw (← e)
  last_is (suc k) e z = absurd (omega arith)

  again_is : (tries : ℕ) → None ≡ decision → (tries ≡ 0 → ⊥) → ask p (tries - 1) (year_off p irregular) (year_off p seasonal) ≡ ask p tries irregular seasonal
  unfolding ask
  again_is zero e z = absurd (z refl)
  again_is (suc k) e z = let d : suc k - 1 ≡ k = omega arith in rw (← e, d)

-- ---- a year set aside: what its changes bring to the sum, and the sum of the rest
changes-off : (p : ℕ) (x : List ℤ) → 2 * p ≤ length x → year_changes p (year_off p x) + changes x p (length x - p) p ≡ year_changes p x
unfolding year_changes year_off
changes-off p x h =
    let n = length x in
    let a : length (take (n - p) x) - p ≡ n - 2 * p = omega (arith, length-take (n - p) x) in
    let b : p + (n - 2 * p) ≡ n - p = omega arith in
    let c : n - 2 * p + p ≡ n - p = omega arith in
    ap (λ (m : ℕ). m + changes x p (n - p) p) (ap (changes (take (n - p) x) p p) a ∙ changes-front x p p (n - p) (n - 2 * p) (omega arith))
    ∙ ap (λ (m : ℕ). changes x p p (n - 2 * p) + changes x p m p) (sym b) ∙ sym (changes-split x p p (n - 2 * p) p) ∙ ap (changes x p p) c

-- ---- the same of the months kept, as the code has them

-- the changes into the last p of n months, as many as x has
abbrev last_changes : ℕ → ℕ → List ℤ → ℕ
last_changes p n x = changes x p (n - p) (length x - (n - p))

module _ {p : ℕ} {irregular seasonal : List ℤ} {i s tries : ℕ} (k : MonthsKept p irregular seasonal i s tries) where
  decision_is : {v : Option SeasonalFilter} → v ≡ decide i s → v ≡ decision p irregular seasonal
  decision_is e = e ∙ ap₂ decide k.i_is k.s_is

  pub decided : {v : Option SeasonalFilter} {f : SeasonalFilter} → v ≡ decide i s → v ≡ Some f → f ≡ ask p tries irregular seasonal
  decided e g = decided_is p irregular seasonal tries (sym g ∙ decision_is e)

  pub given_up : {v : Option SeasonalFilter} → v ≡ decide i s → v ≡ None → tries ≡ 0 → ThreeByFive ≡ ask p tries irregular seasonal
  given_up e g z = last_is p irregular seasonal tries (sym g ∙ decision_is e) z

  same_off : take (length irregular - p) seasonal ≡ year_off p seasonal
  unfolding year_off
  same_off = rw k.both.same

  kept_long : length irregular - p ≡ length (take (length irregular - p) irregular)
  kept_long = front_long (length irregular - p) irregular (omega arith)

  -- ---- a question more is left
  module _ (more : tries ≡ 0 → ⊥) where
    -- one for the months kept and one to set aside
    pub two-years : 2 * p ≤ length irregular
    two-years = let l : 1 ≤ tries = omega (arith, more) in omega (arith, k.long, mul-le-mul_left p l)

    -- what the last year brings to a sum, and the rest
    off : (x : List ℤ) → length x ≡ length irregular → {sum c : ℕ} → sum ≡ year_changes p x → c ≡ last_changes p (length irregular) x
        → (c ≤ sum) × (sum - c ≡ year_changes p (year_off p x))
    off x e f g =
        let n = length irregular in
        let a : length x - (n - p) ≡ p = omega (arith, e, two-years) in
        let h = rw e at (changes-off p x (omega (arith, two-years, e))) in
        omega (arith, h, f, g ∙ ap (changes x p (n - p)) a)

    pub less_i : {c : ℕ} → c ≡ last_changes p (length irregular) irregular → (c ≤ i) × (i - c ≡ year_changes p (year_off p irregular))
    less_i e = off irregular refl k.i_is e

    pub less_s : {c : ℕ} → c ≡ last_changes p (length irregular) seasonal → (c ≤ s) × (s - c ≡ year_changes p (year_off p seasonal))
    less_s e = off seasonal k.both.same k.s_is e

    pub next : {c d : ℕ} → c ≡ last_changes p (length irregular) irregular → d ≡ last_changes p (length irregular) seasonal
        → MonthsKept p (take (length irregular - p) irregular) (take (length irregular - p) seasonal) (i - c) (s - d) (tries - 1)
    unfolding year_off
    next e f = record {
      both = record {
        short = omega (arith, kept_long, k.both.short);
        same = sym (front_long (length irregular - p) seasonal (omega (arith, k.both.same))) ∙ kept_long;
        irregular_small = within_front (length irregular - p) k.both.irregular_small;
        seasonal_small = within_front (length irregular - p) k.both.seasonal_small;
      };
      long = let l : tries - 1 + 1 ≡ tries = omega (arith, more) in rw l (omega (arith, kept_long, k.long, mul-add p tries 1));
      i_is = (less_i e).1;
      s_is = (less_s f).1 ∙ ap (year_changes p) (sym same_off);
      i_most = omega (arith, k.i_most);
      s_most = omega (arith, k.s_most);
    }

    pub asked_again : {v : Option SeasonalFilter} {r : SeasonalFilter} → v ≡ decide i s → v ≡ None → r ≡ ask p (tries - 1) (take (length irregular - p) irregular) (take (length irregular - p) seasonal)
        → r ≡ ask p tries irregular seasonal
    unfolding year_off
    asked_again e g h = h ∙ ap (ask p (tries - 1) (year_off p irregular)) same_off ∙ again_is p irregular seasonal tries (sym g ∙ decision_is e) more
