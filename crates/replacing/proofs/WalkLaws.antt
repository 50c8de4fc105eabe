-- Walking along a month's run: the list of a place begins with the next place of weight 1,000 and goes on as the list of that place.
use mathlib.Core.Path.{◌≡◌, refl, ap, ◌∙◌}
use mathlib.Core.List.{List, [], ◌∷◌}
use Prim.Native.Nat.{ℕ, zero, suc, ◌+◌, ◌*◌, ◌-◌, ◌/◌, ◌≤◌, ◌<◌}
use native.Mathlib.Nat.{div-eq-sub-div, div-eq_of_lt}
use native.Mathlib.Numerals.{add-one}
use native.Mathlib.Omega.{arith}
use lib.ListN.{length}
use Rattle.std.specs.Prelude.{true, false, Some, None}
use Rattle.integers.specs.Lists.{tab_from, tab}
use Rattle.replacing.specs.Neighbours.{of_full_weight, run_before, run_after, full_before, full_after}
use Rattle.replacing.specs.Promises.{is_full, Back, Ahead}

-- ---- a list by places, from its second place on
tab_on : (lo m : ℕ) (f g : ℕ → ℕ) → ((i : ℕ) → f (suc i) ≡ g i) → tab_from (suc lo) m f ≡ tab_from lo m g
unfolding tab_from
tab_on lo zero f g e = refl
tab_on lo (suc m) f g e = rw (e lo, tab_on (suc lo) m f g e)

tab-first : (m k : ℕ) (f g : ℕ → ℕ) → m ≡ suc k → ((i : ℕ) → f (suc i) ≡ g i) → tab m f ≡ f 0 ∷ tab k g
unfolding tab tab_from
tab-first m k f g h e = rw h (ap (λ (l : List ℕ). f 0 ∷ l) (tab_on 0 k f g e))

-- ---- what the weight of a place tells
full-weight : (w : List ℕ) (p : ℕ) (ps : List ℕ) → is_full w p ≡ true → of_full_weight w (p ∷ ps) ≡ p ∷ of_full_weight w ps
unfolding of_full_weight
full-weight w p ps e = rw e

other-weight : (w : List ℕ) (p : ℕ) (ps : List ℕ) → is_full w p ≡ false → of_full_weight w (p ∷ ps) ≡ of_full_weight w ps
unfolding of_full_weight
other-weight w p ps e = rw e

-- ---- the walk from t to p so far, past no place of weight 1,000
pub record GoneBack (period : ℕ) (w : List ℕ) (t p : ℕ) : Type 0 where
  pub same : full_before period w t ≡ full_before period w p
  pub order : p ≤ t

pub record GoneAhead (period : ℕ) (w : List ℕ) (t p : ℕ) : Type 0 where
  pub same : full_after period w t ≡ full_after period w p
  pub order : t ≤ p

module _ {period : ℕ} {w : List ℕ} {t : ℕ} where
  pub back_start : GoneBack period w t t
  back_start = record { same = refl; order = omega arith }

  pub ahead_start : GoneAhead period w t t
  ahead_start = record { same = refl; order = omega arith }

-- ---- one step along a run, between p and q
module _ {period : ℕ} (some : 0 < period) where
  before_step : (p q : ℕ) → p ≡ q + period → run_before period p ≡ q ∷ run_before period q
  unfolding run_before
  before_step p q h = tab-first (p / period) (q / period) (λ i. p - (i + 1) * period) (λ i. q - (i + 1) * period)
      (div-eq-sub-div {m = period} {n = p} some (omega arith) ∙ add-one ((p - period) / period) ∙ ap (λ (r : ℕ). suc (r / period)) (omega arith)) (λ i. omega arith)
      ∙ ap (λ (r : ℕ). r ∷ run_before period q) (omega arith)

  before_end : (p : ℕ) → p < period → run_before period p ≡ []
  unfolding run_before tab tab_from
  before_end p h = rw (div-eq_of_lt h)

  after_step : (n p q : ℕ) → p + period ≡ q → q < n → run_after period n p ≡ q ∷ run_after period n q
  unfolding run_after
  after_step n p q e h = tab-first ((n - 1 - p) / period) ((n - 1 - q) / period) (λ i. p + (i + 1) * period) (λ i. q + (i + 1) * period)
      (div-eq-sub-div {m = period} {n = n - 1 - p} some (omega arith) ∙ add-one ((n - 1 - p - period) / period) ∙ ap (λ (r : ℕ). suc (r / period)) (omega arith)) (λ i. omega arith)
      ∙ ap (λ (r : ℕ). r ∷ run_after period n q) (omega arith)

  after_end : (n p : ℕ) → n ≤ p + period → run_after period n p ≡ []
  unfolding run_after tab tab_from
  after_end n p h = let l : n - 1 - p < period = omega arith in rw (div-eq_of_lt l)

  -- ---- the walk back, from t to p so far
  module _ {w : List ℕ} {t p : ℕ} (g : GoneBack period w t p) where
    pub back_more : (q : ℕ) → p ≡ q + period → is_full w q ≡ false → GoneBack period w t q
    unfolding full_before
    back_more q h k = record { same = g.same ∙ ap (of_full_weight w) (before_step p q h) ∙ other-weight w q (run_before period q) k; order = omega (arith, g.order) }

    pub back_found : (q : ℕ) → p ≡ q + period → is_full w q ≡ true → Back period w t (Some q)
    unfolding full_before
    back_found q h k = record { same = g.same ∙ ap (of_full_weight w) (before_step p q h) ∙ full-weight w q (run_before period q) k; side = omega (arith, g.order) }

    pub back_none : p < period → Back period w t None
    unfolding full_before of_full_weight
    back_none h = record { same = g.same ∙ ap (of_full_weight w) (before_end p h); side = tt }

  -- ---- the walk ahead
  module _ {w : List ℕ} {t p : ℕ} (g : GoneAhead period w t p) where
    pub ahead_more : (q : ℕ) → p + period ≡ q → q < length w → is_full w q ≡ false → GoneAhead period w t q
    unfolding full_after
    ahead_more q e h k = record { same = g.same ∙ ap (of_full_weight w) (after_step (length w) p q e h) ∙ other-weight w q (run_after period (length w) q) k; order = omega (arith, g.order) }

    pub ahead_found : (q : ℕ) → p + period ≡ q → q < length w → is_full w q ≡ true → Ahead period w t (Some q)
    unfolding full_after
    ahead_found q e h k = record { same = g.same ∙ ap (of_full_weight w) (after_step (length w) p q e h) ∙ full-weight w q (run_after period (length w) q) k; side = (omega (arith, g.order), h) }

    pub ahead_none : length w ≤ p + period → Ahead period w t None
    unfolding full_after of_full_weight
    ahead_none h = record { same = g.same ∙ ap (of_full_weight w) (after_end (length w) p h); side = tt }
