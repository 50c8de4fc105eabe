-- Sums over the months of a group, and what dropping leaves of it.
use Prim.Native.Nat.{ℕ, suc, ◌+◌, ◌*◌, ◌-◌, ◌/◌, ◌≤◌, ◌<◌}
use mathlib.Core.Path.{◌≡◌, refl, sym, ap, ◌∙◌}
use mathlib.Core.Bool.{Bool, true, false, cond}
use mathlib.Core.List.{List, [], ◌∷◌}
use native.Mathlib.Nat.{mul-le-mul, suc-mul, div-le_of_le-mul}
use native.Mathlib.Decide.{dec_le}
use native.Mathlib.Numerals.{add-one}
use native.Mathlib.Omega.{arith}
use lib.Dec.{ltb}
use lib.ListN.{length, get_or}
use lib.Seq.{slice-cons, slice_empty, length-slice}
use borrow.Author.Tests.{lt-ltb, le-ltb}
use Rattle.integers.specs.Root.{root}
use Rattle.integers.proofs.RootLaws.{root_is}
use Rattle.extremes.specs.Years.{months}
use Rattle.extremes.specs.Spreads.{squares, spread, keep}
use Rattle.extremes.specs.Promises.{AllBelow, dropped, NextAbove}
use Rattle.extremes.proofs.ListLaws.{below_tail, below_cons, below_slice}

-- ---- the months from lo to below hi, from the first on
module _ (l : List ℕ) where
  pub months-none : (hi : ℕ) → months hi hi l ≡ []
  unfolding months
  months-none hi = slice_empty hi l

  pub months-next : (t hi : ℕ) → t < hi → hi ≤ length l → months t hi l ≡ get_or l t 0 ∷ months (t + 1) hi l
  unfolding months
  months-next t hi h k = rw (add-one, slice-cons t hi l 0 h k)

  pub length-months : (lo hi : ℕ) → hi ≤ length l → length (months lo hi l) ≡ hi - lo
  unfolding months
  length-months lo hi k = length-slice lo hi l k

pub months-below : {b : ℕ} (lo hi : ℕ) {l : List ℕ} → AllBelow b l → AllBelow b (months lo hi l)
unfolding months
months-below lo hi h = below_slice lo hi h

-- ---- what stays under a limit
keep-below : (limit b : ℕ) (g : List ℕ) → AllBelow b g → AllBelow b (keep limit g)
unfolding keep
keep-below limit b [] h = h
keep-below limit b (a ∷ g) h = go (ltb limit (2 * a)) (keep-below limit b g (below_tail h))
  where
    go : (c : Bool) → AllBelow b (keep limit g) → AllBelow b (cond c (keep limit g) (a ∷ keep limit g))
    go true i = i
    go false i = below_cons (h.at 0) i

-- ---- the sum of the squares, and the spread, of sizes that are at most b
pub squares-most : (b : ℕ) (g : List ℕ) → AllBelow b g → squares g ≤ length g * (b * b)
unfolding squares
squares-most b [] h = omega arith
squares-most b (a ∷ g) h = omega (arith, mul-le-mul (h.at 0) (h.at 0), squares-most b g (below_tail h), suc-mul (length g) (b * b))

pub spread-most : (b : ℕ) (g : List ℕ) → AllBelow b g → spread g ≤ b
unfolding spread
spread-most b g h = go (root_is (squares g / length g)).not_above (dec_le (spread g) b)
  where
    go : spread g * spread g ≤ squares g / length g → Dec (spread g ≤ b) → spread g ≤ b
    go l (yes m) = m
    go l (no m) = let k : b + 1 ≤ spread g = omega arith in absurd (omega (arith, l, mul-le-mul k k, div-le_of_le-mul (length g) (squares-most b g h)))

pub kept_most : (limit b : ℕ) (g : List ℕ) → AllBelow b g → spread (keep limit g) ≤ b
kept_most limit b g h = spread-most b (keep limit g) (keep-below limit b g h)

-- ---- what dropping takes away
-- what stays and what is dropped are the whole
kept-and-dropped : (limit : ℕ) (g : List ℕ) → (squares (keep limit g) + squares (dropped limit g) ≡ squares g) × (length (keep limit g) + length (dropped limit g) ≡ length g)
unfolding keep dropped squares
kept-and-dropped limit [] = (refl, refl)
kept-and-dropped limit (a ∷ g) = go (ltb limit (2 * a)) (kept-and-dropped limit g)
  where
    go : (c : Bool) → (squares (keep limit g) + squares (dropped limit g) ≡ squares g) × (length (keep limit g) + length (dropped limit g) ≡ length g)
        → let k = cond c (keep limit g) (a ∷ keep limit g) in let d = cond c (a ∷ dropped limit g) (dropped limit g) in
        (squares k + squares d ≡ a * a + squares g) × (length k + length d ≡ suc (length g))
    go true i = omega arith
    go false i = omega arith

-- the months from t on: month t stays, or is dropped
module _ (l : List ℕ) (t hi : ℕ) (below : t < hi) (inside : hi ≤ length l) {a : ℕ} (e : a ≡ get_or l t 0) where
  next : months t hi l ≡ a ∷ months (t + 1) hi l
  next = months-next l t hi below inside ∙ ap (λ (b : ℕ). b ∷ months (t + 1) hi l) (sym e)

  pub month-stays : {limit : ℕ} → 2 * a ≤ limit → dropped limit (months t hi l) ≡ dropped limit (months (t + 1) hi l)
  unfolding dropped
  month-stays {limit} m = ap (dropped limit) next ∙ rw (le-ltb limit (2 * a) m)

  month-dropped : {limit : ℕ} → limit < 2 * a → dropped limit (months t hi l) ≡ a ∷ dropped limit (months (t + 1) hi l)
  unfolding dropped
  month-dropped {limit} m = ap (dropped limit) next ∙ rw (lt-ltb limit (2 * a) m)

-- the code's sum and count: those of what stays of g, with the months still to be dropped, of which t is the first
pub record Dropping (limit hi : ℕ) (l g : List ℕ) (t sum count : ℕ) : Type 0 where
  pub inside : t ≤ hi
  pub above : t < hi → limit < 2 * get_or l t 0
  pub total : sum ≡ squares (keep limit g) + squares (dropped limit (months t hi l))
  pub number : count ≡ length (keep limit g) + length (dropped limit (months t hi l))

module _ (l : List ℕ) {limit hi : ℕ} (inside : hi ≤ length l) where
  pub dropping_all : {lo r sum count : ℕ} → NextAbove limit lo hi l r → sum ≡ squares (months lo hi l) → count ≡ hi - lo → Dropping limit hi l (months lo hi l) r sum count
  dropping_all {lo} h s n = let w = kept-and-dropped limit (months lo hi l) in record {
    inside = h.inside;
    above = h.above;
    total = omega (arith, w.0, ap squares h.none);
    number = omega (arith, w.1, ap length h.none, length-months l lo hi inside);
  }

  module _ {g : List ℕ} {t sum count : ℕ} (h : Dropping limit hi l g t sum count) where
    -- one month fewer
    module _ {a : ℕ} (below : t < hi) (e : a ≡ get_or l t 0) where
      pub one_dropped : (sum ≡ a * a + (squares (keep limit g) + squares (dropped limit (months (t + 1) hi l)))) × (count ≡ 1 + (length (keep limit g) + length (dropped limit (months (t + 1) hi l))))
      unfolding squares
      one_dropped =
          let m : limit < 2 * a = omega (arith, h.above below) in
          let k = month-dropped l t hi below inside e m in
          (omega (arith, ap squares k, h.total), omega (arith, ap length k, h.number))

      pub dropping_next : {r : ℕ} → NextAbove limit (t + 1) hi l r → Dropping limit hi l g r (sum - a * a) (count - 1)
      dropping_next k = record {
        inside = k.inside;
        above = k.above;
        total = omega (arith, one_dropped.0, ap squares k.none);
        number = omega (arith, one_dropped.1, ap length k.none);
      }

    pub dropping_done : hi ≤ t → (sum ≡ squares (keep limit g)) × (count ≡ length (keep limit g))
    unfolding dropped squares
    dropping_done m =
        let e : t ≡ hi = omega (arith, h.inside) in
        let k = ap (λ (u : ℕ). dropped limit (months u hi l)) e ∙ ap (dropped limit) (months-none l hi) in
        (omega (arith, h.total, ap squares k), omega (arith, h.number, ap length k))

-- ---- a spread by a sum and a count
pub spread-is : (g : List ℕ) {r sum count : ℕ} → sum ≡ squares g → count ≡ length g → r ≡ root (sum / count) → r ≡ spread g
unfolding spread
spread-is g d e f = cc
