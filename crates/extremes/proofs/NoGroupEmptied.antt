-- METHOD 5.8: in no group is every month dropped.
use Prim.Native.Nat.{ℕ, zero, suc, ◌+◌, ◌*◌, ◌/◌, ◌≤◌, ◌<◌}
use mathlib.Core.Path.{refl}
use mathlib.Core.Bool.{Bool, true, false, cond}
use mathlib.Core.List.{List, [], ◌∷◌}
use native.Mathlib.Nat.{mul-le-mul, suc-mul, le-div_iff_mul-le}
use native.Mathlib.Decide.{dec_le}
use native.Mathlib.Omega.{arith}
use lib.Dec.{ltb}
use lib.ListN.{length, get_or}
use borrow.Author.Tests.{le-ltb}
use Rattle.integers.specs.Lists.{tab_from, tab}
use Rattle.integers.specs.Root.{or_one_more, root_in, root}
use Rattle.integers.proofs.RootLaws.{root_is}
use Rattle.extremes.specs.Spreads.{sizes_of, squares, spread, keep, limit_of, remaining}
use Rattle.extremes.specs.NoGroupEmptied.{Among, Smallest, SmallestStays, NoGroupEmptied, MonthsThatStay}
use Rattle.extremes.proofs.HeldSizes.{length-sizes_of}
use Rattle.extremes.proofs.GroupMonths.{group-some}

-- not every size is above the first spread: the mean of the squares, and with it the spread, would be larger
squares-least : (b : ℕ) (g : List ℕ) → ((t : ℕ) → t < length g → b ≤ get_or g t 0) → length g * (b * b) ≤ squares g
unfolding squares
squares-least b [] h = omega arith
squares-least b (a ∷ g) h =
    let l = h 0 (omega arith) in
    omega (arith, mul-le-mul l l, squares-least b g (λ t k. h (suc t) (omega arith)), suc-mul (length g) (b * b))

not-all-above : (g : List ℕ) → 0 < length g → ((t : ℕ) → t < length g → spread g + 1 ≤ get_or g t 0) → ⊥
unfolding spread
not-all-above g l h =
    let q : (spread g + 1) * (spread g + 1) ≤ squares g / length g = (le-div_iff_mul-le l).1 (omega (arith, squares-least (spread g + 1) g h)) in
    omega (arith, (root_is (squares g / length g)).greatest (spread g + 1) q)

-- ---- among the sizes: the first, or one of the others
among_first : (a : ℕ) (g : List ℕ) → Among a (a ∷ g)
among_first a g = record { place = 0; inside = omega arith; there = refl }

among_later : {a b : ℕ} {g : List ℕ} → Among a g → Among a (b ∷ g)
among_later k = record { place = suc k.place; inside = omega (arith, k.inside); there = k.there }

-- ---- a group that has months has a smallest size
record HasSmallest (g : List ℕ) : Type 0 where
  size : ℕ
  smallest : Smallest size g

has_this : {s : ℕ} (a : ℕ) (g : List ℕ) → Among s (a ∷ g) → s ≤ a → ((i : ℕ) → i < length g → s ≤ get_or g i 0) → HasSmallest (a ∷ g)
has_this {s} a g k h l = record { size = s; smallest = record { among = k; least = each } }
  where
    each : (i : ℕ) → i < suc (length g) → s ≤ get_or (a ∷ g) i 0
    each zero m = h
    each (suc i) m = l i (omega arith)

one_more : (a : ℕ) (g : List ℕ) (r : HasSmallest g) → Dec (a ≤ r.size) → HasSmallest (a ∷ g)
one_more a g r (yes h) = has_this a g (among_first a g) (omega arith) (λ i l. omega (arith, r.smallest.least i l))
one_more a g r (no h) = has_this a g (among_later r.smallest.among) (omega arith) r.smallest.least

has_smallest : (a : ℕ) (g : List ℕ) → HasSmallest (a ∷ g)
has_smallest a [] = has_this a [] (among_first a []) (omega arith) (λ i l. absurd (omega arith))
has_smallest a (b ∷ g) = let r = has_smallest b g in one_more a (b ∷ g) r (dec_le a r.size)

-- ---- a size whose double does not exceed the limit is among those that stay
kept_at : (limit : ℕ) (g : List ℕ) (i : ℕ) → i < length g → 2 * get_or g i 0 ≤ limit → Among (get_or g i 0) (keep limit g)
unfolding keep
kept_at limit [] i h l = absurd (omega arith)
kept_at limit (a ∷ g) zero h l = rw (le-ltb limit (2 * a) l) (among_first a (keep limit g))
kept_at limit (a ∷ g) (suc i) h l = go (ltb limit (2 * a)) (kept_at limit g i (omega arith) l)
  where
    go : (b : Bool) → Among (get_or g i 0) (keep limit g) → Among (get_or g i 0) (cond b (keep limit g) (a ∷ keep limit g))
    go true k = k
    go false k = among_later k

kept_among : {limit a : ℕ} {g : List ℕ} → Among a g → 2 * a ≤ limit → Among a (keep limit g)
kept_among {limit} {a} {g} k l = rw k.there at (kept_at limit g k.place k.inside (omega (arith, k.there)))

-- ---- the smallest
module _ (g : List ℕ) (h : 0 < length g) (r : HasSmallest g) where
  low : r.size ≤ spread g
  low = go (dec_le r.size (spread g))
    where
      go : Dec (r.size ≤ spread g) → r.size ≤ spread g
      go (yes l) = l
      go (no l) = absurd (not-all-above g h (λ i m. omega (arith, r.smallest.least i m)))

  -- its double does not exceed five times the first spread
  low_stays : 2 * r.size ≤ limit_of g
  unfolding limit_of
  low_stays = omega (arith, low)

  stays : Among r.size (remaining g)
  unfolding remaining
  stays = kept_among r.smallest.among low_stays

  all_said : SmallestStays g
  all_said = record { size = r.size; smallest = r.smallest; low = low; stays = stays; some = omega (arith, stays.inside) }

pub smallest_stays : (g : List ℕ) → 0 < length g → SmallestStays g
smallest_stays [] h = absurd (omega arith)
smallest_stays (a ∷ g) h = all_said (a ∷ g) h (has_smallest a g)

pub no-group-emptied : NoGroupEmptied
no-group-emptied start period x early late least =
    record { each = λ y. smallest_stays _ (group-some (sizes_of x) start period (length-sizes_of x) early late least y) }

-- the examples, by computation
pub months-that-stay : MonthsThatStay
unfolding tab_from tab or_one_more root_in root squares spread keep limit_of remaining
months-that-stay = record { first_of_sevens = refl; sevens_stay = refl; first_of_ones = refl; zero_stays = refl }
