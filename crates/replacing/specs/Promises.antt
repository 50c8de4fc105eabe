-- What the code asks of its arguments, and what it hands on. Nothing here is promised to a caller of the desk.
use Rattle.std.specs.Prelude.{◌≡◌, Bool, cond, List, [], ◌∷◌, ℕ, ◌-◌, ◌<◌, leb, eqb, length, get_or, ℤ, Option, Some, None, IfSome}
use Rattle.filters.specs.Promises.{Filterable}
use Rattle.refusals.specs.Limits.{full_weight}
use Rattle.replacing.specs.Neighbours.{full_before, full_after}
use Rattle.replacing.specs.Replaced.{sum_at}

-- the values of a table, and as many weights
pub record TableWeighed (x : List ℤ) (w : List ℕ) : Type 0 where
  pub filterable : Filterable x
  pub long : length w ≡ length x

-- whether a place has weight 1,000
abbrev pub is_full : List ℕ → ℕ → Bool
is_full w p = eqb (get_or w p 0) full_weight

-- a place, if there is one, and the list that goes on from it
abbrev pub list_from : (ℕ → List ℕ) → Option ℕ → List ℕ
list_from list None = []
list_from list (Some p) = p ∷ list p

-- r is the nearest place of weight 1,000 before p in its run ..
pub record Back (period : ℕ) (w : List ℕ) (p : ℕ) (r : Option ℕ) : Type 0 where
  pub same : full_before period w p ≡ list_from (full_before period w) r
  pub side : IfSome r (λ q. q < p)

-- .. and after p
pub record Ahead (period : ℕ) (w : List ℕ) (p : ℕ) (r : Option ℕ) : Type 0 where
  pub same : full_after period w p ≡ list_from (full_after period w) r
  pub side : IfSome r (λ q. (p < q) × (q < length w))

-- of an earlier place a and a later place b the nearer to t, and the earlier if they are equally near; the other if there is but one
abbrev pub nearer : ℕ → Option ℕ → Option ℕ → Option ℕ
nearer t None b = b
nearer t (Some a) None = Some a
nearer t (Some a) (Some b) = Some (cond (leb (t - a) (b - t)) a b)

-- the sum and the number of the values at some places
pub record SumAndCountOf (x : List ℤ) (ps : List ℕ) (sum : ℤ) (count : ℕ) : Type 0 where
  pub sum_is : sum ≡ sum_at x ps
  pub count_is : count ≡ length ps
