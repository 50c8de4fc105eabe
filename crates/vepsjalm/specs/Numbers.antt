-- METHOD 8.5: what decomposing answers as numbers, for callers in other languages. The desk file's functions: desk_numbers/specs/DeskNumbers.antt;
-- the members' sheet's: sheet_numbers/specs/SheetNumbers.antt.
use Rattle.std.specs.Prelude.{◌≡◌, List, ℕ, ◌<◌, length, ℤ}
use Rattle.refusals.specs.Numbers.{number_of, place_of}
use Rattle.tables.specs.Tables.{B1, D1, final_seasonal_filter, final_terms}
use Rattle.tables.specs.Nearness.{PassesNear, NearAt}
use Rattle.decompose.specs.Promise.{Slices, answer, after}

-- decomposing: the number returned, the place left, and the slices, which settle all; `near` (METHOD 6.4, 10.3) and the distances of each pass (6.3)
-- are carried along, as in the promise of decomposing, so that no caller has to derive them
pub record DecomposeNumbers (start : ℕ) (figures : List ℤ) (lent : Slices) (number place : ℕ) (left : Slices) : Type 0 where
  pub number_is : number ≡ number_of (answer start figures lent)
  pub place_is : place ≡ place_of (answer start figures lent)
  pub slices : left ≡ after (answer start figures lent) start figures lent
  pub near : number ≡ 0 → (t : ℕ) → t < length figures
      → NearAt (final_seasonal_filter start figures) (final_terms start figures) (B1 start figures) (D1 start figures) left.d10 left.d11 left.d12 left.d13 t
  pub passes : PassesNear start figures
