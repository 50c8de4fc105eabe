-- The fact that an accepted sheet carries. Nothing here is promised to a caller of the desk.
use Rattle.std.specs.Prelude.{ℕ, ◌<◌, List}
use Rattle.refusals.specs.Promises.{Before}
use Rattle.sheet_cells.specs.CellChecks.{cell_checks}

-- no check of the first n cells applies
pub record AllAccepted (sheet : List ℕ) (n : ℕ) : Type 0 where
  pub each : (t : ℕ) → t < n → Before 3 (cell_checks sheet t)
