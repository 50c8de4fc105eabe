-- What the functions on cells ask and find. Nothing here is promised to a caller of the desk.
use Rattle.std.specs.Prelude.{ℕ, ◌≤◌, ◌≡◌, cond, List, length, Option, Some, None, Result, Ok, Err}
use Rattle.refusals.specs.declared.Refusal.TheVariants.{BadDouble}
use Rattle.refusals.specs.declared.Refusal.{Refusal}
use Rattle.refusals.specs.Limits.{most_months}
use Rattle.refusals.specs.Checks.{Check}
use Rattle.refusals.specs.Promises.{Before, Stopped}
use Rattle.desk_forms.specs.Header.{count_in}
use Rattle.doubles.specs.Doubles.{counts}
use Rattle.sheet_cells.specs.declared.Imported.{Imported}
use Rattle.sheet_cells.specs.declared.Cell.TheVariants.{Gap, Figure, Revision}
use Rattle.sheet_cells.specs.declared.Cell.{Cell}
use Rattle.sheet_cells.specs.Cells.{sheet_length}

-- a sheet of n months has all its cells
pub record HasCells (sheet : List ℕ) (n : ℕ) : Type 0 where
  pub count : n ≡ count_in sheet
  pub most : n ≤ most_months
  pub long : sheet_length n ≤ length sheet

-- every double of the cell carries the number of this month
abbrev pub OfMonth : ℕ → Option Cell → Type 0
OfMonth t None = Unit
OfMonth t (Some Gap) = Unit
OfMonth t (Some (Figure figure)) = figure.month ≡ t
OfMonth t (Some (Revision old new)) = (old.month ≡ t) × (new.month ≡ t)

-- METHOD 8.1: a double with its month, against row 14: the place that is told is its month
unfoldable pub acceptance : Imported → Result Unit Refusal
acceptance imported = cond (counts imported.double) (Ok tt) (Err (BadDouble imported.month))

-- one cell: none of its checks applies, or the first that does
abbrev pub Says : List Check → Result Unit Refusal → Type 0
Says checks (Ok done) = Before 3 checks
Says checks (Err q) = Stopped q checks
