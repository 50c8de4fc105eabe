-- What the functions inside ask and find. Nothing here is promised to a caller of the desk.
use Rattle.std.specs.Prelude.{ℕ, ◌≤◌, ◌≡◌, List, Result, Ok, Err}
use Rattle.refusals.specs.declared.Refusal.{Refusal}
use Rattle.refusals.specs.Promises.{Before, Stopped}
use Rattle.desk_forms.specs.Header.{start_in}
use Rattle.members_sheet.specs.declared.filling.AcceptedSheet.{AcceptedSheet}
use Rattle.members_sheet.specs.AllAccepted.{AllAccepted}
use Rattle.members_sheet.specs.ReadSheet.{cells_from, sheet_checks}

-- all cells of a sheet: no check of them applies, or the first that does is q's
abbrev pub CellsSay : List ℕ → ℕ → Result Unit Refusal → Type 0
CellsSay sheet n (Ok done) = AllAccepted sheet n
CellsSay sheet n (Err q) = Stopped q (cells_from sheet 0 n)

-- no check of the sheet applies, and what was accepted is its own
pub record SheetFits (sheet : List ℕ) (room : ℕ) (accepted : AcceptedSheet) : Type 0 where
  pub passed : Before 6 (sheet_checks sheet room)
  pub own : accepted.cells.sheet.now ≡ sheet
  pub begins : accepted.start ≡ start_in sheet
  pub enough : accepted.cells.n ≤ room

abbrev pub CheckedSays : List ℕ → ℕ → Result AcceptedSheet Refusal → Type 0
CheckedSays sheet room (Ok accepted) = SheetFits sheet room accepted
CheckedSays sheet room (Err q) = Stopped q (sheet_checks sheet room)
