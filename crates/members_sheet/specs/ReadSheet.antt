-- METHOD 7.12 and 8: what reading a members' sheet answers, and what the lent slice then holds.
use Rattle.std.specs.Prelude.{ℕ, zero, suc, ◌≡◌, not, List, [], ◌∷◌, ◌++◌, ltb, eqb, ℤ, length, Float, Result, Ok, Err}
use Rattle.refusals.specs.Sheet.{Answer, success, refusal_of}
use Rattle.refusals.specs.Checks.{Check, check_row, row1, row2, row3, first_to_apply}
use Rattle.desk_forms.specs.Header.{count_in, start_in}
use Rattle.desk_forms.specs.After.{front_after}
use Rattle.doubles.specs.Doubles.{double_of}
use Rattle.sheet_cells.specs.Cells.{sizes_length, sheet_length}
use Rattle.sheet_cells.specs.CellChecks.{cell_checks}
use Rattle.refusals.specs.declared.Refusal.{Refusal}
use Rattle.members_sheet.specs.declared.SheetSeries.{SheetSeries}
use Rattle.members_sheet.specs.Series.{figures_in, total_revision, TotalExact}

-- METHOD 8.2: rows 12 to 14 of k cells, from the cell of month t on: each cell is checked whole before the next
unfoldable pub cells_from : List ℕ → ℕ → ℕ → List Check
cells_from sheet t zero = []
cells_from sheet t (suc k) = cell_checks sheet t ++ cells_from sheet (suc t) k

-- METHOD 8.2: the checks of reading a members' sheet, 7, 1, 2, 3, 9, 4, and of the cells 12, 13, 14; n is the count that it states, row 4 asks that the
-- slice, which comes in by its length, is n or more (7.12)
abbrev pub sheet_checks : List ℕ → ℕ → List Check
sheet_checks sheet room =
    check_row 7 (ltb (length sheet) sizes_length)
    ∷ row1 (count_in sheet)
    ∷ row2 (count_in sheet)
    ∷ row3 (start_in sheet)
    ∷ check_row 9 (not (eqb (length sheet) (sheet_length (count_in sheet))))
    ∷ check_row 4 (ltb room (count_in sheet))
    ∷ cells_from sheet 0 (count_in sheet)

-- METHOD 7.12: what an accepted sheet answers, n, the start month and the total revision
pub record SheetAccepted : Type 0 where
  pub count : ℕ
  pub start : ℕ
  pub total : Float

abbrev pub sheet_accepted : ℕ → ℕ → Float → Answer SheetAccepted
sheet_accepted n start total = success (record { count = n; start = start; total = total })

-- each case of the program's answer, as METHOD 7.12 and 8.1 have it
abbrev pub sheet_says : Result SheetSeries Refusal → Answer SheetAccepted
sheet_says (Ok series) = sheet_accepted series.count series.start series.total
sheet_says (Err q) = refusal_of q

-- METHOD 8.2: the answer is the first that applies, else n, the start month, and the double of the exact total revision (7.13)
unfoldable pub sheet_answer : List ℕ → ℕ → Answer SheetAccepted
sheet_answer sheet room = first_to_apply (sheet_checks sheet room) (sheet_accepted (count_in sheet) (start_in sheet) (double_of (total_revision sheet)))

-- METHOD 10.1 and 10.2, the promise of `read_sheet`, for all inputs: the sheet and the slice before, the answer, the slice after. `answer` and
-- `figures_left` settle all; that the total of a success is exact, with every step to it (7.13), is carried along, so that no caller has to derive it
pub record SheetDone (sheet : List ℕ) (figures₀ : List ℤ) (r : Result SheetSeries Refusal) (figures : List ℤ) : Type 0 where
  pub answer : sheet_says r ≡ sheet_answer sheet (length figures₀)
  pub figures_left : figures ≡ front_after (sheet_answer sheet (length figures₀)) (figures_in sheet) figures₀
  pub exact : (a : SheetAccepted) → sheet_says r ≡ success a → TotalExact sheet a.total
