-- METHOD 7.14: the theorems on members' sheets, in full; the names in brackets are those of their proofs, in proofs/SheetTrip.antt. They speak of what
-- `read_sheet` promises, `SheetDone`.
use Rattle.std.specs.Prelude.{ℕ, ◌≤◌, ◌<◌, ◌≡◌, true, Result, List, [], ◌∷◌, ◌++◌, map, ℤ, pos, ◌-ℤ◌, length, get_or, drop, Float, Option, Some, None}
use Rattle.std.specs.Float.{binary64}
use Rattle.std.specs.Float.Ieee.{to_bits}
use Rattle.integers.specs.Sums.{sum_z}
use Rattle.refusals.specs.Limits.{least_months, most_months}
use Rattle.refusals.specs.Inside.{start_inside, figure_inside}
use Rattle.refusals.specs.Sheet.{success}
use Rattle.little_endian.specs.Bytes.{bytes_of}
use Rattle.desk_forms.specs.Header.{count_in, start_in}
use Rattle.doubles.specs.Doubles.{double_of, positive_zero}
use Rattle.sheet_cells.specs.declared.Cell.TheVariants.{Gap, Figure, Revision}
use Rattle.sheet_cells.specs.declared.Cell.{Cell}
use Rattle.sheet_cells.specs.Cells.{with_month, cell_at}
use Rattle.sheet_cells.specs.CellChecks.{all_count}
use Rattle.refusals.specs.declared.Refusal.{Refusal}
use Rattle.members_sheet.specs.declared.SheetSeries.{SheetSeries}
use Rattle.members_sheet.specs.ReadSheet.{SheetAccepted, sheet_accepted, sheet_says, SheetDone}

-- ---- a sheet made from a series
-- METHOD 7.10: a month as its member has it, in units: a figure, or a revision, the old figure and the new one
pub data Entry : Type 0 where
  figure : ℤ → Entry
  revised : (old new : ℤ) → Entry

-- METHOD 7.10: its kind, and the bits of its two doubles, of an unused one 0
abbrev pub kind_of : Entry → ℕ
kind_of (figure z) = 1
kind_of (revised old new) = 2

abbrev pub first_bits : Entry → ℕ
first_bits (figure z) = to_bits binary64 (double_of z)
first_bits (revised old new) = to_bits binary64 (double_of old)

abbrev pub second_bits : Entry → ℕ
second_bits (figure z) = 0
second_bits (revised old new) = to_bits binary64 (double_of new)

-- METHOD 7.12 and 7.13: its figure, the new one of a revision; new less old
abbrev pub newest_of : Entry → ℤ
newest_of (figure z) = z
newest_of (revised old new) = new

abbrev pub revision_of : Entry → ℤ
revision_of (figure z) = pos 0
revision_of (revised old new) = new -ℤ old

-- METHOD 7.10: a cell, two doubles of 8 bytes; and the sheet: count, start month, the kinds, the cells
unfoldable pub cells_of : List Entry → List ℕ
cells_of [] = []
cells_of (e ∷ entries) = bytes_of 8 (first_bits e) ++ bytes_of 8 (second_bits e) ++ cells_of entries

unfoldable pub sheet_of : ℕ → List Entry → List ℕ
sheet_of start entries = bytes_of 2 (length entries) ++ bytes_of 1 start ++ map kind_of entries ++ cells_of entries

-- the month at t (past the end a figure of 0); METHOD 7.13: all revisions summed
abbrev pub entry_at : List Entry → ℕ → Entry
entry_at entries t = get_or entries t (figure (pos 0))

abbrev pub total_of : List Entry → ℤ
total_of entries = sum_z (length entries) (λ t. revision_of (entry_at entries t))

-- METHOD 1.1: a series inside the limits; of a revision both figures are
abbrev pub EntryInside : Entry → Type 0
EntryInside (figure z) = figure_inside z ≡ true
EntryInside (revised old new) = (figure_inside old ≡ true) × (figure_inside new ≡ true)

pub record InsideLimits (start : ℕ) (entries : List Entry) : Type 0 where
  pub least : least_months ≤ length entries
  pub most : length entries ≤ most_months
  pub inside : start_inside start ≡ true
  pub each : (t : ℕ) → t < length entries → EntryInside (entry_at entries t)

-- reading gave this series and total: as many months, from this start month; the figures in the first places of the slice, the rest as before
pub record ReadBack (start : ℕ) (figures : List ℤ) (total : Float) (figures₀ : List ℤ) (r : Result SheetSeries Refusal) (left : List ℤ) : Type 0 where
  pub answer : sheet_says r ≡ sheet_accepted (length figures) start total
  pub figures_left : left ≡ figures ++ drop (length figures) figures₀

-- METHOD 7.14: the sheet of a series with revisions reads back as the series of the newest figures, and the total is that of its revisions, into a slice
-- with room for it (entries_back)
abbrev pub ReadsEntries : Type 0
ReadsEntries = (start : ℕ) (entries : List Entry) (figures₀ left : List ℤ) (r : Result SheetSeries Refusal)
    → InsideLimits start entries
    → length entries ≤ length figures₀
    → SheetDone (sheet_of start entries) figures₀ r left
    → ReadBack start (map newest_of entries) (double_of (total_of entries)) figures₀ r left

-- METHOD 7.14: the sheet of a series in which every month is of kind 1 reads back as that series, and the total is positive zero (series-back)
abbrev pub ReadsSeries : Type 0
ReadsSeries = (start : ℕ) (figures figures₀ left : List ℤ) (r : Result SheetSeries Refusal)
    → InsideLimits start (map figure figures)
    → length figures ≤ length figures₀
    → SheetDone (sheet_of start (map figure figures)) figures₀ r left
    → ReadBack start figures positive_zero figures₀ r left

-- ---- old figures of revisions
-- a cell without its old figure: positive zero stands there
abbrev pub without_old : Option Cell → Option Cell
without_old None = None
without_old (Some Gap) = Some Gap
without_old (Some (Figure x)) = Some (Figure x)
without_old (Some (Revision old new)) = Some (Revision (with_month old.month positive_zero) new)

-- two sheets that differ in nothing but old figures; every double that the second uses counts (where the first is accepted, this asks it of old
-- figures alone)
pub record OldFiguresChanged (sheet sheet' : List ℕ) : Type 0 where
  pub same_length : length sheet ≡ length sheet'
  pub same_count : count_in sheet ≡ count_in sheet'
  pub same_start : start_in sheet ≡ start_in sheet'
  pub same_cells : (t : ℕ) → t < count_in sheet → without_old (cell_at sheet t) ≡ without_old (cell_at sheet' t)
  pub counting : (t : ℕ) → t < count_in sheet → all_count (cell_at sheet' t) ≡ true

-- the same series: as many months from the same start month, and the same left in the slice
pub record SameSeries (a : SheetAccepted) (left : List ℤ) (r' : Result SheetSeries Refusal) (left' : List ℤ) : Type 0 where
  pub total' : Float
  pub answer : sheet_says r' ≡ sheet_accepted a.count a.start total'
  pub same_left : left ≡ left'

-- METHOD 7.14: where a sheet is accepted, so is one that differs in old figures alone, and it gives the same series (old_figures)
abbrev pub OldFigures : Type 0
OldFigures = (sheet sheet' : List ℕ) (figures₀ left left' : List ℤ) (r r' : Result SheetSeries Refusal) (a : SheetAccepted)
    → OldFiguresChanged sheet sheet'
    → SheetDone sheet figures₀ r left
    → SheetDone sheet' figures₀ r' left'
    → sheet_says r ≡ success a
    → SameSeries a left r' left'
