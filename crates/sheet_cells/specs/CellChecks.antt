-- METHOD 8.1, rows 12 to 14: the checks of one cell of a members' sheet.
use Rattle.std.specs.Prelude.{ℕ, Bool, true, false, not, ◌&&◌, List, [], ◌∷◌, Option, Some, None}
use Rattle.refusals.specs.Checks.{Check}
use Rattle.doubles.specs.Doubles.{counts}
use Rattle.sheet_cells.specs.declared.Cell.TheVariants.{Gap, Figure, Revision}
use Rattle.sheet_cells.specs.declared.Cell.{Cell}
use Rattle.sheet_cells.specs.Cells.{cell_at}

-- 12: an unknown kind, or an unused double with a byte that is not zero
abbrev pub is_malformed : Option Cell → Bool
is_malformed None = true
is_malformed (Some cell) = false

-- 13: a gap
abbrev pub is_gap : Option Cell → Bool
is_gap None = false
is_gap (Some Gap) = true
is_gap (Some (Figure figure)) = false
is_gap (Some (Revision old new)) = false

-- 14, where this is false: every double that the cell uses counts, both of a revision
abbrev pub all_count : Option Cell → Bool
all_count None = true
all_count (Some Gap) = true
all_count (Some (Figure figure)) = counts figure.double
all_count (Some (Revision old new)) = counts old.double && counts new.double

-- in this order; the place of each is the cell's t
abbrev pub checks_of : Option Cell → ℕ → List Check
checks_of cell t =
    record { number = 12; applies = is_malformed cell; place = t }
    ∷ record { number = 13; applies = is_gap cell; place = t }
    ∷ record { number = 14; applies = not (all_count cell); place = t }
    ∷ []

abbrev pub cell_checks : List ℕ → ℕ → List Check
cell_checks sheet t = checks_of (cell_at sheet t) t
