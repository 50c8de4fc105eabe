-- METHOD 7.10, 7.12 and 7.13, the members' sheet: where its parts stand in a byte string, what each cell is, and what it adds to the series and to the
-- total revision. The count is in the 2 bytes from place 0 on and the start month in the byte at place 2, as in a desk file: `count_in` and `start_in`.
use Rattle.std.specs.Prelude.{ℕ, ◌+◌, ◌*◌, cond, ◌&&◌, List, eqb, ℤ, pos, ◌-ℤ◌, Float, Option, Some, None}
use Rattle.std.specs.Float.{binary64}
use Rattle.std.specs.Float.Ieee.{add, sub}
use Rattle.little_endian.specs.Bytes.{number_at}
use Rattle.desk_forms.specs.Header.{count_in}
use Rattle.doubles.specs.Doubles.{double_at, unused_at, number_in, positive_zero}
use Rattle.sheet_cells.specs.declared.Imported.{Imported}
use Rattle.sheet_cells.specs.declared.Cell.TheVariants.{Gap, Figure, Revision}
use Rattle.sheet_cells.specs.declared.Cell.{Cell}

-- METHOD 7.10: the sizes take 2 + 1 bytes; a month has a kind of 1 byte and a cell of two doubles
abbrev pub sizes_length : ℕ
sizes_length = 3

abbrev pub sheet_length : ℕ → ℕ
sheet_length n = sizes_length + 17 * n

-- METHOD 7.10: the kind of month t; the kinds stand behind the sizes
unfoldable pub kind_at : List ℕ → ℕ → ℕ
kind_at sheet t = number_at sheet (sizes_length + t) 1

-- METHOD 7.10: where the first double of month t starts, behind the n kinds, and the second; 16 bytes for each cell
unfoldable pub first_at : List ℕ → ℕ → ℕ
first_at sheet t = sizes_length + count_in sheet + 16 * t

unfoldable pub second_at : List ℕ → ℕ → ℕ
second_at sheet t = first_at sheet t + 8

-- METHOD 7.12: a double together with the number of its month, from the reading of its cell to acceptance, and to the slice when the sheet is accepted
abbrev pub with_month : ℕ → Float → Imported
with_month t x = record { month = t; double = x }

-- METHOD 7.10 and 7.12: the double of month t that starts at a place, as it is read
unfoldable pub imported_at : List ℕ → ℕ → ℕ → Imported
imported_at sheet t place = with_month t (double_at sheet place)

-- METHOD 7.10, the table of kinds: 0 is a gap, 1 a figure in the first double, 2 a revision, the old figure and then the new one. A malformed cell has an
-- unknown kind, or an unused double with a byte that is not zero
unfoldable pub cell_at : List ℕ → ℕ → Option Cell
cell_at sheet t =
    cond (eqb (kind_at sheet t) 0) (cond (unused_at sheet (first_at sheet t) && unused_at sheet (second_at sheet t)) (Some Gap) None)
    (cond (eqb (kind_at sheet t) 1) (cond (unused_at sheet (second_at sheet t)) (Some (Figure (imported_at sheet t (first_at sheet t)))) None)
    (cond (eqb (kind_at sheet t) 2) (Some (Revision (imported_at sheet t (first_at sheet t)) (imported_at sheet t (second_at sheet t))))
    None))

-- METHOD 7.12: the figure of a cell, the new one of a revision (a malformed cell or a gap has none: such a sheet is refused)
abbrev pub newest : Option Cell → Float
newest None = positive_zero
newest (Some Gap) = positive_zero
newest (Some (Figure figure)) = figure.double
newest (Some (Revision old new)) = new.double

-- METHOD 7.13: its revision as a whole number, new less old; a cell without a revision adds nothing
abbrev pub revision : Option Cell → ℤ
revision None = pos 0
revision (Some Gap) = pos 0
revision (Some (Figure figure)) = pos 0
revision (Some (Revision old new)) = number_in new.double -ℤ number_in old.double

-- METHOD 7.13: the same in doubles, and the total after this cell; a cell without a revision leaves it as it is. `sub` and `add` are those of the kit's
-- IEEE 754: the double nearest to the difference, to the sum, and of two as near the even one
abbrev pub difference : Option Cell → Float
difference None = positive_zero
difference (Some Gap) = positive_zero
difference (Some (Figure figure)) = positive_zero
difference (Some (Revision old new)) = sub binary64 new.double old.double

abbrev pub revised_by : Float → Option Cell → Float
revised_by total None = total
revised_by total (Some Gap) = total
revised_by total (Some (Figure figure)) = total
revised_by total (Some (Revision old new)) = add binary64 total (difference (Some (Revision old new)))
