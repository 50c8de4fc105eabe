-- METHOD 8.2: the checks of a file that is read or moved, and those of a series that is written, in their order. The entry points differ in
-- the form, in what is lent, and in whether there is a first year. (`ltb a b`: a is below b; `eqb a b`: they are equal; ∷ puts a check before a list, ++
-- joins two lists.)
use Rattle.std.specs.Prelude.{ℕ, Bool, not, List, [], ◌∷◌, ◌++◌, ltb, eqb, length}
use Rattle.refusals.specs.Limits.{months_of_year}
use Rattle.refusals.specs.Checks.{Check, check_row, row1, row2, row3, row5, row10, row11}
use Rattle.desk_forms.specs.Header.{SeriesWithWeights, count_in, start_in, period_in, length_for}

-- the plain form by itself has no year, and no check of it
abbrev pub no_years_check : List Check
no_years_check = []

-- row 11 of n months from a start month in a first year
abbrev pub years_check : ℕ → ℕ → ℕ → List Check
years_check year start n = row11 year start n ∷ []

-- rows 5 and 10: all figures are looked at before any weight
abbrev pub contents_checks : SeriesWithWeights → List Check
contents_checks s = row5 s.figures ∷ row10 s.weights ∷ []

-- a file whose form has h bytes before the figures: 7, 1, 2, 3, 8, perhaps 11, 9, 4, 5, 10. n is the count that it states (8.1); `years` is row 11
-- or nothing; `short` says whether what is lent to be filled is too short (7.2, 7.7, 7.8); s is the series that the file means
abbrev pub file_checks : ℕ → List Check → Bool → SeriesWithWeights → List ℕ → List Check
file_checks h years short s file =
    check_row 7 (ltb (length file) h)
    ∷ row1 (count_in file)
    ∷ row2 (count_in file)
    ∷ row3 (start_in file)
    ∷ check_row 8 (not (eqb (period_in file) months_of_year))
    ∷ years
    ++ check_row 9 (not (eqb (length file) (length_for h (count_in file))))
    ∷ check_row 4 short
    ∷ contents_checks s

-- a series to be written in a form with h bytes before the figures, into an output of so many bytes: 1, 2, 3, perhaps 11, 4 of the weights, 4 of
-- the output, 5, 10. n is the number of figures, the weights are exactly as many, and the output has room for the file (7.3, 7.7)
abbrev pub series_checks : ℕ → List Check → SeriesWithWeights → ℕ → List Check
series_checks h years s room =
    row1 (length s.figures)
    ∷ row2 (length s.figures)
    ∷ row3 s.start
    ∷ years
    ++ check_row 4 (not (eqb (length s.weights) (length s.figures)))
    ∷ check_row 4 (ltb room (length_for h (length s.figures)))
    ∷ contents_checks s
