-- METHOD 2.2 to 2.4 and 2.8: the stored rows of 2×12, 3×3, 3×5 and 3×9, oldest value first. The rows for the ends are shorter, and are filled up with
-- zeros that no filter reads. The row for b values before and a after is that for a before and b after, read backwards (RowRules). Of 3×3 and 3×5 those
-- for the start of a run come first.
use Rattle.std.specs.Prelude.{List, [], ◌∷◌, ℤ, pos}

-- METHOD 2.2: 2×12, in 24ths
abbrev pub row2x12 : List ℤ
row2x12 = pos 1 ∷ pos 2 ∷ pos 2 ∷ pos 2 ∷ pos 2 ∷ pos 2 ∷ pos 2 ∷ pos 2 ∷ pos 2 ∷ pos 2 ∷ pos 2 ∷ pos 2 ∷ pos 1 ∷ []

-- METHOD 2.3: 3×3, in 27ths
abbrev pub rows3x3 : List ℤ
rows3x3 =
    pos 11 ∷ pos 11 ∷ pos 5 ∷ pos 0 ∷ pos 0
    ∷ pos 7 ∷ pos 10 ∷ pos 7 ∷ pos 3 ∷ pos 0
    ∷ pos 3 ∷ pos 6 ∷ pos 9 ∷ pos 6 ∷ pos 3
    ∷ pos 3 ∷ pos 7 ∷ pos 10 ∷ pos 7 ∷ pos 0
    ∷ pos 5 ∷ pos 11 ∷ pos 11 ∷ pos 0 ∷ pos 0 ∷ []

-- METHOD 2.4: 3×5, in 60ths
abbrev pub rows3x5 : List ℤ
rows3x5 =
    pos 17 ∷ pos 17 ∷ pos 17 ∷ pos 9 ∷ pos 0 ∷ pos 0 ∷ pos 0
    ∷ pos 15 ∷ pos 15 ∷ pos 15 ∷ pos 11 ∷ pos 4 ∷ pos 0 ∷ pos 0
    ∷ pos 9 ∷ pos 13 ∷ pos 13 ∷ pos 13 ∷ pos 8 ∷ pos 4 ∷ pos 0
    ∷ pos 4 ∷ pos 8 ∷ pos 12 ∷ pos 12 ∷ pos 12 ∷ pos 8 ∷ pos 4
    ∷ pos 4 ∷ pos 8 ∷ pos 13 ∷ pos 13 ∷ pos 13 ∷ pos 9 ∷ pos 0
    ∷ pos 4 ∷ pos 11 ∷ pos 15 ∷ pos 15 ∷ pos 15 ∷ pos 0 ∷ pos 0
    ∷ pos 9 ∷ pos 17 ∷ pos 17 ∷ pos 17 ∷ pos 0 ∷ pos 0 ∷ pos 0 ∷ []

-- METHOD 2.8: 3×9, the full row in 27ths, the others over 748,440, which is 27 times 27,720: how they follow from the full row is RowRules.shared3x9.
-- Six rows each for 0, 1, .. 5 values before: for 5, 4, .. 0 after. (Runs of SI2 have six values or more: a row for fewer serves no place, and obeys the
-- same rule)
abbrev pub rows3x9 : List ℤ
rows3x9 =
    pos 138600 ∷ pos 138600 ∷ pos 138600 ∷ pos 138600 ∷ pos 110880 ∷ pos 83160 ∷ pos 0 ∷ pos 0 ∷ pos 0 ∷ pos 0 ∷ pos 0
    ∷ pos 155232 ∷ pos 155232 ∷ pos 155232 ∷ pos 155232 ∷ pos 127512 ∷ pos 0 ∷ pos 0 ∷ pos 0 ∷ pos 0 ∷ pos 0 ∷ pos 0
    ∷ pos 187110 ∷ pos 187110 ∷ pos 187110 ∷ pos 187110 ∷ pos 0 ∷ pos 0 ∷ pos 0 ∷ pos 0 ∷ pos 0 ∷ pos 0 ∷ pos 0
    ∷ pos 249480 ∷ pos 249480 ∷ pos 249480 ∷ pos 0 ∷ pos 0 ∷ pos 0 ∷ pos 0 ∷ pos 0 ∷ pos 0 ∷ pos 0 ∷ pos 0
    ∷ pos 374220 ∷ pos 374220 ∷ pos 0 ∷ pos 0 ∷ pos 0 ∷ pos 0 ∷ pos 0 ∷ pos 0 ∷ pos 0 ∷ pos 0 ∷ pos 0
    ∷ pos 748440 ∷ pos 0 ∷ pos 0 ∷ pos 0 ∷ pos 0 ∷ pos 0 ∷ pos 0 ∷ pos 0 ∷ pos 0 ∷ pos 0 ∷ pos 0
    ∷ pos 118800 ∷ pos 118800 ∷ pos 118800 ∷ pos 118800 ∷ pos 118800 ∷ pos 91080 ∷ pos 63360 ∷ pos 0 ∷ pos 0 ∷ pos 0 ∷ pos 0
    ∷ pos 129360 ∷ pos 129360 ∷ pos 129360 ∷ pos 129360 ∷ pos 129360 ∷ pos 101640 ∷ pos 0 ∷ pos 0 ∷ pos 0 ∷ pos 0 ∷ pos 0
    ∷ pos 149688 ∷ pos 149688 ∷ pos 149688 ∷ pos 149688 ∷ pos 149688 ∷ pos 0 ∷ pos 0 ∷ pos 0 ∷ pos 0 ∷ pos 0 ∷ pos 0
    ∷ pos 187110 ∷ pos 187110 ∷ pos 187110 ∷ pos 187110 ∷ pos 0 ∷ pos 0 ∷ pos 0 ∷ pos 0 ∷ pos 0 ∷ pos 0 ∷ pos 0
    ∷ pos 249480 ∷ pos 249480 ∷ pos 249480 ∷ pos 0 ∷ pos 0 ∷ pos 0 ∷ pos 0 ∷ pos 0 ∷ pos 0 ∷ pos 0 ∷ pos 0
    ∷ pos 374220 ∷ pos 374220 ∷ pos 0 ∷ pos 0 ∷ pos 0 ∷ pos 0 ∷ pos 0 ∷ pos 0 ∷ pos 0 ∷ pos 0 ∷ pos 0
    ∷ pos 103950 ∷ pos 103950 ∷ pos 103950 ∷ pos 103950 ∷ pos 103950 ∷ pos 103950 ∷ pos 76230 ∷ pos 48510 ∷ pos 0 ∷ pos 0 ∷ pos 0
    ∷ pos 110880 ∷ pos 110880 ∷ pos 110880 ∷ pos 110880 ∷ pos 110880 ∷ pos 110880 ∷ pos 83160 ∷ pos 0 ∷ pos 0 ∷ pos 0 ∷ pos 0
    ∷ pos 124740 ∷ pos 124740 ∷ pos 124740 ∷ pos 124740 ∷ pos 124740 ∷ pos 124740 ∷ pos 0 ∷ pos 0 ∷ pos 0 ∷ pos 0 ∷ pos 0
    ∷ pos 149688 ∷ pos 149688 ∷ pos 149688 ∷ pos 149688 ∷ pos 149688 ∷ pos 0 ∷ pos 0 ∷ pos 0 ∷ pos 0 ∷ pos 0 ∷ pos 0
    ∷ pos 187110 ∷ pos 187110 ∷ pos 187110 ∷ pos 187110 ∷ pos 0 ∷ pos 0 ∷ pos 0 ∷ pos 0 ∷ pos 0 ∷ pos 0 ∷ pos 0
    ∷ pos 249480 ∷ pos 249480 ∷ pos 249480 ∷ pos 0 ∷ pos 0 ∷ pos 0 ∷ pos 0 ∷ pos 0 ∷ pos 0 ∷ pos 0 ∷ pos 0
    ∷ pos 92400 ∷ pos 92400 ∷ pos 92400 ∷ pos 92400 ∷ pos 92400 ∷ pos 92400 ∷ pos 92400 ∷ pos 64680 ∷ pos 36960 ∷ pos 0 ∷ pos 0
    ∷ pos 97020 ∷ pos 97020 ∷ pos 97020 ∷ pos 97020 ∷ pos 97020 ∷ pos 97020 ∷ pos 97020 ∷ pos 69300 ∷ pos 0 ∷ pos 0 ∷ pos 0
    ∷ pos 106920 ∷ pos 106920 ∷ pos 106920 ∷ pos 106920 ∷ pos 106920 ∷ pos 106920 ∷ pos 106920 ∷ pos 0 ∷ pos 0 ∷ pos 0 ∷ pos 0
    ∷ pos 124740 ∷ pos 124740 ∷ pos 124740 ∷ pos 124740 ∷ pos 124740 ∷ pos 124740 ∷ pos 0 ∷ pos 0 ∷ pos 0 ∷ pos 0 ∷ pos 0
    ∷ pos 149688 ∷ pos 149688 ∷ pos 149688 ∷ pos 149688 ∷ pos 149688 ∷ pos 0 ∷ pos 0 ∷ pos 0 ∷ pos 0 ∷ pos 0 ∷ pos 0
    ∷ pos 187110 ∷ pos 187110 ∷ pos 187110 ∷ pos 187110 ∷ pos 0 ∷ pos 0 ∷ pos 0 ∷ pos 0 ∷ pos 0 ∷ pos 0 ∷ pos 0
    ∷ pos 58212 ∷ pos 85932 ∷ pos 85932 ∷ pos 85932 ∷ pos 85932 ∷ pos 85932 ∷ pos 85932 ∷ pos 85932 ∷ pos 58212 ∷ pos 30492 ∷ pos 0
    ∷ pos 61600 ∷ pos 89320 ∷ pos 89320 ∷ pos 89320 ∷ pos 89320 ∷ pos 89320 ∷ pos 89320 ∷ pos 89320 ∷ pos 61600 ∷ pos 0 ∷ pos 0
    ∷ pos 69300 ∷ pos 97020 ∷ pos 97020 ∷ pos 97020 ∷ pos 97020 ∷ pos 97020 ∷ pos 97020 ∷ pos 97020 ∷ pos 0 ∷ pos 0 ∷ pos 0
    ∷ pos 83160 ∷ pos 110880 ∷ pos 110880 ∷ pos 110880 ∷ pos 110880 ∷ pos 110880 ∷ pos 110880 ∷ pos 0 ∷ pos 0 ∷ pos 0 ∷ pos 0
    ∷ pos 101640 ∷ pos 129360 ∷ pos 129360 ∷ pos 129360 ∷ pos 129360 ∷ pos 129360 ∷ pos 0 ∷ pos 0 ∷ pos 0 ∷ pos 0 ∷ pos 0
    ∷ pos 127512 ∷ pos 155232 ∷ pos 155232 ∷ pos 155232 ∷ pos 155232 ∷ pos 0 ∷ pos 0 ∷ pos 0 ∷ pos 0 ∷ pos 0 ∷ pos 0
    ∷ pos 1 ∷ pos 2 ∷ pos 3 ∷ pos 3 ∷ pos 3 ∷ pos 3 ∷ pos 3 ∷ pos 3 ∷ pos 3 ∷ pos 2 ∷ pos 1
    ∷ pos 30492 ∷ pos 58212 ∷ pos 85932 ∷ pos 85932 ∷ pos 85932 ∷ pos 85932 ∷ pos 85932 ∷ pos 85932 ∷ pos 85932 ∷ pos 58212 ∷ pos 0
    ∷ pos 36960 ∷ pos 64680 ∷ pos 92400 ∷ pos 92400 ∷ pos 92400 ∷ pos 92400 ∷ pos 92400 ∷ pos 92400 ∷ pos 92400 ∷ pos 0 ∷ pos 0
    ∷ pos 48510 ∷ pos 76230 ∷ pos 103950 ∷ pos 103950 ∷ pos 103950 ∷ pos 103950 ∷ pos 103950 ∷ pos 103950 ∷ pos 0 ∷ pos 0 ∷ pos 0
    ∷ pos 63360 ∷ pos 91080 ∷ pos 118800 ∷ pos 118800 ∷ pos 118800 ∷ pos 118800 ∷ pos 118800 ∷ pos 0 ∷ pos 0 ∷ pos 0 ∷ pos 0
    ∷ pos 83160 ∷ pos 110880 ∷ pos 138600 ∷ pos 138600 ∷ pos 138600 ∷ pos 138600 ∷ pos 0 ∷ pos 0 ∷ pos 0 ∷ pos 0 ∷ pos 0 ∷ []
