-- METHOD 7.10 to 7.13, 8.1 and 8.2, the examples of reading a members' sheet: each of its rows, the first where several apply, the first bad cell, and a
-- sheet that is accepted (shown in proofs/Examples.antt).
use Rattle.std.specs.Prelude.{ℕ, ◌-◌, ◌*◌, ◌≡◌, List, [], ◌∷◌, ◌++◌, map, pos, neg_ℤ, length, replicate, take}
use Rattle.refusals.specs.Sheet.{Answer, refusal}
use Rattle.doubles.specs.Doubles.{double_of}
use Rattle.members_sheet.specs.Series.{figures_in}
use Rattle.members_sheet.specs.ReadSheet.{SheetAccepted, sheet_accepted, sheet_answer}

-- METHOD 7.10: a double by the last three of its eight bytes, the others zero; a month by its kind and the bytes of its two doubles
abbrev pub double : ℕ → ℕ → ℕ → List ℕ
double sixth seventh eighth = 0 ∷ 0 ∷ 0 ∷ 0 ∷ 0 ∷ sixth ∷ seventh ∷ eighth ∷ []

pub record Month : Type 0 where
  pub kind : ℕ
  pub first : List ℕ
  pub second : List ℕ

abbrev pub month : ℕ → List ℕ → List ℕ → Month
month kind first second = record { kind = kind; first = first; second = second }

-- METHOD 7.10: the sheet of 72 months from a start month on, all of them the figure 0 but for some that stand from t on: 16 zero bytes are the double 0
-- and an unused one
abbrev pub cells : List Month → List ℕ
cells [] = []
cells (m ∷ months) = m.first ++ m.second ++ cells months

abbrev pub sheet_with : ℕ → ℕ → List Month → List ℕ
sheet_with start t months =
    72 ∷ 0 ∷ start ∷ replicate t 1 ++ map (λ (m : Month). m.kind) months ++ replicate (72 - t - length months) 1
    ++ replicate (16 * t) 0 ++ cells months ++ replicate (16 * (72 - t - length months)) 0

-- eight zero bytes; negative zero; 0.5
abbrev pub zeros : List ℕ
zeros = double 0 0 0

abbrev pub negative_zero : List ℕ
negative_zero = double 0 0 128

abbrev pub half : List ℕ
half = double 0 224 63

-- a kind that is unknown, a gap, a figure that does not count
abbrev pub unknown : Month
unknown = month 3 zeros zeros

abbrev pub gap : Month
gap = month 0 zeros zeros

abbrev pub not_whole : Month
not_whole = month 1 half zeros

-- METHOD 8.2: what is answered where such a sheet is from month 1, and there is room for it
abbrev pub answer_with : ℕ → List Month → Answer SheetAccepted
answer_with t months = sheet_answer (sheet_with 1 t months) 72

-- METHOD 8.1 and 8.2, rows 7, 1, 2, 3, 9 and 4, all with later rows that apply too: 2 bytes; 71 and 601 months, in 3 bytes; start months 13 and 0; one byte
-- less than 1,227 and one more; room for 71 figures
pub record SizeRows : Type 0 where
  pub two_bytes : sheet_answer (71 ∷ 0 ∷ []) 0 ≡ refusal 7 0
  pub too_few : sheet_answer (71 ∷ 0 ∷ 13 ∷ []) 0 ≡ refusal 1 0
  pub too_many : sheet_answer (89 ∷ 2 ∷ 13 ∷ []) 0 ≡ refusal 2 0
  pub month_13 : sheet_answer (72 ∷ 0 ∷ 13 ∷ []) 0 ≡ refusal 3 0
  pub month_0 : sheet_answer (72 ∷ 0 ∷ 0 ∷ []) 0 ≡ refusal 3 0
  pub bytes_1226 : sheet_answer (72 ∷ 0 ∷ 1 ∷ replicate 1223 0) 71 ≡ refusal 9 0
  pub bytes_1228 : sheet_answer (72 ∷ 0 ∷ 1 ∷ replicate 1225 0) 71 ≡ refusal 9 0
  pub room_of_71 : sheet_answer (72 ∷ 0 ∷ 1 ∷ replicate 1224 0) 71 ≡ refusal 4 0

-- METHOD 8.1, rows 12 to 14: kinds 3 and 255 at t = 4; a gap at t = 5; the old figure 0.5 at t = 9. 7.10 and 8.2: a byte that is not zero in an unused double
-- is row 12: in the first or the second of a gap; behind a figure; where it makes negative zero; and behind a figure that does not count. 7.11: a figure and
-- a new figure of 0.5 are row 14
pub record CellRows : Type 0 where
  pub kind_3 : answer_with 4 (unknown ∷ []) ≡ refusal 12 4
  pub kind_255 : answer_with 4 (month 255 zeros zeros ∷ []) ≡ refusal 12 4
  pub kind_0 : answer_with 5 (gap ∷ []) ≡ refusal 13 5
  pub old_figure : answer_with 9 (month 2 half zeros ∷ []) ≡ refusal 14 9
  pub new_figure : answer_with 9 (month 2 zeros half ∷ []) ≡ refusal 14 9
  pub figure : answer_with 9 (not_whole ∷ []) ≡ refusal 14 9
  pub gap_first_used : answer_with 4 (month 0 half zeros ∷ []) ≡ refusal 12 4
  pub gap_second_used : answer_with 4 (month 0 zeros half ∷ []) ≡ refusal 12 4
  pub figure_second_used : answer_with 4 (month 1 zeros half ∷ []) ≡ refusal 12 4
  pub negative_zero_used : answer_with 4 (month 1 zeros negative_zero ∷ []) ≡ refusal 12 4
  pub twelve_before_fourteen : answer_with 4 (month 1 half half ∷ []) ≡ refusal 12 4

-- METHOD 8.2, the first of several bad cells, whichever rows apply to those behind it
pub record FirstBadCell : Type 0 where
  pub unknown_first : answer_with 4 (unknown ∷ gap ∷ not_whole ∷ unknown ∷ []) ≡ refusal 12 4
  pub gap_first : answer_with 4 (gap ∷ unknown ∷ not_whole ∷ gap ∷ []) ≡ refusal 13 4
  pub double_first : answer_with 4 (not_whole ∷ unknown ∷ gap ∷ not_whole ∷ []) ≡ refusal 14 4

-- METHOD 7.13: the revisions from 1,000 to 1,005, from 200,000 to -200,000 and from 7 to 7; between them the figure 1,000 and negative zero
abbrev pub revised : List Month
revised =
    month 2 (double 64 143 64) (double 104 143 64)
    ∷ month 1 (double 64 143 64) zeros
    ∷ month 2 (double 106 8 65) (double 106 8 193)
    ∷ month 1 negative_zero zeros
    ∷ month 2 (double 0 28 64) (double 0 28 64)
    ∷ []

-- METHOD 7.12 and 7.13: the sheet with these from t = 0 on is accepted into a slice with room for one figure more, and told with its start month and the
-- total revision -399,995; the series has the new figures, here of the first six months
pub record RevisedSheet : Type 0 where
  pub answer : sheet_answer (sheet_with 12 0 revised) 73 ≡ sheet_accepted 72 12 (double_of (neg_ℤ (pos 399_995)))
  pub series : take 6 (figures_in (sheet_with 12 0 revised)) ≡ pos 1005 ∷ pos 1000 ∷ neg_ℤ (pos 200_000) ∷ pos 0 ∷ pos 7 ∷ pos 0 ∷ []
