-- METHOD 7.5 to 7.8, 8.1 and 8.2, the examples of reading, writing and moving the desk file by calendar month: each row of each, the first where several
-- apply, the years at their limits, and a series of 75 months byte by byte (shown in proofs/Examples.antt).
use Rattle.std.specs.Prelude.{◌≡◌, List, [], ◌∷◌, ◌++◌, ℕ, ◌+◌, ◌*◌, ℤ, pos, neg_ℤ, take, drop, replicate, Result}
use Rattle.refusals.specs.declared.Refusal.{Refusal}
use Rattle.integers.specs.Lists.{tab}
use Rattle.refusals.specs.Inside.{last_year}
use Rattle.refusals.specs.Sheet.{success, refusal}
use Rattle.desk_forms.specs.Header.{series}
use Rattle.desk_forms.specs.ColumnsFile.{columns_bytes}
use Rattle.desk_file.specs.WriteFile.{write_says}
use Rattle.desk_file.specs.Examples.{arrays_with, file_with, figure200001, weight1001, bad_at9_and40, outside, from_march, arrays_of, plain_from_march}
use Rattle.desk_columns.specs.declared.ColumnsSeries.{ColumnsSeries}
use Rattle.desk_columns.specs.declared.PlainSize.{PlainSize}
use Rattle.desk_columns.specs.ReadColumns.{dated, read_columns_says, read_columns_answer, ReadColumnsDone}
use Rattle.desk_columns.specs.WriteColumns.{write_columns_answer, WriteColumnsDone}
use Rattle.desk_columns.specs.Moving.{forward_answer, MovedForward, size_and_year, back_says, back_answer, MovedBack}

-- METHOD 7.5: the file of 72 months with period 12 from a start month in a first year, which is given in its bytes, low and high; its arrays are all 0 but
-- for some bytes that stand from a place on
abbrev pub columns_with : ℕ → ℕ → ℕ → ℕ → List ℕ → List ℕ
columns_with start low high place bytes = 72 ∷ 0 ∷ start ∷ 12 ∷ low ∷ high ∷ arrays_with place bytes

-- METHOD 7.6 and 8.1: two files from March 2021 = 229 + 7 · 256, with bad figures at t = 10 and t = 3, and with bad weights there. t = 10, a January, is at
-- place 0 of its array, t = 3, a June, at place 30 after five columns of six: bytes 0 and 120 of the figures, 288 and 348 of the weights. In the first file
-- a weight is bad too, that of t = 0, which is at place 12: byte 288 + 24 = 312
abbrev pub bad_figures : List ℕ
bad_figures = columns_with 3 229 7 0 (figure200001 ++ replicate 116 0 ++ figure200001 ++ replicate 188 0 ++ weight1001)

abbrev pub bad_weights : List ℕ
bad_weights = columns_with 3 229 7 288 (weight1001 ++ replicate 58 0 ++ weight1001)

-- ---- reading and moving back
-- METHOD 8.1 and 8.2, reading, most of them with later rows that apply too: 5 bytes; 6 bytes of 71 and of 601 = 89 + 2 · 256 months; start months 0 and 13;
-- period 6; first year 0; 437 bytes, 436, as many as a plain file has, and 439; room for 71 figures or weights; the first bad figure and weight. (Four bytes
-- 127 are more than 200,000, two more than 1,000.) A good file from March 2021 is accepted; the last figure that stands in it is -200,000, which is
-- 2³² - 200,000 = 192 + 242 · 256 + 252 · 256² + 255 · 256³, the first weight 1,000 = 232 + 3 · 256
pub record ReadingColumnsRows : Type 0 where
  pub bytes_5 : read_columns_answer (71 ∷ 0 ∷ 13 ∷ 6 ∷ 0 ∷ []) 70 70 ≡ refusal 7 0
  pub too_few : read_columns_answer (71 ∷ 0 ∷ 13 ∷ 6 ∷ 0 ∷ 0 ∷ []) 70 70 ≡ refusal 1 0
  pub too_many : read_columns_answer (89 ∷ 2 ∷ 13 ∷ 6 ∷ 0 ∷ 0 ∷ []) 70 70 ≡ refusal 2 0
  pub month_0 : read_columns_answer (72 ∷ 0 ∷ 0 ∷ 6 ∷ 0 ∷ 0 ∷ []) 71 71 ≡ refusal 3 0
  pub month_13 : read_columns_answer (72 ∷ 0 ∷ 13 ∷ 6 ∷ 0 ∷ 0 ∷ []) 71 71 ≡ refusal 3 0
  pub period_6 : read_columns_answer (72 ∷ 0 ∷ 1 ∷ 6 ∷ 0 ∷ 0 ∷ []) 71 71 ≡ refusal 8 0
  pub year_0 : read_columns_answer (72 ∷ 0 ∷ 1 ∷ 12 ∷ 0 ∷ 0 ∷ []) 71 71 ≡ refusal 11 0
  pub bytes_437 : read_columns_answer (72 ∷ 0 ∷ 1 ∷ 12 ∷ 1 ∷ 0 ∷ replicate 431 127) 71 71 ≡ refusal 9 0
  pub bytes_436 : read_columns_answer (72 ∷ 0 ∷ 1 ∷ 12 ∷ 1 ∷ 0 ∷ replicate 430 0) 72 72 ≡ refusal 9 0
  pub bytes_439 : read_columns_answer (72 ∷ 0 ∷ 1 ∷ 12 ∷ 1 ∷ 0 ∷ replicate 433 0) 72 72 ≡ refusal 9 0
  pub figures_71 : read_columns_answer bad_figures 71 72 ≡ refusal 4 0
  pub weights_71 : read_columns_answer bad_figures 72 71 ≡ refusal 4 0
  pub first_figure : read_columns_answer bad_figures 72 72 ≡ refusal 5 3
  pub first_weight : read_columns_answer bad_weights 72 72 ≡ refusal 10 3
  pub good : read_columns_answer (columns_with 3 229 7 284 (192 ∷ 242 ∷ 252 ∷ 255 ∷ 232 ∷ 3 ∷ [])) 72 72 ≡ dated 72 3 2021

-- METHOD 8.1 and 8.2, moving back: of the rows of reading the same files, of which some are left out here; the output is to have room for the plain file,
-- 436 bytes. A file of zeros from March 2021 is moved
pub record BackRows : Type 0 where
  pub bytes_5 : back_answer (71 ∷ 0 ∷ 13 ∷ 6 ∷ 0 ∷ []) 0 ≡ refusal 7 0
  pub too_few : back_answer (71 ∷ 0 ∷ 13 ∷ 6 ∷ 0 ∷ 0 ∷ []) 0 ≡ refusal 1 0
  pub too_many : back_answer (89 ∷ 2 ∷ 13 ∷ 6 ∷ 0 ∷ 0 ∷ []) 0 ≡ refusal 2 0
  pub month_0 : back_answer (72 ∷ 0 ∷ 0 ∷ 6 ∷ 0 ∷ 0 ∷ []) 0 ≡ refusal 3 0
  pub month_13 : back_answer (72 ∷ 0 ∷ 13 ∷ 6 ∷ 0 ∷ 0 ∷ []) 0 ≡ refusal 3 0
  pub period_6 : back_answer (72 ∷ 0 ∷ 1 ∷ 6 ∷ 0 ∷ 0 ∷ []) 0 ≡ refusal 8 0
  pub year_0 : back_answer (72 ∷ 0 ∷ 1 ∷ 12 ∷ 0 ∷ 0 ∷ []) 0 ≡ refusal 11 0
  pub bytes_437 : back_answer (72 ∷ 0 ∷ 1 ∷ 12 ∷ 1 ∷ 0 ∷ replicate 431 127) 0 ≡ refusal 9 0
  pub room_of_435 : back_answer bad_figures 435 ≡ refusal 4 0
  pub first_figure : back_answer bad_figures 436 ≡ refusal 5 3
  pub first_weight : back_answer bad_weights 436 ≡ refusal 10 3
  pub good : back_answer (columns_with 3 229 7 0 []) 436 ≡ size_and_year 436 2021

-- ---- writing
-- METHOD 8.1 and 8.2, most of them with later rows that apply too: 71 and 601 figures; start months 0 and 13; first year 0; 71 and 73 weights for 72
-- figures; an output of 437 bytes; from March, figures and weights that are bad at t = 9, a December, and at t = 40, a July, which comes first in month order.
-- 72 good figures take 438 bytes; 600 from January 9950, the last of them in December 9999, take 3,606
pub record WritingColumnsRows : Type 0 where
  pub too_few : write_columns_answer 0 (outside 13 71 72) 437 ≡ refusal 1 0
  pub too_many : write_columns_answer 0 (outside 13 601 72) 437 ≡ refusal 2 0
  pub month_0 : write_columns_answer 0 (outside 0 72 71) 437 ≡ refusal 3 0
  pub month_13 : write_columns_answer 0 (outside 13 72 71) 437 ≡ refusal 3 0
  pub year_0 : write_columns_answer 0 (outside 1 72 71) 437 ≡ refusal 11 0
  pub weights_71 : write_columns_answer 1 (outside 1 72 71) 438 ≡ refusal 4 0
  pub weights_73 : write_columns_answer 1 (outside 1 72 73) 438 ≡ refusal 4 0
  pub room_of_437 : write_columns_answer 1 (outside 1 72 72) 437 ≡ refusal 4 0
  pub first_figure : write_columns_answer 1 (series 3 (bad_at9_and40 (pos 0) (neg_ℤ (pos 200_001))) (replicate 72 1_001)) 438 ≡ refusal 5 9
  pub first_weight : write_columns_answer 1 (series 3 (replicate 72 (neg_ℤ (pos 200_000))) (bad_at9_and40 1_000 1_001)) 438 ≡ refusal 10 9
  pub fewest : write_columns_answer 1 (series 12 (replicate 72 (pos 200_000)) (replicate 72 1_000)) 438 ≡ success 438
  pub most : write_columns_answer 9_950 (series 1 (replicate 600 (pos 0)) (replicate 600 0)) 3_606 ≡ success 3_606

-- ---- moving forward
-- METHOD 8.1 and 8.2: rows 7 and 9 are of the plain file, 3 bytes and 4, and 435 or 438 instead of 436; row 11 of the year that is given; the output is to
-- have room for the file by calendar month, 438 bytes. The bad figures and weights are at t = 9 and t = 12, of which t = 12, a January, comes first in month
-- order; with the figures, the weight of t = 0 is bad too
pub record ForwardRows : Type 0 where
  pub bytes_3 : forward_answer (71 ∷ 0 ∷ 13 ∷ []) 0 0 ≡ refusal 7 0
  pub too_few : forward_answer (71 ∷ 0 ∷ 13 ∷ 6 ∷ []) 0 0 ≡ refusal 1 0
  pub too_many : forward_answer (89 ∷ 2 ∷ 13 ∷ 6 ∷ []) 0 0 ≡ refusal 2 0
  pub month_0 : forward_answer (72 ∷ 0 ∷ 0 ∷ 6 ∷ []) 0 0 ≡ refusal 3 0
  pub month_13 : forward_answer (72 ∷ 0 ∷ 13 ∷ 6 ∷ []) 0 0 ≡ refusal 3 0
  pub period_6 : forward_answer (72 ∷ 0 ∷ 1 ∷ 6 ∷ []) 0 0 ≡ refusal 8 0
  pub year_0 : forward_answer (72 ∷ 0 ∷ 1 ∷ 12 ∷ []) 0 0 ≡ refusal 11 0
  pub bytes_435 : forward_answer (72 ∷ 0 ∷ 1 ∷ 12 ∷ replicate 431 127) 1 0 ≡ refusal 9 0
  pub bytes_438 : forward_answer (72 ∷ 0 ∷ 1 ∷ 12 ∷ replicate 434 0) 1 438 ≡ refusal 9 0
  pub room_of_437 : forward_answer (file_with 36 figure200001) 1 437 ≡ refusal 4 0
  pub first_figure : forward_answer (file_with 36 (figure200001 ++ replicate 8 0 ++ figure200001 ++ replicate 236 0 ++ weight1001)) 1 438 ≡ refusal 5 9
  pub first_weight : forward_answer (file_with 306 (weight1001 ++ replicate 4 0 ++ weight1001)) 1 438 ≡ refusal 10 9
  pub good : forward_answer (file_with 284 (192 ∷ 242 ∷ 252 ∷ 255 ∷ 232 ∷ 3 ∷ [])) 1 438 ≡ success 438

-- ---- the years
-- METHOD 7.5: 75 months from March 2020 end in 2026. Row 11 of 8.1: a first year of 10,000 = 16 + 39 · 256 is refused, 1 is accepted (0 is refused, above);
-- 72 months from January 9994 = 10 + 39 · 256 end in December 9999 and are accepted, from February 9994 they end in January 10000 and are refused; so is
-- 65,535, which is read as it stands
pub record YearsAtLimits : Type 0 where
  pub last_year_is : last_year 2_020 3 75 ≡ 2_026
  pub read_1 : read_columns_answer (columns_with 12 1 0 0 []) 72 72 ≡ dated 72 12 1
  pub read_10000 : read_columns_answer (columns_with 1 16 39 0 []) 72 72 ≡ refusal 11 0
  pub read_65535 : read_columns_answer (columns_with 1 255 255 0 []) 72 72 ≡ refusal 11 0
  pub read_january : read_columns_answer (columns_with 1 10 39 0 []) 72 72 ≡ dated 72 1 9_994
  pub read_february : read_columns_answer (columns_with 2 10 39 0 []) 72 72 ≡ refusal 11 0
  pub back_1 : back_answer (columns_with 12 1 0 0 []) 436 ≡ size_and_year 436 1
  pub back_10000 : back_answer (columns_with 1 16 39 0 []) 436 ≡ refusal 11 0
  pub back_january : back_answer (columns_with 1 10 39 0 []) 436 ≡ size_and_year 436 9_994
  pub back_february : back_answer (columns_with 2 10 39 0 []) 436 ≡ refusal 11 0
  pub write_10000 : write_columns_answer 10_000 (series 1 (replicate 72 (pos 0)) (replicate 72 0)) 438 ≡ refusal 11 0
  pub write_january : write_columns_answer 9_994 (series 1 (replicate 72 (pos 0)) (replicate 72 0)) 438 ≡ success 438
  pub write_february : write_columns_answer 9_994 (series 2 (replicate 72 (pos 0)) (replicate 72 0)) 438 ≡ refusal 11 0
  pub forward_10000 : forward_answer (file_with 0 []) 10_000 438 ≡ refusal 11 0
  pub forward_january : forward_answer (file_with 0 []) 9_994 438 ≡ success 438
  pub forward_february : forward_answer (72 ∷ 0 ∷ 2 ∷ 12 ∷ arrays_with 0 []) 9_994 438 ≡ refusal 11 0

-- ---- the bytes
-- METHOD 7.6: the months of a column, so many, one after the other
abbrev pub column_from : ℕ → ℕ → List ℕ
column_from first k = tab k (λ y. first + 12 * y)

-- METHOD 7.6: 75 months from March in month order: January has the months 10, 22, .., 70, six of them, February 11, 23, .., 71, March 0, 12, .., 72, seven,
-- April and May seven each, June to December six each
abbrev pub columns_from_march : List ℕ
columns_from_march =
    column_from 10 6 ++ column_from 11 6 ++ column_from 0 7 ++ column_from 1 7 ++ column_from 2 7 ++ column_from 3 6
    ++ column_from 4 6 ++ column_from 5 6 ++ column_from 6 6 ++ column_from 7 6 ++ column_from 8 6 ++ column_from 9 6

-- METHOD 7.5: their file by calendar month from March 2020 = 228 + 7 · 256, 6 + 6 · 75 = 456 bytes
abbrev pub file_from_march : List ℕ
file_from_march = 75 ∷ 0 ∷ 3 ∷ 12 ∷ 228 ∷ 7 ∷ arrays_of columns_from_march

-- METHOD 7.7, 7.8, 8.4: what the four entry points promise of it. Slices of 76 and 77 entries, all 9, keep the last one and the last two; outputs of 458
-- and 456 bytes keep the last two. Moved forward from the year 0 it is refused, and the output keeps all
pub record MonthsFromMarch : Type 0 where
  pub read : (r : Result ColumnsSeries Refusal) (figures : List ℤ) (weights : List ℕ) → ReadColumnsDone file_from_march (replicate 76 (pos 9)) (replicate 77 9) r figures weights
      → (read_columns_says r ≡ dated 75 3 2_020) × (figures ≡ from_march.figures ++ pos 9 ∷ []) × (weights ≡ from_march.weights ++ 9 ∷ 9 ∷ [])
  pub written : (r : Result ℕ Refusal) (out : List ℕ) → WriteColumnsDone 2_020 from_march (replicate 458 9) r out
      → (write_says r ≡ success 456) × (out ≡ file_from_march ++ 9 ∷ 9 ∷ [])
  pub forward : (r : Result ℕ Refusal) (out : List ℕ) → MovedForward plain_from_march 2_020 (replicate 458 9) r out
      → (write_says r ≡ success 456) × (out ≡ file_from_march ++ 9 ∷ 9 ∷ [])
  pub year_0 : (r : Result ℕ Refusal) (out : List ℕ) → MovedForward plain_from_march 0 (replicate 458 9) r out → (write_says r ≡ refusal 11 0) × (out ≡ replicate 458 9)
  pub back : (r : Result PlainSize Refusal) (out : List ℕ) → MovedBack file_from_march (replicate 456 9) r out
      → (back_says r ≡ size_and_year 454 2_020) × (out ≡ plain_from_march ++ 9 ∷ 9 ∷ [])

-- METHOD 7.5 and 7.6, some of its bytes: the first 14, which have the year and the first two Januaries, -11 and -23; the second April, month 13, at place
-- 20: its figure -14 at byte 6 + 4 · 20 = 86, its weight 256 + 13 at byte 6 + 4 · 75 + 2 · 20 = 346
pub record BytesFromMarch : Type 0 where
  pub first_bytes : take 14 (columns_bytes 2_020 from_march) ≡ 75 ∷ 0 ∷ 3 ∷ 12 ∷ 228 ∷ 7 ∷ 245 ∷ 255 ∷ 255 ∷ 255 ∷ 233 ∷ 255 ∷ 255 ∷ 255 ∷ []
  pub april_figure : take 4 (drop 86 (columns_bytes 2_020 from_march)) ≡ 242 ∷ 255 ∷ 255 ∷ 255 ∷ []
  pub april_weight : take 2 (drop 346 (columns_bytes 2_020 from_march)) ≡ 13 ∷ 1 ∷ []
