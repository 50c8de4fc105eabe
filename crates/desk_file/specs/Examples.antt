-- METHOD 7 and 8, the examples of reading and writing the plain desk file: each row of both, the first where several apply, and a series of 75 months byte
-- by byte (shown in proofs/Examples.antt).
use Rattle.std.specs.Prelude.{◌≡◌, List, [], ◌∷◌, ◌++◌, ℕ, ◌+◌, ◌-◌, ℤ, pos, neg_ℤ, length, replicate, Result}
use Rattle.refusals.specs.declared.Refusal.{Refusal}
use Rattle.integers.specs.Lists.{tab}
use Rattle.refusals.specs.Sheet.{success, refusal}
use Rattle.desk_forms.specs.Header.{SeriesWithWeights, series}
use Rattle.desk_file.specs.declared.Series.{Series}
use Rattle.desk_file.specs.ReadFile.{accepted, read_says, read_answer, ReadDone}
use Rattle.desk_file.specs.WriteFile.{write_says, write_answer, WriteDone}

-- ---- rows of reading
-- METHOD 7.1: the arrays of 72 months, figures and weights all 0 but for some bytes that stand from a place of the arrays on: the figure at place i of its
-- array is at 4i, the weight at 288 + 2i
abbrev pub arrays_with : ℕ → List ℕ → List ℕ
arrays_with place bytes = replicate place 0 ++ bytes ++ replicate (432 - place - length bytes) 0

-- METHOD 7.1: the file of 72 months from month 1 with period 12 and these arrays
abbrev pub file_with : ℕ → List ℕ → List ℕ
file_with place bytes = 72 ∷ 0 ∷ 1 ∷ 12 ∷ arrays_with place bytes

-- a figure of 200,001 = 65 + 13 · 256 + 3 · 256², and a weight of 1,001 = 233 + 3 · 256
abbrev pub figure200001 : List ℕ
figure200001 = 65 ∷ 13 ∷ 3 ∷ 0 ∷ []

abbrev pub weight1001 : List ℕ
weight1001 = 233 ∷ 3 ∷ []

-- METHOD 8.1 and 8.2, most of them with later rows that apply too: 3 bytes; 71 and 601 = 89 + 2 · 256 months; start months 0 and 13; period 4; 435 bytes and
-- 437; room for 71 figures or weights; 200,001 at t = 0, and at t = 9 and t = 12, with a bad weight at t = 0 each time; -200,001 at t = 9; 1,001 at t = 5, and
-- at t = 5 and t = 6. A good file is accepted, with -200,000 at t = 71, which is 2³² - 200,000 = 192 + 242 · 256 + 252 · 256² + 255 · 256³ (-200,001 has 191
-- for 192), and the weight 1,000 = 232 + 3 · 256 at t = 0
pub record ReadingRows : Type 0 where
  pub no_header : read_answer (72 ∷ 0 ∷ 1 ∷ []) 72 72 ≡ refusal 7 0
  pub seven_first : read_answer (71 ∷ 0 ∷ 13 ∷ []) 72 72 ≡ refusal 7 0
  pub too_few : read_answer (71 ∷ 0 ∷ 13 ∷ 4 ∷ []) 72 72 ≡ refusal 1 0
  pub too_many : read_answer (89 ∷ 2 ∷ 13 ∷ 4 ∷ []) 72 72 ≡ refusal 2 0
  pub month_0 : read_answer (72 ∷ 0 ∷ 0 ∷ 4 ∷ []) 72 72 ≡ refusal 3 0
  pub month_13 : read_answer (72 ∷ 0 ∷ 13 ∷ 4 ∷ []) 72 72 ≡ refusal 3 0
  pub period_4 : read_answer (72 ∷ 0 ∷ 1 ∷ 4 ∷ []) 72 72 ≡ refusal 8 0
  pub bytes_435 : read_answer (72 ∷ 0 ∷ 1 ∷ 12 ∷ replicate 431 0) 71 72 ≡ refusal 9 0
  pub bytes_437 : read_answer (72 ∷ 0 ∷ 1 ∷ 12 ∷ replicate 433 0) 72 72 ≡ refusal 9 0
  pub room_of_71 : read_answer (file_with 0 figure200001) 71 72 ≡ refusal 4 0
  pub weights_71 : read_answer (file_with 0 figure200001) 72 71 ≡ refusal 4 0
  pub figure_at_0 : read_answer (file_with 0 (figure200001 ++ replicate 284 0 ++ weight1001)) 72 72 ≡ refusal 5 0
  pub first_figure : read_answer (file_with 36 (figure200001 ++ replicate 8 0 ++ figure200001 ++ replicate 236 0 ++ weight1001)) 72 72 ≡ refusal 5 9
  pub first_below : read_answer (file_with 36 (191 ∷ 242 ∷ 252 ∷ 255 ∷ [])) 72 72 ≡ refusal 5 9
  pub weight_at_5 : read_answer (file_with 298 weight1001) 72 72 ≡ refusal 10 5
  pub first_weight : read_answer (file_with 298 (weight1001 ++ weight1001)) 72 72 ≡ refusal 10 5
  pub good : read_answer (file_with 284 (192 ∷ 242 ∷ 252 ∷ 255 ∷ 232 ∷ 3 ∷ [])) 72 72 ≡ accepted 72 1

-- ---- rows of writing
-- 72 entries, bad ones at t = 9 and t = 40, the others fine
abbrev pub bad_at9_and40 : {A : Type 0} → A → A → List A
bad_at9_and40 fine bad = replicate 9 fine ++ bad ∷ replicate 30 fine ++ bad ∷ replicate 31 fine

-- n figures of 200,001 and k weights of 1,001, from a start month
abbrev pub outside : ℕ → ℕ → ℕ → SeriesWithWeights
outside start n k = series start (replicate n (pos 200_001)) (replicate k 1_001)

-- METHOD 8.1 and 8.2, most of them with later rows that apply too: 71 and 601 figures; start months 0 and 13; 71 and 73 weights for 72 figures; an output
-- of 435 bytes; figures of 200,001 and of -200,001, and weights of 1,001, at t = 9 and t = 40. 72 figures of -200,000 from month 12 with weights of 1,000
-- take 436 bytes, 600 of 200,000 from month 1 take 3,604
pub record WritingRows : Type 0 where
  pub too_few : write_answer (outside 13 71 72) 435 ≡ refusal 1 0
  pub too_many : write_answer (outside 13 601 72) 435 ≡ refusal 2 0
  pub month_0 : write_answer (outside 0 72 71) 435 ≡ refusal 3 0
  pub month_13 : write_answer (outside 13 72 71) 435 ≡ refusal 3 0
  pub weights_71 : write_answer (outside 1 72 71) 436 ≡ refusal 4 0
  pub weights_73 : write_answer (outside 1 72 73) 436 ≡ refusal 4 0
  pub room_of_435 : write_answer (outside 1 72 72) 435 ≡ refusal 4 0
  pub first_figure : write_answer (series 1 (bad_at9_and40 (pos 0) (pos 200_001)) (replicate 72 1_001)) 436 ≡ refusal 5 9
  pub first_below : write_answer (series 1 (bad_at9_and40 (pos 0) (neg_ℤ (pos 200_001))) (replicate 72 1_001)) 436 ≡ refusal 5 9
  pub first_weight : write_answer (series 1 (replicate 72 (pos 200_000)) (bad_at9_and40 1_000 1_001)) 436 ≡ refusal 10 9
  pub fewest : write_answer (series 12 (replicate 72 (neg_ℤ (pos 200_000))) (replicate 72 1_000)) 436 ≡ success 436
  pub most : write_answer (series 1 (replicate 600 (pos 200_000)) (replicate 600 0)) 3_604 ≡ success 3_604

-- ---- the bytes
-- 75 months from March: the figure of month t is -1 - t, its weight 256 + t
abbrev pub from_march : SeriesWithWeights
from_march = series 3 (tab 75 (λ t. neg_ℤ (pos (1 + t)))) (tab 75 (λ t. 256 + t))

-- METHOD 7.1: the two arrays, from the months in the order in which they stand there: -1 - t is the bytes 255 - t, 255, 255, 255, and 256 + t is t, 1
abbrev pub figure_bytes : List ℕ → List ℕ
figure_bytes [] = []
figure_bytes (t ∷ ts) = (255 - t) ∷ 255 ∷ 255 ∷ 255 ∷ figure_bytes ts

abbrev pub weight_bytes : List ℕ → List ℕ
weight_bytes [] = []
weight_bytes (t ∷ ts) = t ∷ 1 ∷ weight_bytes ts

abbrev pub arrays_of : List ℕ → List ℕ
arrays_of months = figure_bytes months ++ weight_bytes months

-- METHOD 7.1: their plain file, 4 + 6 · 75 = 454 bytes
abbrev pub plain_from_march : List ℕ
plain_from_march = 75 ∷ 0 ∷ 3 ∷ 12 ∷ arrays_of (tab 75 (λ t. t))

-- METHOD 7.2, 7.3, 8.4: what `read` and `write` promise of it. Slices of 76 and 77 entries, all 9, keep the last one and the last two; an output of 456
-- bytes keeps the last two, and one of 453 bytes, which are too few, all
pub record SeriesFromMarch : Type 0 where
  pub read : (r : Result Series Refusal) (figures : List ℤ) (weights : List ℕ) → ReadDone plain_from_march (replicate 76 (pos 9)) (replicate 77 9) r figures weights
      → (read_says r ≡ accepted 75 3) × (figures ≡ from_march.figures ++ pos 9 ∷ []) × (weights ≡ from_march.weights ++ 9 ∷ 9 ∷ [])
  pub written : (r : Result ℕ Refusal) (out : List ℕ) → WriteDone from_march (replicate 456 9) r out
      → (write_says r ≡ success 454) × (out ≡ plain_from_march ++ 9 ∷ 9 ∷ [])
  pub too_short : (r : Result ℕ Refusal) (out : List ℕ) → WriteDone from_march (replicate 453 9) r out → (write_says r ≡ refusal 4 0) × (out ≡ replicate 453 9)
