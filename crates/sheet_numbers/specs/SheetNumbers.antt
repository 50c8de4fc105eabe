-- METHOD 8.5: what reading a members' sheet answers as numbers, for callers in other languages: the number returned, the values of a success, the place,
-- and the lent slice.
use Rattle.std.specs.Prelude.{ℕ, ◌≡◌, List, ℤ, length, Float}
use Rattle.refusals.specs.Sheet.{Answer, success, refusal}
use Rattle.refusals.specs.Numbers.{number_of, place_of, value_of}
use Rattle.desk_forms.specs.After.{front_after}
use Rattle.doubles.specs.Doubles.{positive_zero}
use Rattle.members_sheet.specs.Series.{figures_in, TotalExact}
use Rattle.members_sheet.specs.ReadSheet.{SheetAccepted, sheet_answer}

-- METHOD 8.5: the total revision of a success, and positive zero after a refusal
abbrev pub total_told : Answer SheetAccepted → Float
total_told (success a) = a.total
total_told (refusal number place) = positive_zero

-- after a refusal the count and the start month are 0 and the total is positive zero; after a success the place is 0. That the total is exact (METHOD
-- 7.13) is carried along, as in the promise of `read_sheet`
pub record SheetNumbers (sheet : List ℕ) (figures₀ : List ℤ) (number count start : ℕ) (total : Float) (place : ℕ) (figures : List ℤ) : Type 0 where
  pub number_is : number ≡ number_of (sheet_answer sheet (length figures₀))
  pub count_is : count ≡ value_of (λ (a : SheetAccepted). a.count) (sheet_answer sheet (length figures₀))
  pub start_is : start ≡ value_of (λ (a : SheetAccepted). a.start) (sheet_answer sheet (length figures₀))
  pub total_is : total ≡ total_told (sheet_answer sheet (length figures₀))
  pub place_is : place ≡ place_of (sheet_answer sheet (length figures₀))
  pub figures_left : figures ≡ front_after (sheet_answer sheet (length figures₀)) (figures_in sheet) figures₀
  pub exact : number ≡ 0 → TotalExact sheet total
