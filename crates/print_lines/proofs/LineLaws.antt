-- Laws of lines: words that are stored one after the other make a line, and lines make a text.
use Prim.Native.Nat.{ℕ, suc, ◌+◌, ◌*◌, ◌^◌, ◌≤◌, ◌<◌}
use mathlib.Core.Path.{◌≡◌, ap}
use mathlib.Core.List.{List, [], ◌∷◌, ◌++◌, append_assoc}
use native.Mathlib.Omega.{arith}
use lib.IntN.{ℤ}
use lib.ListN.{length}
use mir.Syntax.{w64}
use mir.Val.{SFits, to_z, of_z}
use mir.Facts.{to_z-of_z}
use Rattle.decimals.specs.declared.Text.{Text}
use Rattle.decimals.specs.Decimal.{digits, signed_digits, most_digits, most_signed}
use Rattle.decimals.specs.Storing.{Put}
use Rattle.decimals.proofs.StoringLaws.{put-nothing, put-then, put-eq, put-within}
use Rattle.decimals.proofs.DecimalLaws.{at-most-twenty, at-most-signed}
use Rattle.print_lines.specs.declared.Month.{Month}
use Rattle.print_lines.specs.Text.{line_feed, spaced, line, month_line, entries_part, number_room, signed_room, entries_room, line_room, lines, SeriesTables, month_at, month_lines}

-- how much room a number takes: a number of 64 bits, and one that the code moved
pub digits_fit : (n : ℕ) → n < 2 ^ 64 → length (digits n) ≤ most_digits
digits_fit n h = at-most-twenty n h

pub signed_fit : (x : ℤ) → SFits w64 x → length (signed_digits (to_z w64 (of_z w64 x))) ≤ most_signed
signed_fit x h = omega (arith, ap length (ap signed_digits (to_z-of_z h)), at-most-signed x h.sfits)

-- a number that the code moved is the number still
pub number_kept : {x y : Text} {z : ℤ} → SFits w64 z → Put signed_room x (spaced (signed_digits (to_z w64 (of_z w64 z)))) y → Put signed_room x (spaced (signed_digits z)) y
number_kept h p = put-eq (ap (λ (z : ℤ). spaced (signed_digits z)) (to_z-of_z h)) p

-- three, four and seven words
three_words : (w a b : List ℕ) → w ++ spaced a ++ spaced b ++ line_feed ∷ [] ≡ line (w ∷ a ∷ b ∷ [])
three_words w a b = simp append_assoc

four_words : (w a b c : List ℕ) → w ++ spaced a ++ spaced b ++ spaced c ++ line_feed ∷ [] ≡ line (w ∷ a ∷ b ∷ c ∷ [])
four_words w a b c = simp append_assoc

seven_parts : (w a b c d e f z : List ℕ) → w ++ a ++ (b ++ c ++ d ++ e) ++ f ++ z ≡ w ++ (a ++ (b ++ (c ++ (d ++ (e ++ (f ++ z))))))
seven_parts w a b c d e f z = simp append_assoc

seven_words : (w a b c d e f : List ℕ) → w ++ spaced a ++ (spaced b ++ spaced c ++ spaced d ++ spaced e) ++ spaced f ++ line_feed ∷ [] ≡ line (w ∷ a ∷ b ∷ c ∷ d ∷ e ∷ f ∷ [])
seven_words w a b c d e f = seven_parts w (spaced a) (spaced b) (spaced c) (spaced d) (spaced e) (spaced f) (line_feed ∷ [])

module _ {x y₁ y₂ y₃ y : Text} where
  pub line-of-three : {w a b : List ℕ} → Put 7 x w y₁ → Put number_room y₁ (spaced a) y₂ → Put number_room y₂ (spaced b) y₃ → Put 1 y₃ (line_feed ∷ []) y
      → Put line_room x (line (w ∷ a ∷ b ∷ [])) y
  line-of-three {w} {a} {b} p q r z = put-within (put-eq (three_words w a b) (put-then (put-then (put-then p q) r) z)) (omega arith)

  pub line-of-four : {w a b c : List ℕ} {y₄ : Text} → Put 6 x w y₁ → Put number_room y₁ (spaced a) y₂ → Put 6 y₂ (spaced b) y₃ → Put number_room y₃ (spaced c) y₄ → Put 1 y₄ (line_feed ∷ []) y
      → Put line_room x (line (w ∷ a ∷ b ∷ c ∷ [])) y
  line-of-four {w} {a} {b} {c} p q r s z = put-within (put-eq (four_words w a b c) (put-then (put-then (put-then (put-then p q) r) s) z)) (omega arith)

  pub line-of-month : (m : Month) {y₄ : Text} → Put most_digits x (digits m.t) y₁ → Put signed_room y₁ (spaced (signed_digits m.figure)) y₂ → Put entries_room y₂ (entries_part m) y₃
      → Put number_room y₃ (spaced (digits m.c17)) y₄ → Put 1 y₄ (line_feed ∷ []) y → Put line_room x (month_line m) y
  unfolding month_line
  line-of-month m p q r s z =
      put-within
      (put-eq
      (seven_words (digits m.t) (signed_digits m.figure) (signed_digits m.d10) (signed_digits m.d11) (signed_digits m.d12) (signed_digits m.d13) (digits m.c17))
      (put-then (put-then (put-then (put-then p q) r) s) z))
      (omega arith)

-- the lines of the first t months are put: of none, of one more, of all
pub record MonthsPut (s : SeriesTables) (t : ℕ) (x y : Text) : Type 0 where
  pub months : Put (line_room * t) x (lines (λ k. month_line (month_at s k)) t) y

module _ {s : SeriesTables} {x : Text} where
  pub lines_none : MonthsPut s 0 x x
  unfolding lines
  lines_none = record { months = put-nothing }

  pub lines_more : {t : ℕ} {y z : Text} {month : Month} → MonthsPut s t x y → month ≡ month_at s t → Put line_room y (month_line month) z → MonthsPut s (t + 1) x z
  unfolding lines
  lines_more {t} p e q =
      let f : t + 1 ≡ suc t = omega arith in
      record { months = rw f (put-within (put-then p.months (put-eq (ap month_line e) q)) (omega arith)) }

  pub lines_all : {t : ℕ} {y : Text} → MonthsPut s t x y → t ≡ length s.figures → Put (line_room * length s.figures) x (month_lines s) y
  unfolding month_lines
  lines_all p e = rw e at p.months
