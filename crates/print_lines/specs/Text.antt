-- METHOD 9: the lines that are printed, in ASCII.
use Rattle.std.specs.Prelude.{ℕ, zero, suc, ◌+◌, ◌*◌, ◌≡◌, List, [], ◌∷◌, ◌++◌, ℤ, length, get_or}
use Rattle.integers.specs.Lists.{◌‼◌}
use Rattle.decimals.specs.Decimal.{digits, signed_digits, most_digits, most_signed}
use Rattle.refusals.specs.Limits.{most_months}
use Rattle.print_lines.specs.declared.Month.{Month}

abbrev pub space : ℕ
space = 32

abbrev pub line_feed : ℕ
line_feed = 10

-- `months`, `start`, `refused`
abbrev pub months_word : List ℕ
months_word = 109 ∷ 111 ∷ 110 ∷ 116 ∷ 104 ∷ 115 ∷ []

abbrev pub start_word : List ℕ
start_word = 115 ∷ 116 ∷ 97 ∷ 114 ∷ 116 ∷ []

abbrev pub refused_word : List ℕ
refused_word = 114 ∷ 101 ∷ 102 ∷ 117 ∷ 115 ∷ 101 ∷ 100 ∷ []

-- a space before a word
abbrev pub spaced : List ℕ → List ℕ
spaced word = space ∷ word

-- METHOD 9.3: the words of a line, single spaces between them and a line feed at its end
abbrev pub line : List (List ℕ) → List ℕ
line [] = line_feed ∷ []
line (w ∷ []) = w ++ line_feed ∷ []
line (w ∷ v ∷ ws) = w ++ space ∷ line (v ∷ ws)

-- METHOD 9.1, the line of a refusal: `refused`, its number, its place
unfoldable pub refused_line : ℕ → ℕ → List ℕ
refused_line number place = line (refused_word ∷ digits number ∷ digits place ∷ [])

-- METHOD 9.2, the first line: `months`, n, `start`, the start month
unfoldable pub first_line : ℕ → ℕ → List ℕ
first_line n start = line (months_word ∷ digits n ∷ start_word ∷ digits start ∷ [])

-- METHOD 9.2, the line of a month: t, the figure, D10, D11, D12, D13 and C17
unfoldable pub month_line : Month → List ℕ
month_line m =
    line (digits m.t ∷ signed_digits m.figure
    ∷ signed_digits m.d10 ∷ signed_digits m.d11 ∷ signed_digits m.d12 ∷ signed_digits m.d13 ∷ digits m.c17 ∷ [])

-- the entries between the figure and the weight
abbrev pub entries_part : Month → List ℕ
entries_part m = spaced (signed_digits m.d10) ++ spaced (signed_digits m.d11) ++ spaced (signed_digits m.d12) ++ spaced (signed_digits m.d13)

-- a space and a number, a space and a signed number, and the four entries take at most so many bytes
abbrev pub number_room : ℕ
number_room = 1 + most_digits

abbrev pub signed_room : ℕ
signed_room = 1 + most_signed

abbrev pub entries_room : ℕ
entries_room = 4 * signed_room

-- a line takes at most so many bytes, and so does the text: line one and a line a month
abbrev pub line_room : ℕ
line_room = 160

abbrev pub text_room : ℕ
text_room = line_room * (most_months + 1)

-- the first t lines, line k being f k
unfoldable pub lines : (ℕ → List ℕ) → ℕ → List ℕ
lines f zero = []
lines f (suc t) = lines f t ++ f t

-- a series and its tables
pub record SeriesTables : Type 0 where
  pub figures : List ℤ
  pub d10 : List ℤ
  pub d11 : List ℤ
  pub d12 : List ℤ
  pub d13 : List ℤ
  pub c17 : List ℕ

-- its month t
abbrev pub month_at : SeriesTables → ℕ → Month
month_at s t = record { t = t; figure = s.figures ‼ t; d10 = s.d10 ‼ t; d11 = s.d11 ‼ t; d12 = s.d12 ‼ t; d13 = s.d13 ‼ t; c17 = get_or s.c17 t 0 }

-- METHOD 9.2: the lines of all months, and the whole text
unfoldable pub month_lines : SeriesTables → List ℕ
month_lines s = lines (λ t. month_line (month_at s t)) (length s.figures)

unfoldable pub tables_text : SeriesTables → ℕ → List ℕ
tables_text s start = first_line (length s.figures) start ++ month_lines s

-- each table is as long as the series
pub record SameLength (s : SeriesTables) : Type 0 where
  pub in10 : length s.d10 ≡ length s.figures
  pub in11 : length s.d11 ≡ length s.figures
  pub in12 : length s.d12 ≡ length s.figures
  pub in13 : length s.d13 ≡ length s.figures
  pub in17 : length s.c17 ≡ length s.figures
