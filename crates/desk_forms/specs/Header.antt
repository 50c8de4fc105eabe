-- METHOD 7.1: what both forms of a desk file start with, and the lengths of their parts.
use Rattle.std.specs.Prelude.{ℕ, ◌+◌, ◌*◌, ◌^◌, ◌<◌, ◌≡◌, List, ◌++◌, ℤ, length, get_or}
use Rattle.integers.specs.Lists.{◌‼◌}
use Rattle.little_endian.specs.Bytes.{FourBytes, bytes_of, number_at}

-- a series with weights: its start month, its figures in units and its weights, in order of t; n is the number of figures
pub record SeriesWithWeights : Type 0 where
  pub start : ℕ
  pub figures : List ℤ
  pub weights : List ℕ

abbrev pub series : ℕ → List ℤ → List ℕ → SeriesWithWeights
series start figures weights = record { start = start; figures = figures; weights = weights }

-- what the fields of a file can hold: a count of 2 bytes, a start month of 1, signed figures of 4, weights of 2; as many weights as figures
pub record Storable (s : SeriesWithWeights) : Type 0 where
  pub count : length s.figures < 2 ^ 16
  pub start : s.start < 2 ^ 8
  pub same : length s.weights ≡ length s.figures
  pub figures_fit : (t : ℕ) → t < length s.figures → FourBytes (s.figures ‼ t)
  pub weights_fit : (t : ℕ) → t < length s.weights → get_or s.weights t 0 < 2 ^ 16

-- METHOD 7.1: the count in 2 bytes, the start month in 1, the period in 1
unfoldable pub header : ℕ → ℕ → ℕ → List ℕ
header count start period = bytes_of 2 count ++ bytes_of 1 start ++ bytes_of 1 period

-- and in a byte string: the count in the 2 bytes from place 0 on (this and the start month also of a members' sheet, METHOD 7.10)
unfoldable pub count_in : List ℕ → ℕ
count_in file = number_at file 0 2

-- the start month in the byte at place 2
unfoldable pub start_in : List ℕ → ℕ
start_in file = number_at file 2 1

-- the period in the byte at place 3
unfoldable pub period_in : List ℕ → ℕ
period_in file = number_at file 3 1

-- the figures start behind the h bytes in front of them and take 4 bytes each: the weights of n months start after them
abbrev pub weights_start : ℕ → ℕ → ℕ
weights_start h n = h + 4 * n

-- the weights take 2 bytes each: a file of n months ends after them
abbrev pub length_for : ℕ → ℕ → ℕ
length_for h n = weights_start h n + 2 * n
