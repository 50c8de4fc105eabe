-- METHOD 7.1, the plain desk file: the bytes of a series with weights, and what a byte string means.
use Rattle.std.specs.Prelude.{ℕ, ◌+◌, ◌*◌, ◌≡◌, List, ◌++◌, length}
use Rattle.refusals.specs.Limits.{months_of_year}
use Rattle.desk_arrays.specs.Arrays.{figures_bytes, weights_bytes, figures_at, weights_at}
use Rattle.desk_forms.specs.Header.{SeriesWithWeights, header, count_in, start_in, weights_start, length_for}

-- METHOD 7.1: the header, with period 12, then the figures and the weights
unfoldable pub file_bytes : SeriesWithWeights → List ℕ
file_bytes s = header (length s.figures) s.start months_of_year ++ figures_bytes s.figures ++ weights_bytes s.weights

-- the header takes 2 + 1 + 1 bytes
abbrev pub header_length : ℕ
header_length = 4

-- METHOD 7.1: the length of a file of n months; it is 4 + 6n, and as many are the bytes of a series (proofs/FileLaws: four_and_six, plain-length)
abbrev pub file_length : ℕ → ℕ
file_length n = length_for header_length n

abbrev pub FourAndSix : Type 0
FourAndSix = (n : ℕ) → file_length n ≡ 4 + 6 * n

abbrev pub FileLength : Type 0
FileLength = (s : SeriesWithWeights) → length s.weights ≡ length s.figures → length (file_bytes s) ≡ file_length (length s.figures)

-- METHOD 7.1: what an accepted byte string means; bytes past the end count 0
unfoldable pub series_in : List ℕ → SeriesWithWeights
series_in file = record {
  start = start_in file;
  figures = figures_at file header_length (count_in file);
  weights = weights_at file (weights_start header_length (count_in file)) (count_in file);
}
