-- METHOD 7.1: the two arrays of a desk file, figures and weights, as bytes and in a byte string.
use Rattle.std.specs.Prelude.{ℕ, ◌+◌, ◌*◌, List, ℤ}
use Rattle.integers.specs.Lists.{tab}
use Rattle.little_endian.specs.Bytes.{number_at, word, signed, array}

-- the figures as bytes: signed, 4 bytes each
unfoldable pub figures_bytes : List ℤ → List ℕ
figures_bytes figures = array 4 word figures

-- the weights as bytes: 2 bytes each
unfoldable pub weights_bytes : List ℕ → List ℕ
weights_bytes weights = array 2 (λ w. w) weights

-- the figure at place i of an array of figures that starts at byte `from`
unfoldable pub stored_figure : List ℕ → ℕ → ℕ → ℤ
stored_figure file from i = signed (number_at file (from + 4 * i) 4)

-- the weight at place i of an array of weights that starts at byte `from`
unfoldable pub stored_weight : List ℕ → ℕ → ℕ → ℕ
stored_weight file from i = number_at file (from + 2 * i) 2

-- n figures as they stand, the first at byte `from`
unfoldable pub figures_at : List ℕ → ℕ → ℕ → List ℤ
figures_at file from n = tab n (stored_figure file from)

-- n weights as they stand, the first at byte `from`
unfoldable pub weights_at : List ℕ → ℕ → ℕ → List ℕ
weights_at file from n = tab n (stored_weight file from)
