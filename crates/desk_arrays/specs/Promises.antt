-- What the functions on arrays promise, for entries of any kind.
use Rattle.std.specs.Prelude.{ℕ, ◌+◌, ◌*◌, List}
use Rattle.integers.specs.Lists.{tab}
use Rattle.little_endian.specs.Bytes.{number_at}

-- n numbers of so many bytes, the first at byte `from`
unfoldable pub numbers_at : ℕ → List ℕ → ℕ → ℕ → List ℕ
numbers_at width file from n = tab n (λ i. number_at file (from + width * i) width)

-- n entries, each stored as such a number; `decode` gives the entry that a number stands for
unfoldable pub entries_at : {A : Type 0} → ℕ → (ℕ → A) → List ℕ → ℕ → ℕ → List A
entries_at width decode file from n = tab n (λ i. decode (number_at file (from + width * i) width))
