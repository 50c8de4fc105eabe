-- The text of an input from its first bytes. Nothing here is promised to a caller of the desk.
use Rattle.std.specs.Prelude.{◌≡◌, List, ℕ, length, take}
use Rattle.print_tables.specs.Printed.{PrintDone}

-- n bytes of the file are the first of an input, as many as the file has room for: its text is put together, however long the input is
pub record InputPrinted (file : List ℕ) (n : ℕ) (out₀ : List ℕ) (r : ℕ) (out : List ℕ) : Type 0 where
  pub each : (input : List ℕ) → take (length file) input ≡ take n file → PrintDone input out₀ r out
