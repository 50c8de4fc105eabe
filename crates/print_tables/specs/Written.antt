-- METHOD 7.3: what decomposing leaves in B17 and C17, writing accepts (shown in proofs/Written.antt).
use Rattle.std.specs.Prelude.{ℕ, ◌+◌, ◌*◌, ◌≤◌, ◌≡◌, List, ℤ, length, Ok}
use Rattle.refusals.specs.Sheet.{success}
use Rattle.desk_forms.specs.Header.{series}
use Rattle.desk_file.specs.WriteFile.{write_answer}
use Rattle.decompose.specs.Promise.{Slices, Promise}

-- METHOD 7.3: a series with these weights is written into every output that has room for its file, 4 + 6n bytes, and the answer is that length
pub record Written (start : ℕ) (figures : List ℤ) (weights : List ℕ) : Type 0 where
  pub accepted : (room : ℕ) → 4 + 6 * length figures ≤ room → write_answer (series start figures weights) room ≡ success (4 + 6 * length figures)

-- METHOD 1.5 and 7.3: so the series that was decomposed, with what is left in B17, and with what is left in C17
pub record WeightsWritten (start : ℕ) (figures : List ℤ) (left : Slices) : Type 0 where
  pub b17 : Written start figures left.b17
  pub c17 : Written start figures left.c17

-- for every series and whatever slices were lent, where the answer of decomposing is tables
abbrev pub DecomposedThenWritten : Type 0
DecomposedThenWritten = (start : ℕ) (figures : List ℤ) (lent left : Slices) → Promise start figures lent (Ok tt) left → WeightsWritten start figures left
