-- METHOD 8: what decomposing answers. Of the lent slices it looks at their lengths only.
use Rattle.std.specs.Prelude.{Bool, not, ◌&&◌, List, [], ◌∷◌, ℕ, leb, eqb, length, ℤ}
use Rattle.refusals.specs.Sheet.{Answer, success}
use Rattle.refusals.specs.Checks.{Check, check_row, row1, row2, row3, row5, first_to_apply}
use Rattle.scratch.specs.Scratch.{scratch_for}
use Rattle.checks.specs.declared.Lengths.{Lengths}

-- METHOD 8.3: whether the slices have the lengths that row 4 asks for, D10 to D13, B17 and C17 exactly n entries each, the scratch 5n or more
unfoldable pub fitting : ℕ → Lengths → Bool
fitting n l =
    eqb l.d10 n
    && (eqb l.d11 n && (eqb l.d12 n && (eqb l.d13 n && (eqb l.b17 n && (eqb l.c17 n && leb (scratch_for n) l.scratch)))))

-- METHOD 8.2: the checks of decomposing, in their order; n is the number of figures
abbrev pub decompose_checks : ℕ → List ℤ → Lengths → List Check
decompose_checks start figures lengths =
    let n = length figures in
    row1 n
    ∷ row2 n
    ∷ row3 start
    ∷ check_row 4 (not (fitting n lengths))
    ∷ row5 figures
    ∷ []

-- METHOD 8.2: the answer is the first that applies, else the tables
unfoldable pub answer_for : ℕ → List ℤ → Lengths → Answer Unit
answer_for start figures lengths = first_to_apply (decompose_checks start figures lengths) (success tt)
