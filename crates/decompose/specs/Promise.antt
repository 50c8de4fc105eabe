-- METHOD 8 and 10: what decomposing answers, and what it leaves in the lent slices, for all inputs.
use Rattle.std.specs.Prelude.{◌≡◌, List, ℕ, ◌<◌, length, ℤ, Result, Ok, Err}
use Rattle.refusals.specs.declared.Refusal.{Refusal}
use Rattle.refusals.specs.Sheet.{Answer, success, refusal, refusal_of}
use Rattle.tables.specs.Tables.{B1, B17, C17, D1, final_seasonal_filter, D10, D11, final_terms, D12, D13}
use Rattle.tables.specs.Nearness.{PassesNear, NearAt}
use Rattle.checks.specs.declared.Lengths.{Lengths}
use Rattle.scratch.specs.Scratch.{zeroed}
use Rattle.checks.specs.Answer.{answer_for}

-- METHOD 8.3: the lent slices
pub record Slices : Type 0 where
  pub d10 : List ℤ
  pub d11 : List ℤ
  pub d12 : List ℤ
  pub d13 : List ℤ
  pub b17 : List ℕ
  pub c17 : List ℕ
  pub scratch : List ℤ

-- METHOD 8.3: how long they are
unfoldable pub lengths_of : Slices → Lengths
lengths_of s =
    record {
      d10 = length s.d10;
      d11 = length s.d11;
      d12 = length s.d12;
      d13 = length s.d13;
      b17 = length s.b17;
      c17 = length s.c17;
      scratch = length s.scratch;
    }

-- what an answer says: tables, or a refusal's number and place on the sheet (METHOD 8.1)
abbrev pub says : Result Unit Refusal → Answer Unit
says (Ok done) = success tt
says (Err r) = refusal_of r

-- METHOD 8.2: the first row that applies, else the tables; the slices count by their lengths alone
unfoldable pub answer : ℕ → List ℤ → Slices → Answer Unit
answer start figures lent = answer_for start figures (lengths_of lent)

-- METHOD 8.4: what the slices hold after an answer. After success: the tables, the weights, and the scratch with its first 5n entries zero and the
-- rest as it was. A refusal changes none of them
unfoldable pub after : Answer Unit → ℕ → List ℤ → Slices → Slices
after (success _) start figures s =
    record {
      d10 = D10 start figures;
      d11 = D11 start figures;
      d12 = D12 start figures;
      d13 = D13 start figures;
      b17 = B17 start figures;
      c17 = C17 start figures;
      scratch = zeroed (length figures) s.scratch;
    }
after (refusal number place) start figures s = s

-- METHOD 10, the promise of decomposing: of its answer r and of the slices as lent and as left
pub record Promise (start : ℕ) (figures : List ℤ) (lent : Slices) (r : Result Unit Refusal) (left : Slices) : Type 0 where
  pub answered : says r ≡ answer start figures lent
  pub slices : left ≡ after (answer start figures lent) start figures lent
  -- METHOD 10.3 with 6.4: where the answer is tables, in each month, the exact working taking the seasonal filter and the length that the rules choose
  pub near : says r ≡ success tt → (t : ℕ) → t < length figures
      → NearAt (final_seasonal_filter start figures) (final_terms start figures) (B1 start figures) (D1 start figures) left.d10 left.d11 left.d12 left.d13 t
  -- METHOD 6.3, of each pass on its X: facts of the rules, which hold of any figures, whatever the program leaves
  pub passes : PassesNear start figures

-- METHOD 8.4, which follows: a refusal, whichever it is, leaves every slice as it was lent (shown in proofs/Answers.antt)
abbrev pub RefusalTouchesNothing : Type 0
RefusalTouchesNothing = (start : ℕ) (figures : List ℤ) (lent left : Slices) (q : Refusal) → Promise start figures lent (Err q) left → left ≡ lent
