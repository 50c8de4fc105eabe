-- METHOD 9: what is printed for a desk file, by what reading and decomposing answer.
use Rattle.std.specs.Prelude.{ℕ, ◌≡◌, List, [], ◌++◌, ℤ, length, drop}
use Rattle.refusals.specs.Limits.{most_months}
use Rattle.refusals.specs.Sheet.{Answer, success, refusal}
use Rattle.desk_forms.specs.File.{series_in}
use Rattle.desk_file.specs.ReadFile.{Accepted, accepted, read_answer}
use Rattle.scratch.specs.Scratch.{scratch_for}
use Rattle.checks.specs.declared.Lengths.{Lengths}
use Rattle.tables.specs.Tables.{C17, D10, D11, D12, D13}
use Rattle.checks.specs.Answer.{answer_for}
use Rattle.print_lines.specs.Text.{refused_line, SeriesTables, tables_text}

-- METHOD 8.3: how long the slices are that the program lends for n months: the tables and weights n each, the scratch enough for the longest series
abbrev pub lent_for : ℕ → Lengths
lent_for n = record { d10 = n; d11 = n; d12 = n; d13 = n; b17 = n; c17 = n; scratch = scratch_for most_months }

-- METHOD 8.2: what decomposing answers then
unfoldable pub series_answer : ℕ → List ℤ → Answer Unit
series_answer start figures = answer_for start figures (lent_for (length figures))

-- METHOD 9.2: the tables of a series, of which its lines are made
unfoldable pub tables_of : ℕ → List ℤ → SeriesTables
tables_of start figures =
    record {
      figures = figures;
      d10 = D10 start figures;
      d11 = D11 start figures;
      d12 = D12 start figures;
      d13 = D13 start figures;
      c17 = C17 start figures;
    }

-- METHOD 9.1, 9.2: the tables, or the line of a refusal by decomposing
unfoldable pub decomposed_text : Answer Unit → ℕ → List ℤ → List ℕ
decomposed_text (success _) start figures = tables_text (tables_of start figures) start
decomposed_text (refusal number place) start figures = refused_line number place

unfoldable pub series_text : ℕ → List ℤ → List ℕ
series_text start figures = decomposed_text (series_answer start figures) start figures

-- METHOD 9.1: the line of a refusal by the reader, and nothing for an accepted file
unfoldable pub unread_text : Answer Accepted → List ℕ
unread_text (success _) = []
unread_text (refusal number place) = refused_line number place

-- METHOD 9.1: a refusal by the reader, or what decomposing makes of the figures; the weights of an accepted file play no part
unfoldable pub read_text : Answer Accepted → List ℕ → List ℕ
read_text (success a) file = series_text a.start (series_in file).figures
read_text (refusal number place) file = refused_line number place

-- METHOD 9: the text for a byte string
unfoldable pub printed : List ℕ → List ℕ
printed file = read_text (read_answer file most_months most_months) file

-- METHOD 9.1: if reading accepts a file, whatever lengths it was lent, the text is that of its tables: decomposing never refuses it (shown in
-- proofs/ReadPrinted.antt)
abbrev pub ReadThenPrinted : Type 0
ReadThenPrinted = (file : List ℕ) (figuresRoom weightsRoom n start : ℕ) → read_answer file figuresRoom weightsRoom ≡ accepted n start
    → printed file ≡ tables_text (tables_of start (series_in file).figures) start

-- METHOD 9 and 10.1, the promise of `put_file`, for every byte string: the answer is the length of its text, which stands at the front of the
-- array; the rest of the array is as it was
pub record PrintDone (file out₀ : List ℕ) (r : ℕ) (out : List ℕ) : Type 0 where
  pub answer : r ≡ length (printed file)
  pub out_left : out ≡ printed file ++ drop r out₀
