-- The program reads no more than 3,605 bytes. For an input that is longer, what it prints for these is what is printed for the whole input.
use Prim.Native.Nat.{ℕ, ◌+◌, ◌≤◌, ◌<◌}
use mathlib.Core.Path.{◌≡◌, refl, sym, ap, ◌∙◌}
use mathlib.Core.Bool.{Bool, true, false, cond, not}
use mathlib.Core.List.{List, ◌++◌}
use native.Mathlib.Omega.{arith}
use native.Mathlib.Decide.{dec_le}
use borrow.Author.Tests.{le-ltb, ltb-false, ne_eqb}
use lib.Dec.{ltb, eqb}
use lib.ListN.{length, take, drop, length-take, length-append}
use lib.Seq.{get_or-take, length-take-le, take_all}
use Rattle.refusals.specs.Limits.{least_months, most_months, months_of_year}
use Rattle.refusals.specs.Inside.{start_inside}
use Rattle.refusals.specs.Sheet.{Answer, refusal}
use Rattle.little_endian.specs.Bytes.{number_at}
use Rattle.desk_forms.specs.Header.{count_in, start_in, period_in}
use Rattle.desk_forms.specs.File.{header_length, file_length}
use Rattle.desk_file.specs.ReadFile.{Accepted, read_answer}
use Rattle.print_tables.specs.Printed.{read_text, printed, PrintDone}
use Rattle.print_input.specs.Promises.{InputPrinted}

-- a file that is longer than the longest desk file is refused, by its sizes alone
abbrev refused_by : Bool → Bool → Bool → Bool → Answer Accepted
refused_by few many start period = cond few (refusal 1 0) (cond many (refusal 2 0) (cond start (refusal 3 0) (cond period (refusal 8 0) (refusal 9 0))))

abbrev by_sizes : List ℕ → Answer Accepted
by_sizes file = refused_by (ltb (count_in file) least_months) (ltb most_months (count_in file)) (not (start_inside (start_in file))) (not (eqb (period_in file) months_of_year))

refused_long : (file : List ℕ) → file_length most_months < length file → read_answer file most_months most_months ≡ by_sizes file
unfolding read_answer
refused_long file h = by (ltb most_months (count_in file)) refl
  where
    by : (b : Bool) → ltb most_months (count_in file) ≡ b → read_answer file most_months most_months ≡ by_sizes file
    by true e = rw (le-ltb (length file) header_length (omega arith), e)
    by false e = rw (le-ltb (length file) header_length (omega arith), e, ne_eqb (length file) (file_length (count_in file)) (λ q. omega (arith, ltb-false most_months (count_in file) e)))

text_of : (a b c d : Bool) (f g : List ℕ) → read_text (refused_by a b c d) f ≡ read_text (refused_by a b c d) g
unfolding read_text
text_of true b c d f g = refl
text_of false true c d f g = refl
text_of false false true d f g = refl
text_of false false false true f g = refl
text_of false false false false f g = refl

-- the sizes stand in the part that is read
module _ (file : List ℕ) (n : ℕ) (h : 4 ≤ n) where
  sizes-read : by_sizes (take n file) ≡ by_sizes file
  unfolding count_in start_in period_in number_at
  sizes-read = rw (get_or-take n file 0 0 (omega arith), get_or-take n file 1 0 (omega arith), get_or-take n file 2 0 (omega arith), get_or-take n file 3 0 (omega arith))

pub read_enough : (file : List ℕ) → file_length most_months < length file → printed (take (file_length most_months + 1) file) ≡ printed file
unfolding printed
read_enough file h =
    let part = take (file_length most_months + 1) file in
    let long : length part ≡ file_length most_months + 1 = length-take-le (file_length most_months + 1) file (omega arith) in
    let same : read_answer part most_months most_months ≡ read_answer file most_months most_months =
    refused_long part (omega arith) ∙ sizes-read file (file_length most_months + 1) (omega arith) ∙ sym (refused_long file h) in
    ap (λ (a : Answer Accepted). read_text a part) (same ∙ refused_long file h)
    ∙ text_of (ltb (count_in file) least_months) (ltb most_months (count_in file)) (not (start_inside (start_in file))) (not (eqb (period_in file) months_of_year)) part file
    ∙ ap (λ (a : Answer Accepted). read_text a file) (sym (refused_long file h))

-- so the bytes that are read decide, however long the input is
pub input_decides : (file input : List ℕ) (n : ℕ) → length file ≡ file_length most_months + 1 → take (length file) input ≡ take n file → printed (take n file) ≡ printed input
input_decides file input n l e = ap printed (sym e) ∙ go (dec_le (length input) (length file))
  where
    go : Dec (length input ≤ length file) → printed (take (length file) input) ≡ printed input
    go (yes h) = ap printed (take_all (length file) input h)
    go (no h) = ap (λ (k : ℕ). printed (take k input)) l ∙ read_enough input (omega arith)

pub input-printed : {file out₀ out : List ℕ} {n r : ℕ} → length file ≡ file_length most_months + 1 → PrintDone (take n file) out₀ r out → InputPrinted file n out₀ r out
input-printed {file} {out₀} {n = n} {r = r} l d = record {
  each = λ input e. let same = input_decides file input n l e in
      record { answer = d.answer ∙ ap length same; out_left = d.out_left ∙ ap (λ (text : List ℕ). text ++ drop r out₀) same };
}

-- and it lies in the array
pub printed-inside : {file out₀ out : List ℕ} {n r : ℕ} → n ≤ length file → InputPrinted file n out₀ r out → r ≤ length out
printed-inside {file} {out₀} {n = n} {r = r} h p =
    let part = take n file in
    let d = p.each part (take_all (length file) part (omega (arith, length-take n file))) in
    omega (arith, ap length d.out_left, length-append (printed part) (drop r out₀), d.answer)
