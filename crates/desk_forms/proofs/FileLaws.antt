-- Laws of the desk file in both forms: its lengths, its header, and the file as it is stored part by part.
use Prim.Native.Nat.{ℕ, ◌+◌, ◌*◌, ◌≤◌}
use mathlib.Core.Path.{◌≡◌, refl, sym, ap, ◌∙◌}
use mathlib.Core.List.{List, ◌++◌}
use native.Mathlib.Omega.{arith}
use lib.IntN.{pos}
use lib.ListN.{length, get_or, drop, length-append}
use lib.Seq.{sets, sets-eq}
use Rattle.integers.proofs.Stores.{sets-append}
use Rattle.refusals.specs.Limits.{months_of_year}
use Rattle.little_endian.specs.Bytes.{bytes_of, number_at}
use Rattle.little_endian.proofs.NumberLaws.{length-bytes}
use Rattle.chart.specs.Chart.{Starts, month_order}
use Rattle.chart.proofs.Rearranging.{length-month_order}
use Rattle.chart.proofs.Loops.{one-starts, month_order-one}
use Rattle.desk_arrays.specs.Arrays.{figures_bytes, weights_bytes}
use Rattle.desk_arrays.proofs.ArrayLaws.{length-figures_bytes, length-weights_bytes}
use Rattle.desk_forms.specs.declared.Form.{Form}
use Rattle.desk_forms.specs.declared.Form.TheVariants.{Plain, Columns}
use Rattle.desk_forms.specs.Header.{SeriesWithWeights, header, start_in, period_in, weights_start, length_for}
use Rattle.desk_forms.specs.File.{file_length, file_bytes, FourAndSix, FileLength}
use Rattle.desk_forms.specs.ColumnsFile.{columns_length, columns_bytes, SixAndSix, ColumnsLength}
use Rattle.desk_forms.specs.Forms.{front_of, months_in, start_of, front_bytes, bytes_in}

-- ---- the lengths: 436 and 438 bytes for 72 months
pub four_and_six : FourAndSix
four_and_six n = omega arith

pub six_and_six : SixAndSix
six_and_six n = omega arith

pub of-72-months : (file_length 72 ≡ 436) × (columns_length 72 ≡ 438)
of-72-months = (refl, refl)

-- ---- the header
-- the start month and the period are one byte each
pub start_byte : (file : List ℕ) → start_in file ≡ get_or file 2 0
unfolding start_in number_at
start_byte file = omega arith

pub period_byte : (file : List ℕ) → period_in file ≡ get_or file 3 0
unfolding period_in number_at
period_byte file = omega arith

pub length-header : (count start period : ℕ) → length (header count start period) ≡ 4
unfolding header bytes_of
length-header count start period = refl

pub length_front : (form : Form) (n start year : ℕ) → length (front_bytes form n start year) ≡ front_of form
length_front Plain n start year = length-header n start months_of_year
length_front Columns n start year =
    length-append (header n start months_of_year) (bytes_of 2 year) ∙ omega (arith, length-header n start months_of_year, length-bytes 2 year)

-- the first year stored behind the header
pub put_year : (out : List ℕ) (n start year : ℕ)
    → sets (sets out 0 (header n start months_of_year)) 4 (bytes_of 2 year) ≡ sets out 0 (front_bytes Columns n start year)
put_year out n start year = sym (sets-append out 0 4 (header n start months_of_year) (bytes_of 2 year) (omega (arith, length-header n start months_of_year)))

-- ---- a series as bytes: what stands before the figures, and both arrays in the order of the form
abbrev pub figures_part : Form → SeriesWithWeights → List ℕ
figures_part form s = figures_bytes (month_order (pos 0) (months_in form) (start_of form s.start) s.figures)

abbrev pub weights_part : Form → SeriesWithWeights → List ℕ
weights_part form s = weights_bytes (month_order 0 (months_in form) (start_of form s.start) s.weights)

abbrev pub front_part : Form → ℕ → SeriesWithWeights → List ℕ
front_part form year s = front_bytes form (length s.figures) s.start year

pub in_parts : (form : Form) (year : ℕ) (s : SeriesWithWeights) → bytes_in form year s ≡ front_part form year s ++ figures_part form s ++ weights_part form s
unfolding file_bytes columns_bytes
in_parts Plain year s = rw (month_order-one (pos 0) s.figures, month_order-one 0 s.weights)
in_parts Columns year s = refl

module _ (form : Form) (year : ℕ) (s : SeriesWithWeights) (v : Starts (months_in form) (start_of form s.start)) where
  length-figures_part : length (figures_part form s) ≡ 4 * length s.figures
  length-figures_part = length-figures_bytes _ ∙ ap (λ (k : ℕ). 4 * k) (length-month_order (pos 0) (months_in form) (start_of form s.start) v s.figures)

  length-weights_part : length (weights_part form s) ≡ 2 * length s.weights
  length-weights_part = length-weights_bytes _ ∙ ap (λ (k : ℕ). 2 * k) (length-month_order 0 (months_in form) (start_of form s.start) v s.weights)

  pub weights-start : length (front_part form year s ++ figures_part form s) ≡ weights_start (front_of form) (length s.figures)
  weights-start =
      length-append (front_part form year s) (figures_part form s) ∙ omega (arith, length_front form (length s.figures) s.start year, length-figures_part)

  module _ (same : length s.weights ≡ length s.figures) where
    length-parts : length (front_part form year s ++ figures_part form s ++ weights_part form s) ≡ length_for (front_of form) (length s.figures)
    length-parts = length-append (front_part form year s ++ figures_part form s) (weights_part form s) ∙ omega (arith, weights-start, length-weights_part)

    -- the bytes are as many as `length_for` says
    pub file-length : length (bytes_in form year s) ≡ length_for (front_of form) (length s.figures)
    file-length = ap length (in_parts form year s) ∙ length-parts

    -- what is stored part by part is the file, and the rest stays
    pub put_parts : (out : List ℕ) → length_for (front_of form) (length s.figures) ≤ length out
        → sets (sets (sets out 0 (front_part form year s)) (front_of form) (figures_part form s)) (weights_start (front_of form) (length s.figures)) (weights_part form s)
        ≡ bytes_in form year s ++ drop (length_for (front_of form) (length s.figures)) out
    put_parts out room =
        let h = front_part form year s in
        let f = figures_part form s in
        let w = weights_part form s in
        let front : length h ≡ front_of form = length_front form (length s.figures) s.start year in
        let l : 0 + length (h ++ f ++ w) ≡ length_for (front_of form) (length s.figures) = omega (arith, length-parts) in
        rw (in_parts form year s, ← sets-append out 0 (front_of form) h f (omega arith))
        (sym (sets-append out 0 (weights_start (front_of form) (length s.figures)) (h ++ f) w (omega (arith, weights-start))) ∙ sets-eq (h ++ f ++ w) out 0 (omega (arith, length-parts)) ∙ rw l)

pub plain-length : FileLength
plain-length s same = file-length Plain 0 s one-starts same

pub columns-length : ColumnsLength
columns-length year s v same = file-length Columns year s v same
