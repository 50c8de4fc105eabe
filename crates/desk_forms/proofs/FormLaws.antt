-- The two forms by one law each: the order of their arrays, where these lie, and what they mean.
use Prim.Native.Nat.{ℕ}
use mathlib.Core.Path.{◌≡◌, refl, sym, ap, ◌∙◌}
use mathlib.Core.Bool.{true}
use mathlib.Core.List.{List}
use native.Mathlib.Omega.{arith}
use lib.IntN.{pos}
use lib.ListN.{length}
use Rattle.refusals.specs.Limits.{months_of_year}
use Rattle.refusals.specs.Inside.{start_inside}
use Rattle.refusals.specs.Promises.{SpanFits}
use Rattle.refusals.proofs.InsideLaws.{start-inside}
use Rattle.chart.specs.Chart.{Starts, order_of_t}
use Rattle.chart.specs.Promises.{Charted}
use Rattle.chart.proofs.Rearranging.{length-order_of_t}
use Rattle.chart.proofs.Loops.{one-starts, order_of_t-one}
use Rattle.desk_arrays.specs.Arrays.{figures_at, weights_at}
use Rattle.desk_arrays.proofs.ArrayLaws.{length-figures_at, length-weights_at}
use Rattle.desk_forms.specs.declared.Form.{Form}
use Rattle.desk_forms.specs.declared.Form.TheVariants.{Plain, Columns}
use Rattle.desk_forms.specs.Header.{series, count_in, start_in, weights_start}
use Rattle.desk_forms.specs.File.{series_in}
use Rattle.desk_forms.specs.ColumnsFile.{series_in_columns}
use Rattle.desk_forms.specs.Forms.{front_of, months_in, start_of, meaning_of, Sized}

-- ---- the order
pub form_starts : (form : Form) (start : ℕ) → start_inside start ≡ true → Starts (months_in form) (start_of form start)
form_starts Plain start h = one-starts
form_starts Columns start h = let i = start-inside start h in record { least = i.0; most = i.1 }

pub charted_plain : {n start : ℕ} → SpanFits n start → Charted 1 1 n
charted_plain h = record { starts = one-starts; period = omega arith; count = omega (arith, h.most); full = omega (arith, h.least) }

pub charted_columns : {n start : ℕ} → SpanFits n start → Charted months_of_year start n
charted_columns {n} {start} h = record {
  starts = form_starts Columns start h.inside;
  period = omega arith;
  count = omega (arith, h.most);
  full = omega (arith, h.least);
}

pub charted_form : (form : Form) {n start : ℕ} → SpanFits n start → Charted (months_in form) (start_of form start) n
charted_form Plain h = charted_plain h
charted_form Columns h = charted_columns h

-- ---- what a file means
pub figures_by : (form : Form) (file : List ℕ)
    → order_of_t (pos 0) (months_in form) (start_of form (start_in file)) (figures_at file (front_of form) (count_in file)) ≡ (meaning_of form file).figures
unfolding series_in series_in_columns
figures_by Plain file = order_of_t-one (pos 0) _
figures_by Columns file = refl

pub weights-by : (form : Form) (file : List ℕ)
    → order_of_t 0 (months_in form) (start_of form (start_in file)) (weights_at file (weights_start (front_of form) (count_in file)) (count_in file)) ≡ (meaning_of form file).weights
unfolding series_in series_in_columns
weights-by Plain file = order_of_t-one 0 _
weights-by Columns file = refl

pub meaning_start : (form : Form) (file : List ℕ) → (meaning_of form file).start ≡ start_in file
unfolding series_in series_in_columns
meaning_start Plain file = refl
meaning_start Columns file = refl

pub meaning-whole : (form : Form) (file : List ℕ) → meaning_of form file ≡ series (start_in file) (meaning_of form file).figures (meaning_of form file).weights
unfolding series_in series_in_columns
meaning-whole Plain file = refl
meaning-whole Columns file = refl

-- its series, in order of t
module _ {form : Form} {file : List ℕ} {n start : ℕ} (z : Sized form file n start) where
  pub form_figures : order_of_t (pos 0) (months_in form) (start_of form start) (figures_at file (front_of form) n) ≡ (meaning_of form file).figures
  form_figures = rw (z.count, z.begins) (figures_by form file)

  pub form-weights : order_of_t 0 (months_in form) (start_of form start) (weights_at file (weights_start (front_of form) n) n) ≡ (meaning_of form file).weights
  form-weights = rw (z.count, z.begins) (weights-by form file)

  pub meaning-months : (length (meaning_of form file).figures ≡ n) × (length (meaning_of form file).weights ≡ n)
  meaning-months =
      let v = form_starts form start z.inside in (
        ap length (sym form_figures) ∙ length-order_of_t (pos 0) (months_in form) (start_of form start) v _ ∙ length-figures_at file (front_of form) n,
        ap length (sym form-weights) ∙ length-order_of_t 0 (months_in form) (start_of form start) v _ ∙ length-weights_at file (weights_start (front_of form) n) n,
      )
