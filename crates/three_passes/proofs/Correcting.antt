-- What each call leaves in which extremes are corrected, and what the next one asks.
use mathlib.Core.Path.{◌≡◌, sym, ap, ◌∙◌}
use mathlib.Core.List.{List}
use Prim.Native.Nat.{ℕ}
use native.Mathlib.Omega.{arith}
use lib.ListN.{length}
use lib.IntN.{ℤ}
use Rattle.integers.specs.Lists.{AllWithin}
use Rattle.refusals.specs.Limits.{unit, months_of_year}
use Rattle.series.specs.Operations.{minus, times}
use Rattle.series.specs.Promises.{Minusable, Figures, Workable}
use Rattle.series.proofs.Lengths.{length-minus, length-times}
use Rattle.series.proofs.Largest.{larger, within-minus, within-times}
use Rattle.extremes.specs.Promises.{Weighable}
use Rattle.extremes.specs.Weighing.{weights_of}
use Rattle.extremes.proofs.WeighingLaws.{length-weights, weights-most}
use Rattle.tables.specs.Tables.{irregular_of, corrections}
use Rattle.tables.specs.Bounds.{largest_b1, largest_c13}
use Rattle.tables.proofs.Sizes.{length-irregular, within_irregular}
use Rattle.figures.specs.Promises.{WithSeasonal, WithWeights}
use Rattle.three_passes.specs.Promises.{Correctable, less_extremes, ExtremesCorrected}

-- B1 as the code has it, the figures times 1,000
pub within_grains : {f : List ℤ} → Figures f → AllWithin largest_b1 (times unit f)
within_grains {f} h = within-times unit f h.small

module _ {start : ℕ} {f s t : List ℤ} (v : Workable start f) (h : Correctable f s t) where
  abbrev b1 : List ℤ
  b1 = times unit f

  b1_small : AllWithin largest_b1 b1
  b1_small = within_grains v.figures

  pub beside : WithSeasonal f s
  beside = record { figures = v.figures; long = h.s_long; small = larger h.s_small (omega arith) }

  pub minusable : {a : List ℤ} → a ≡ minus b1 s → Minusable a t
  minusable e = rw e (record {
    short = omega (arith, length-minus b1 s, length-times unit f, v.figures.short);
    long = omega (arith, length-minus b1 s, length-times unit f, h.t_long);
    left = larger (within-minus b1_small h.s_small) (omega arith);
    right = larger h.t_small (omega arith);
  })

  pub to_irregular : {a b : List ℤ} → a ≡ minus b1 s → b ≡ minus a t → b ≡ irregular_of b1 s t
  unfolding irregular_of
  to_irregular e k = k ∙ rw e

  -- b holds that irregular
  module _ {b : List ℤ} (e : b ≡ irregular_of b1 s t) where
    length-is : length b ≡ length f
    length-is = ap length e ∙ length-irregular b1 s t ∙ length-times unit f

    small : AllWithin largest_c13 b
    small = rw e (within_irregular b1_small h.s_small h.t_small)

    pub weighable : {a c : List ℤ} {w : List ℕ} → length a ≡ length f → length c ≡ length f → length w ≡ length f → Weighable start months_of_year b a c w
    weighable i j k = record {
      calendar = record {
        least = omega (arith, length-is, v.long);
        most = omega (arith, length-is, v.figures.short);
        early = v.early;
        late = v.late;
      };
      small = larger small (omega arith);
      sizes = i ∙ sym length-is;
      sums = j ∙ sym length-is;
      weights = k ∙ sym length-is;
    }

    pub weighted : {w : List ℕ} → w ≡ weights_of start months_of_year b → WithWeights f b w
    weighted i = rw i (record {
      figures = v.figures;
      irregular_long = length-is;
      weights_long = length-weights start months_of_year b ∙ length-is;
      small = larger small (omega arith);
      light = λ t l. weights-most start months_of_year b t;
    })

    pub extremes_corrected : {w : List ℕ} {o : List ℤ} → w ≡ weights_of start months_of_year b → o ≡ minus b1 (corrections b w)
        → ExtremesCorrected start b1 s t o b w
    unfolding less_extremes
    extremes_corrected i k = record { series = k ∙ rw (i, e); irregular = e; weights = i ∙ ap (weights_of start months_of_year) e }
