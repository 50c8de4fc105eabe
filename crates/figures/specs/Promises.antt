-- What the loops over the figures ask of their arguments. Nothing here is promised to a caller of the desk.
use Rattle.std.specs.Prelude.{◌≡◌, List, ℕ, ◌≤◌, ◌<◌, length, get_or, ℤ}
use Rattle.integers.specs.Lists.{AllWithin}
use Rattle.refusals.specs.Limits.{full_weight}
use Rattle.series.specs.Promises.{Figures, widest}
use Rattle.extremes.specs.Promises.{largest_irregular}

-- a seasonal beside the figures
pub record WithSeasonal (f s : List ℤ) : Type 0 where
  pub figures : Figures f
  pub long : length s ≡ length f
  pub small : AllWithin widest s

-- an irregular and its weights beside the figures
pub record WithWeights (f irregular : List ℤ) (weights : List ℕ) : Type 0 where
  pub figures : Figures f
  pub irregular_long : length irregular ≡ length f
  pub weights_long : length weights ≡ length f
  pub small : AllWithin largest_irregular irregular
  pub light : (t : ℕ) → t < length f → get_or weights t 0 ≤ full_weight
