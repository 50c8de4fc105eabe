-- METHOD 6.3: how near the rounded steps of a pass are to their exact working.
use Rattle.std.specs.Prelude.{List, ℕ, ℤ}
use Rattle.series.specs.Distance.{AllAtMostApart}
use Rattle.steps.specs.Choices.{Choices}
use Rattle.steps.specs.Exact.{over_t2, over_s2, exact_t2, exact_s2}

-- METHOD 6.3, of t and s as T2 and S2 of a pass on x: t lies within p grains of the exact T2, and s within q of the exact S2
pub record Near (c : Choices) (p q : ℕ) (x t s : List ℤ) : Type 0 where
  pub trend : AllAtMostApart p (over_t2 c) t (exact_t2 c x)
  pub seasonal : AllAtMostApart q (over_s2 c) s (exact_s2 c x)
