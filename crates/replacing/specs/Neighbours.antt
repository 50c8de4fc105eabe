-- METHOD 3.9: the neighbours of a value in its month's run. They follow from the weights w alone. A year has `period` months. t and n count the places of
-- the values themselves: SI1 has its first value, that of month 6, at place 0.
use Rattle.std.specs.Prelude.{cond, List, [], ◌∷◌, ◌++◌, ℕ, zero, suc, ◌+◌, ◌*◌, ◌-◌, ◌/◌, min, ltb, leb, eqb, length, get_or, take}
use Rattle.integers.specs.Lists.{tab}
use Rattle.refusals.specs.Limits.{full_weight}

-- METHOD 3.9: of some places those whose weight is 1,000 exactly
unfoldable pub of_full_weight : List ℕ → List ℕ → List ℕ
of_full_weight w [] = []
of_full_weight w (p ∷ ps) = cond (eqb (get_or w p 0) full_weight) (p ∷ of_full_weight w ps) (of_full_weight w ps)

-- METHOD 3.9: of earlier places es and later places ls, each side nearest first, the k nearest to t: of two that are equally near the earlier comes
-- first; all there are, if fewer
unfoldable pub nearest : ℕ → ℕ → List ℕ → List ℕ → List ℕ
nearest zero t es ls = []
nearest (suc k) t [] [] = []
nearest (suc k) t [] (q ∷ ls) = q ∷ nearest k t [] ls
nearest (suc k) t (p ∷ es) [] = p ∷ nearest k t es []
nearest (suc k) t (p ∷ es) (q ∷ ls) = cond (leb (t - p) (q - t)) (p ∷ nearest k t es (q ∷ ls)) (q ∷ nearest k t (p ∷ es) ls)

module _ (period : ℕ) where
  -- the places of t's run before it, t - 12, t - 24, .., and after it among n values, t + 12, t + 24, ..
  unfoldable pub run_before : ℕ → List ℕ
  run_before t = tab (t / period) (λ i. t - (i + 1) * period)

  unfoldable pub run_after : ℕ → ℕ → List ℕ
  run_after n t = tab ((n - 1 - t) / period) (λ i. t + (i + 1) * period)

  -- METHOD 3.9: those of weight 1,000, nearest first
  unfoldable pub full_before : List ℕ → ℕ → List ℕ
  full_before w t = of_full_weight w (run_before t)

  unfoldable pub full_after : List ℕ → ℕ → List ℕ
  full_after w t = of_full_weight w (run_after (length w) t)

  -- METHOD 3.9: the neighbours of the value at t: the two nearest on each side, or, if one side has fewer than two, the three nearest of both
  unfoldable pub neighbours : List ℕ → ℕ → List ℕ
  neighbours w t =
      cond (ltb (min (length (full_before w t)) (length (full_after w t))) 2)
      (nearest 3 t (full_before w t) (full_after w t))
      (take 2 (full_before w t) ++ take 2 (full_after w t))
