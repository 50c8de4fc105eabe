-- `replacing::Weighed::neighbours` meets its contract: a case for each test.
use mathlib.Core.Path.{◌≡◌, ap, ◌∙◌}
use mathlib.Core.List.{List, ◌∷◌}
use Prim.Native.Nat.{ℕ}
use native.Mathlib.Omega.{arith}
use lib.ListN.{length}
use Rattle.std.specs.Prelude.{None}
use Rattle.integers.proofs.Signed64.{i_kept, i_fits}
use Rattle.refusals.specs.Limits.{months_of_year}
use Rattle.replacing.specs.Neighbours.{full_before, full_after}
use Rattle.replacing.proofs.NeighbourLaws.{three_of, four-summed, summed-as, four_read}
use Rattle.replacing.proofs.Weighed.neighbours.Goals.{in_default-via-in-Some+in-None-1, in_default-via-in-None-1, in_default-via-in-Some-Some+in-None-1, in_default-via-in-Some-Some+in-Some+in-None-1}
use Rattle.replacing.proofs.Weighed.neighbours.Goals as goal

pub overflow_add-result-3 : goal.overflow_add-result-3
overflow_add-result-3 c = i_fits (four_read c.args.self.now.fits.filterable.small c.in-Some-Some.a c.in-Some.c c.in-Some-Some.b c.in-Some-ahead.d) tt

pub returns : goal.returns
returns c = rw (i_kept (four_read c.args.self.now.fits.filterable.small c.in-Some-Some.a c.in-Some.c c.in-Some-Some.b c.in-Some-ahead.d) tt).eq
    (four-summed months_of_year c.args.self.now.w.now c.args.t (full_before months_of_year c.args.self.now.w.now c.in-Some.c) (full_after months_of_year c.args.self.now.w.now c.in-Some-ahead.d)
    ((rw c.in-Some-Some.is-0 at c.back-preceding.ensures.same) ∙ ap (λ (l : List ℕ). c.in-Some-Some.a ∷ l) (rw c.in-Some.is at c.back.ensures.same))
    ((rw c.in-Some-Some.is-1 at c.ahead-following.ensures.same) ∙ ap (λ (l : List ℕ). c.in-Some-Some.b ∷ l) (rw c.in-Some-ahead.is at c.ahead.ensures.same)))

-- a side has fewer than two: one of the four was not found
pub returns-2 : goal.returns-2
returns-2 c = summed-as c.nearest_three.ensures (three_of months_of_year c.args.self.now.w.now c.args.t (elim c.in_default.branch [
  | in_default-via-in-Some+in-None-1 k ↦ let e : c.ahead-following.result ≡ None = cc in omega (arith, ap length (rw e at c.ahead-following.ensures.same))
  | in_default-via-in-None-1 k ↦ let e : c.back-preceding.result ≡ None = cc in omega (arith, ap length (rw e at c.back-preceding.ensures.same))
  | in_default-via-in-Some-Some+in-None-1 k ↦ let e : k.back.result ≡ None = cc in
      omega (arith, ap length (rw k.in-Some-Some.is-0 at c.back-preceding.ensures.same), ap length (rw e at k.back.ensures.same))
  | in_default-via-in-Some-Some+in-Some+in-None-1 k ↦ let e : k.ahead.result ≡ None = cc in
      omega (arith, ap length (rw k.in-Some-Some.is-1 at c.ahead-following.ensures.same), ap length (rw e at k.ahead.ensures.same))
]))
