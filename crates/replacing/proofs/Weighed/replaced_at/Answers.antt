-- `replacing::Weighed::replaced_at` meets its contract: the value stays, or becomes the mean.
use mathlib.Core.Path.{◌∙◌}
use native.Mathlib.Omega.{arith}
use Rattle.integers.proofs.Signed64.{i_in, i_within, kept}
use Rattle.refusals.specs.Limits.{months_of_year}
use Rattle.replacing.proofs.NeighbourLaws.{full-stays, alone_stays, count_most, summed-within, mean_is}
use Rattle.replacing.proofs.Weighed.replaced_at.Goals as goal

pub returns-then-own-ge-FULL_WEIGHT : goal.returns-then-own-ge-FULL_WEIGHT
returns-then-own-ge-FULL_WEIGHT c = let s = c.args.self.now in
    (i_in (s.fits.filterable.small.at c.args.t) tt).eq ∙ full-stays months_of_year s.w.now s.x.now c.args.t c.if-own-ge-FULL_WEIGHT.true

pub returns-then-near-eq0 : goal.returns-then-near-eq0
returns-then-near-eq0 c = let s = c.args.self.now in
    (i_in (s.fits.filterable.small.at c.args.t) tt).eq ∙ alone_stays months_of_year s.w.now s.x.now c.args.t c.neighbours-near.ensures c.if-near-eq0.true

pub mean_with-requires : goal.mean_with-requires
mean_with-requires c = let s = c.args.self.now in (
  c.if-own-ge-FULL_WEIGHT.false,
  i_within (i_in (s.fits.filterable.small.at c.args.t) tt),
  summed-within months_of_year s.w.now s.x.now c.args.t c.neighbours-near.ensures s.fits.filterable.small,
  omega (arith, c.if-near-eq0.false),
  count_most months_of_year s.w.now s.x.now c.args.t c.neighbours-near.ensures,
)

pub returns : goal.returns
returns c = let s = c.args.self.now in
    kept c.mean_with.type_inv c.mean_with.ensures ∙ rw (i_in (s.fits.filterable.small.at c.args.t) tt).eq
    (mean_is months_of_year s.w.now s.x.now c.args.t c.neighbours-near.ensures c.if-own-ge-FULL_WEIGHT.false (omega (arith, c.if-near-eq0.false)))
