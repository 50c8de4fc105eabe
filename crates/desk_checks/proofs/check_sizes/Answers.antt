-- `desk_checks::check_sizes` meets its contract: at each return, the checks before it did not apply.
use Prim.Native.Nat.{ℕ}
use mathlib.Core.Path.{◌≡◌, refl, sym}
use mathlib.Core.List.{List}
use native.Mathlib.Omega.{arith}
use Rattle.std.proofs.Common.{rules}
use Rattle.std.proofs.lemmas.Result.{err_from_is_err_and}
use Rattle.refusals.proofs.InsideLaws.{start-inside}
use Rattle.refusals.proofs.CheckLaws.{stopped-after, stopped_more}
use Rattle.little_endian.specs.Bytes.{number_at}
use Rattle.desk_forms.specs.Header.{count_in}
use Rattle.desk_forms.proofs.FileLaws.{start_byte, period_byte}
use Rattle.desk_checks.proofs.check_sizes.Goals as goal

-- the count that was read
counted : (file : List ℕ) {n : ℕ} → n ≡ number_at file 0 2 → count_in file ≡ n
unfolding count_in
counted file e = sym e

pub years_outside-requires : goal.years_outside-requires
years_outside-requires c = let h = c.in_ok-span.ensures in ((start-inside _ h.inside).0, omega (arith, h.least), h.most)

pub returns-in_err-span : goal.returns-in_err-span
returns-in_err-span c =
    let f = c.args.file.now in
    let p = err_from_is_err_and c.from_residual.result c.from_residual.ensures.1 in
    rw (p.1, p.2)
    (λ short. rw (counted f c.number_at-count.ensures.value, start_byte f) (stopped-after (search rules) (stopped_more _ c.in_err-span.ensures)))

pub returns-then-period-ne-MONTHLY : goal.returns-then-period-ne-MONTHLY
returns-then-period-ne-MONTHLY c =
    let f = c.args.file.now in
    λ short. rw (counted f c.number_at-count.ensures.value, start_byte f, period_byte f) (record { at = 4; before = search rules; here = search rules })

pub returns-then-years_outside : goal.returns-then-years_outside
returns-then-years_outside c =
    let f = c.args.file.now in
    λ short. rw (counted f c.number_at-count.ensures.value, start_byte f, period_byte f, ← c.year-year.ensures) (record { at = 5; before = search rules; here = search rules })

pub returns-then-file-length : goal.returns-then-file-length
returns-then-file-length c =
    let f = c.args.file.now in
    λ short. rw (counted f c.number_at-count.ensures.value, start_byte f, period_byte f, ← c.year-year.ensures) (record { at = 6; before = search rules; here = search rules })

pub invariant_of-result : goal.invariant_of-result
invariant_of-result c =
    let f = c.args.file.now in
    let h = c.in_ok-span.ensures in
    record {
      sized = record {
        count = sym (counted f c.number_at-count.ensures.value);
        begins = sym (start_byte f);
        least = h.least;
        most = h.most;
        inside = h.inside;
        size = omega (arith, c.if-file-length.false, c.length.ensures);
      };
    }

pub returns : goal.returns
returns c =
    let f = c.args.file.now in (
      record {
        passed = λ short. rw (counted f c.number_at-count.ensures.value, start_byte f, period_byte f, ← c.year-year.ensures) (search rules);
        count = sym (counted f c.number_at-count.ensures.value);
        begins = sym (start_byte f);
        dated = c.year-year.ensures;
      },
      refl,
      refl,
    )
