-- `desk_checks::check_file` meets its contract: the checks of the sizes, of what is lent and of the arrays follow on one another.
use Prim.Native.Nat.{ℕ}
use mathlib.Core.Path.{◌≡◌, sym, ap, ◌∙◌}
use mathlib.Core.Bool.{Bool}
use Rattle.std.proofs.lemmas.Result.{err_from_is_err_and}
use Rattle.refusals.proofs.CheckLaws.{row-applies}
use Rattle.desk_forms.specs.Header.{count_in}
use Rattle.desk_checks.specs.declared.Lent.{Lent}
use Rattle.desk_checks.specs.Checked.{too_short, SizesFit}
use Rattle.desk_checks.proofs.CheckedLaws.{sizes-sized, contents_passed, contents_stopped}
use Rattle.desk_checks.proofs.check_file.Goals as goal

-- whether what is lent is too short for the months that the file states
short : (lent : Lent) {n m : ℕ} {b : Bool} → b ≡ too_short lent n → n ≡ m → too_short lent m ≡ b
short lent e c = sym (e ∙ ap (too_short lent) c)

pub too_short-requires : goal.too_short-requires
too_short-requires c = let fits : SizesFit _ _ _ _ _ _ = c.in_ok-sized.ensures.0 in (sizes-sized fits).most

pub returns-then-too_short : goal.returns-then-too_short
returns-then-too_short c =
    let fits : SizesFit _ _ _ _ _ _ = c.in_ok-sized.ensures.0 in
    record { at = 7; before = fits.passed (too_short c.args.lent (count_in c.args.file.now)); here = row-applies 4 (short c.args.lent c.too_short.ensures fits.count ∙ c.if-too_short.true) }

pub returns-in_err-check_contents : goal.returns-in_err-check_contents
returns-in_err-check_contents c =
    let f = c.in_ok-sized.ensures in
    let fits : SizesFit _ _ _ _ _ _ = f.0 in
    let p = err_from_is_err_and c.from_residual-in_err-check_contents.result c.from_residual-in_err-check_contents.ensures.1 in
    rw (p.1, p.2) (contents_stopped fits (short c.args.lent c.too_short.ensures fits.count ∙ c.if-too_short.false) (rw (f.1, f.2) at c.in_err-check_contents.ensures))

pub returns : goal.returns
returns c =
    let f = c.in_ok-sized.ensures in
    let fits : SizesFit _ _ _ _ _ _ = f.0 in
    (contents_passed fits (short c.args.lent c.too_short.ensures fits.count ∙ c.if-too_short.false) (rw (f.1, f.2) at c.in_ok-check_contents.ensures), f.1, f.2)
