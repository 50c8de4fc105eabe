-- `desk_checks::check_series` meets its contract: at each return, the checks before it did not apply.
use native.Mathlib.Omega.{arith}
use Rattle.std.proofs.Common.{rules}
use Rattle.refusals.proofs.InsideLaws.{start-inside}
use Rattle.desk_checks.proofs.check_series.Goals as goal

pub years_outside-requires : goal.years_outside-requires
years_outside-requires c = let h = c.in_ok-span.ensures in ((start-inside _ h.inside).0, omega (arith, h.least), h.most)

pub returns-then-years_outside : goal.returns-then-years_outside
returns-then-years_outside c = record { at = 3; before = search rules; here = search rules }

pub returns-then-s-n : goal.returns-then-s-n
returns-then-s-n c = record { at = 4; before = search rules; here = search rules }

pub returns-then-room-length : goal.returns-then-room-length
returns-then-room-length c = record { at = 5; before = search rules; here = search rules }

pub returns-in-Some : goal.returns-in-Some
returns-in-Some c = record { at = 6; before = search rules; here = search rules }

pub returns-in-Some-first_above : goal.returns-in-Some-first_above
returns-in-Some-first_above c = record { at = 7; before = search rules; here = search rules }
