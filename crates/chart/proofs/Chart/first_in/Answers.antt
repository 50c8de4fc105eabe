-- `chart::Chart::first_in` meets its contract: the first row where it is not blank, else the second.
use Prim.Native.Nat.{ℕ, ◌+◌, ◌-◌, ◌%◌, ◌<◌, ◌≤◌}
use mathlib.Core.Path.{◌≡◌, sym, ◌∙◌}
use native.Mathlib.Nat.{mod-eq_of_lt, add-mod_right}
use native.Mathlib.Omega.{arith}
use Rattle.chart.specs.Chart.{first_in}
use Rattle.chart.proofs.Chart.first_in.Goals as goal

first-row : (p b c : ℕ) → b ≤ c → c < p → c - b ≡ (c + p - b) % p
first-row p b c h l =
    let e : c + p - b ≡ c - b + p = omega arith in
    rw e (sym (add-mod_right (c - b) p ∙ mod-eq_of_lt (omega arith)))

second-row : (p b c : ℕ) → c < b → c + p - b < p → c + p - b ≡ (c + p - b) % p
second-row p b c h l = sym (mod-eq_of_lt l)

pub returns-then-blank-c : goal.returns-then-blank-c
unfolding first_in
returns-then-blank-c c = (first-row c.args.self.period (c.args.self.start - 1) c.args.c c.if-blank-c.true c.requires, omega (arith, c.requires))

pub returns-else-blank-c : goal.returns-else-blank-c
unfolding first_in
returns-else-blank-c c =
    let l : c.args.c + c.args.self.period - (c.args.self.start - 1) < c.args.self.period = omega (arith, c.if-blank-c.false, c.args.self.charted.starts) in
    (second-row c.args.self.period (c.args.self.start - 1) c.args.c c.if-blank-c.false l, l)
