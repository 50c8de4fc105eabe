-- METHOD 8.3 and 8.4: the scratch that is lent to decomposing, signed numbers of 64 bits: how long it is at least, and what is left in it.
use Rattle.std.specs.Prelude.{List, ◌++◌, ℕ, ◌*◌, drop, ℤ, pos}
use Rattle.integers.specs.Lists.{tab}

-- METHOD 8.3: the least number of entries for n months
abbrev pub scratch_for : ℕ → ℕ
scratch_for n = 5 * n

-- METHOD 8.4: a scratch that is long enough, with its first 5n entries zero and the rest of it as it was
abbrev pub zeroed : ℕ → List ℤ → List ℤ
zeroed n scratch = tab (scratch_for n) (λ _. pos 0) ++ drop (scratch_for n) scratch
