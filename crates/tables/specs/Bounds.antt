-- How large the tables can be, in grains: in a pass T2 at most six and a half times X, and S2 twice X and twice T2 (steps, proofs/Largest). Nothing
-- here is promised to a caller of the desk.
use Rattle.std.specs.Prelude.{ℕ, ◌+◌, ◌*◌}
use Rattle.refusals.specs.Limits.{unit, largest_figure}

abbrev pub largest_b1 : ℕ
largest_b1 = unit * largest_figure

abbrev pub largest_b7 : ℕ
largest_b7 = 1_300_000_000

abbrev pub largest_b10 : ℕ
largest_b10 = 2 * largest_b1 + 2 * largest_b7

-- 4,700,000,000
abbrev pub largest_c1 : ℕ
largest_c1 = largest_b1 + (largest_b1 + largest_b10 + largest_b7)

abbrev pub largest_c7 : ℕ
largest_c7 = 30_550_000_000

abbrev pub largest_c10 : ℕ
largest_c10 = 2 * largest_c1 + 2 * largest_c7

-- 101,250,000,000
abbrev pub largest_c13 : ℕ
largest_c13 = largest_b1 + largest_c10 + largest_c7

-- 101,450,000,000
abbrev pub largest_d1 : ℕ
largest_d1 = largest_b1 + largest_c13

-- T2 of pass D
abbrev pub largest_d7 : ℕ
largest_d7 = 659_425_000_000

-- 1,521,750,000,000
abbrev pub largest_d10 : ℕ
largest_d10 = 2 * largest_d1 + 2 * largest_d7

-- 1.44 times D1 less D10, and a little more
abbrev pub largest_d12 : ℕ
largest_d12 = 2_340_000_000_000
