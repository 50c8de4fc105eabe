-- METHOD 8.3 and 8.4, the example: 72 months and a scratch of 576 entries, which is 8n.
use Rattle.std.specs.Prelude.{◌≡◌, List, ℕ, ◌≤◌, ◌<◌, length, ℤ, pos}
use Rattle.integers.specs.Lists.{◌‼◌}
use Rattle.scratch.specs.Scratch.{scratch_for, zeroed}

-- METHOD 8.4: 360 entries are asked for. Whatever the scratch held, its first 360 entries end as zero, the last 216 stay as they were, and none is
-- lost
pub record LongerScratch : Type 0 where
  pub asked : scratch_for 72 ≡ 360
  pub zero : (scratch : List ℤ) → length scratch ≡ 576 → (i : ℕ) → i < 360 → zeroed 72 scratch ‼ i ≡ pos 0
  pub tail : (scratch : List ℤ) → length scratch ≡ 576 → (i : ℕ) → 360 ≤ i → i < 576 → zeroed 72 scratch ‼ i ≡ scratch ‼ i
  pub long : (scratch : List ℤ) → length scratch ≡ 576 → length (zeroed 72 scratch) ≡ 576
