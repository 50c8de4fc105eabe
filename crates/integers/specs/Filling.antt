-- A slice that is filled from one place to below another, the rest as it was.
use Rattle.std.specs.Prelude.{ℕ, ◌≤◌, ◌<◌, ◌≡◌, ◌⊎◌, List, length, get_or}

-- new is old with f k at each place k from lo to below t. d is what `get_or` gives past the end
pub record Filled {A : Type 0} (d : A) (f : ℕ → A) (lo t : ℕ) (old new : List A) : Type 0 where
  pub long : length new ≡ length old
  pub here : (k : ℕ) → lo ≤ k → k < t → get_or new k d ≡ f k
  pub rest : (k : ℕ) → (k < lo) ⊎ (t ≤ k) → get_or new k d ≡ get_or old k d
