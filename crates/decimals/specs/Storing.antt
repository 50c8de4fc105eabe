-- What it means that bytes are stored in a slice, and put at the end of a text.
use Rattle.std.specs.Prelude.{ℕ, ◌+◌, ◌≤◌, ◌≡◌, List, length}
use Rattle.std.proofs.lemmas.List.Edits.{sets}
use Rattle.decimals.specs.declared.Text.{Text}

-- `bytes`, of which there are at most `most`, stand from `at` on, before `next`; the rest is as it was
pub record Stored (most : ℕ) (before : List ℕ) (at : ℕ) (bytes : List ℕ) (next : ℕ) (after : List ℕ) : Type 0 where
  pub stored : after ≡ sets before at bytes
  pub ends : next ≡ at + length bytes
  pub short : length bytes ≤ most
  pub long : length after ≡ length before

-- the same of a text that goes on in its slice
pub record Put (most : ℕ) (old : Text) (bytes : List ℕ) (new : Text) : Type 0 where
  pub same : new.out.ghost_name ≡ old.out.ghost_name
  pub stored : Stored most old.out.now old.at bytes new.at new.out.now
