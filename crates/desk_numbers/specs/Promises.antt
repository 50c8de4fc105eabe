-- What the function inside promises.
use Rattle.std.specs.Prelude.{ℕ, ◌≡◌}
use Rattle.refusals.specs.Sheet.{Answer}
use Rattle.refusals.specs.Numbers.{number_of, place_of, value_of}

-- the numbers of an answer that is a length
pub record SizeTold (answer : Answer ℕ) (number size place : ℕ) : Type 0 where
  pub number_is : number ≡ number_of answer
  pub size_is : size ≡ value_of (λ (n : ℕ). n) answer
  pub place_is : place ≡ place_of answer
