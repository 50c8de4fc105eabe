-- What a lent slice holds after an answer.
use Prim.Native.Nat.{ℕ}
use mathlib.Core.Path.{◌≡◌, ap}
use mathlib.Core.List.{List, ◌++◌}
use lib.ListN.{length, drop}
use Rattle.refusals.specs.Sheet.{Answer, success, refusal}
use Rattle.desk_forms.specs.After.{front_after}

module _ {A B : Type 0} {answer : Answer A} (front before : List B) where
  -- n places of it are filled
  pub front_filled : {a : A} {n : ℕ} → success a ≡ answer → length front ≡ n → front ++ drop n before ≡ front_after answer front before
  front_filled {a} {n} e l = rw (← l) (ap (λ (r : Answer A). front_after r front before) e)

  -- it is left alone
  pub front_kept : {number place : ℕ} → refusal number place ≡ answer → before ≡ front_after answer front before
  front_kept e = ap (λ (r : Answer A). front_after r front before) e
