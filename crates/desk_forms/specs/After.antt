-- METHOD 7.2, 7.3, 7.7, 7.8, 7.12 and 8.4: what a lent slice holds after an answer.
use Rattle.std.specs.Prelude.{List, ◌++◌, length, drop}
use Rattle.refusals.specs.Sheet.{Answer, success, refusal}

-- of a slice that held `before`: a success puts `front` into its first places and leaves the rest, a refusal touches nothing
abbrev pub front_after : {A B : Type 0} → Answer A → List B → List B → List B
front_after (success a) front before = front ++ drop (length front) before
front_after (refusal number place) front before = before
