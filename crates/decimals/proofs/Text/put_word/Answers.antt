-- `decimals::Text::put_word` meets its contract: the word is copied to the end of the text.
use mathlib.Core.Path.{refl}
use native.Mathlib.Omega.{arith}
use Rattle.decimals.proofs.StoringLaws.{stored-as, word-copied}
use Rattle.decimals.proofs.Text.put_word.Goals as goal

pub returns : goal.returns
returns c = record { same = refl; stored = stored-as (word-copied _ _ _ _ c.requires c.copy_from_slice.ensures.after) refl (omega arith) }
