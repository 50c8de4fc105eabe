-- `print_lines::put_refusal` meets its contract: the word, the number and the place one after the other.
use mathlib.Core.Path.{ap₂, ◌∙◌}
use Rattle.decimals.proofs.StoringLaws.{put-eq}
use Rattle.print_lines.specs.Text.{refused_line}
use Rattle.print_lines.proofs.LineLaws.{line-of-three}
use Rattle.print_lines.proofs.put_refusal.Goals as goal

pub returns : goal.returns
unfolding refused_line
returns c =
    put-eq
    (ap₂ refused_line (c.from.ensures ∙ c.number.ensures) c.place.ensures)
    (line-of-three c.put_word.ensures c.put_spaced.ensures c.put_spaced-2.ensures c.put_byte.ensures)
