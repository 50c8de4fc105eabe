-- `print_lines::put_first_line` meets its contract: the two words and the two numbers one after the other.
use Rattle.print_lines.specs.Text.{first_line}
use Rattle.print_lines.proofs.LineLaws.{line-of-four}
use Rattle.print_lines.proofs.put_first_line.Goals as goal

pub returns : goal.returns
unfolding first_line
returns c =
    line-of-four
    c.put_word.ensures
    c.put_spaced.ensures
    c.put_word-2.ensures
    (rw c.from.ensures at c.put_spaced-2.ensures)
    c.put_byte.ensures
