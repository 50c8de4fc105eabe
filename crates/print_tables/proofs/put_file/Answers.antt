-- `print_tables::put_file` meets its contract: the text is put from the first place of the array on.
use mathlib.Core.Path.{refl}
use Rattle.std.proofs.Common.{rules}
use Rattle.decimals.proofs.StoringLaws.{stored-in}
use Rattle.print_tables.proofs.PrintLaws.{print_done}
use Rattle.print_tables.proofs.put_file.Goals as goal

pub returns : goal.returns
returns c = print_done (search rules) (stored-in c.new-text.ensures.lent c.new-text.ensures.start c.put_text.ensures refl)
