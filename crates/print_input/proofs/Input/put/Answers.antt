-- `print_input::Input::put` meets its contract: the text of the bytes that were read is that of the whole input.
use Rattle.std.proofs.Common.{rules}
use Rattle.print_input.proofs.LongFiles.{input-printed}
use Rattle.print_input.proofs.Input.put.Goals as goal

pub returns : goal.returns
returns c = input-printed (search rules) c.put_file.ensures
