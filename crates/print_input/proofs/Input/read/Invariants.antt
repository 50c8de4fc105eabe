-- `print_input::Input::read` meets its contract: what was read so far lies in the array.
use Rattle.std.proofs.Common.{◌≤◌, ◌-◌, length}
use Rattle.print_input.proofs.Input.read.Given as goal

abbrev pub invariant-loop-count : goal.invariant-loop-count
invariant-loop-count g l = l.count ≤ length l.bytes

abbrev pub decreases-loop-count : goal.decreases-loop-count
decreases-loop-count g l = length l.bytes - l.count
