-- `print_input::run_on` meets its contract: what was read and what was stored lies in the arrays.
use Rattle.integers.proofs.Fronts.{front_long}
use Rattle.print_input.proofs.LongFiles.{printed-inside}
use Rattle.print_input.proofs.run_on.Goals as goal

pub slice_bounds-out-end : goal.slice_bounds-out-end
slice_bounds-out-end g c = printed-inside c.in-Ok.input.inside c.put-end.ensures

pub slice_bounds-write_all-end : goal.slice_bounds-write_all-end
slice_bounds-write_all-end g c = front_long _ _ (printed-inside c.in-Ok.input.inside c.put-end.ensures)
