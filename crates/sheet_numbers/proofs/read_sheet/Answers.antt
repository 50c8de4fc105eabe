-- `sheet_numbers::read_sheet` meets its contract: the answer's number and values, and the slice as it is promised.
use Rattle.doubles.proofs.Exact.{zero_bits}
use Rattle.sheet_numbers.proofs.Answers.{has-series, not-read}
use Rattle.sheet_numbers.proofs.read_sheet.Goals as goal

pub returns-in-Ok : goal.returns-in-Ok
returns-in-Ok c = has-series c.read_sheet.ensures c.in-Ok.is

pub returns-in-Err : goal.returns-in-Err
returns-in-Err c = not-read c.read_sheet.ensures c.in-Err.is c.number.ensures zero_bits c.place.ensures
