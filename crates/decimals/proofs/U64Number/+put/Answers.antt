use native.Mathlib.Nat.{div-add-mod'}
use native.Mathlib.Omega.{arith}
use Rattle.decimals.proofs.DecimalLaws.{one-long, one-longer, first-digit, next-digit}
use Rattle.decimals.proofs.U64Number.+put.Goals as goal

-- one digit
pub put_byte-requires : goal.put_byte-requires
put_byte-requires t c = omega (arith, one-long c.args.self (omega arith))

pub returns-then-self-lt10 : goal.returns-then-self-lt10
returns-then-self-lt10 t c = first-digit c.put_byte.ensures c.digit.ensures (omega arith)

-- more than one
pub put-requires : goal.put-requires
put-requires t c = (omega (arith, div-add-mod' c.args.self 10), omega (arith, one-longer c.args.self (omega arith)))

pub put_byte-requires-2 : goal.put_byte-requires-2
put_byte-requires-2 t c = omega (arith, one-longer c.args.self (omega arith), c.put.ensures.stored)

pub returns : goal.returns
returns t c = next-digit c.put.ensures c.put_byte-2.ensures c.digit-2.ensures (omega arith) (omega (arith, c.ranges.self.fits))
