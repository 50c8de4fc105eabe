-- `pass::less_at` meets its contract: both numbers are small enough for their difference to fit.
use Rattle.integers.proofs.Signed64.{i-, i_kept, i_in}
use Rattle.pass.proofs.less_at.Goals as goal

pub returns : goal.returns
returns c = (i_kept (i- (i_in c.requires.2 tt) (i_in c.requires.3 tt)) tt).eq
