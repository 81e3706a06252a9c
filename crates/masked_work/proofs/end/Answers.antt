-- `masked_work::end` meets its contract.
use Rattle.masked_work.proofs.end.Goals as goal

pub returns : goal.returns
returns c = (c.copy_out.ensures, c.clear.ensures)
