-- `compiled::linear::two` meets its contract.
use Rattle.compiled.proofs.linear.two.Goals as goal

pub returns : goal.returns
returns c = rw (c.linear-2.ensures, c.linear.ensures)
