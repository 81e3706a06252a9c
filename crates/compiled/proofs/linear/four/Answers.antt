-- `compiled::linear::four` meets its contract.
use Rattle.compiled.proofs.linear.four.Goals as goal

pub returns : goal.returns
returns c = rw (c.two-2.ensures, c.two.ensures)
