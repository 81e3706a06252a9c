-- `compiled::linear::eight` meets its contract.
use Rattle.compiled.proofs.linear.eight.Goals as goal

pub returns : goal.returns
returns c = rw (c.four-2.ensures, c.four.ensures)
