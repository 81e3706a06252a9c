-- `compiled::linear::sixteen` meets its contract.
use Rattle.compiled.proofs.linear.sixteen.Goals as goal

pub returns : goal.returns
returns c = rw (c.eight-2.ensures, c.eight.ensures)
