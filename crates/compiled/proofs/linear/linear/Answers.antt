-- `compiled::linear::linear` meets its contract.
use Rattle.compiled.specs.inner.OnShare.{on_share}
use Rattle.compiled.proofs.linear.linear.Goals as goal

pub returns : goal.returns
unfolding on_share
returns c = rw (← c.value.ensures)
