-- Written by tools/compile_plan.py: change the plan or the compiler, not this file.
-- `compiled_order::runs::on_share` meets its contract, run by run.
use Rattle.compiled.proofs.Rest.{past}
use Rattle.compiled_order.specs.inner.Runs.{last_run, runs}
use Rattle.compiled_order.proofs.runs.on_share.Goals as goal

pub two-requires : goal.two-requires
two-requires c = c.requires

pub two-requires-in-2 : goal.two-requires-in-2
two-requires-in-2 c = c.requires

pub two-requires-in_default : goal.two-requires-in_default
two-requires-in_default c = c.requires

pub returns-in-0 : goal.returns-in-0
returns-in-0 c = rw (c.in-0.is, c.two.ensures)

pub returns-in-1 : goal.returns-in-1
returns-in-1 c = rw c.in-1.is

pub returns-in-2 : goal.returns-in-2
returns-in-2 c = rw (c.in-2.is, c.linear.ensures, c.two-in-2.ensures)

pub returns-in_default : goal.returns-in_default
returns-in_default c = rw (past runs last_run _ c.in_default.in_default-own.rest, c.two-in_default.ensures)
