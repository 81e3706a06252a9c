-- Written by tools/compile_plan.py: change the plan or the compiler, not this file.
-- `compiled_nearest::runs::gate` meets its contract.
use Rattle.compiled.proofs.Rest.{only}
use Rattle.compiled_nearest.proofs.runs.gate.Goals as goal

pub returns-in_default : goal.returns-in_default
returns-in_default c = rw (only 13 _ c.in_default.in_default-own.rest c.requires)
