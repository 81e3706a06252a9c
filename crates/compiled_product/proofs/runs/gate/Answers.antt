-- Written by tools/compile_plan.py: change the plan or the compiler, not this file.
-- `compiled_product::runs::gate` meets its contract.
use Rattle.compiled.proofs.Rest.{between, equal}
use Rattle.compiled_product.proofs.runs.gate.Goals as goal

pub returns-in_default : goal.returns-in_default
returns-in_default c = rw (equal _ _ 54 _ (between 0 54 22 _ c.in_default.in_default-own.rest c.requires).1)
