-- `plan_copy::truncate_table::Truncate`'s `size` meets its contract: the table is as long as the plan, by computation.
use mathlib.Core.Path.{refl}
use Rattle.plans.specs.words.TruncatePlan.{truncate_plan}
use Rattle.plan_copy.proofs.truncate_table.TruncateBuiltIn.size.Goals as goal

pub returns : goal.returns
unfolding truncate_plan
returns c = refl
