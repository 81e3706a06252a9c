-- `plan_copy::floor_table::Floor`'s `size` meets its contract: the table is as long as the plan, by computation.
use mathlib.Core.Path.{refl}
use Rattle.plans.specs.words.FloorPlan.{floor_plan}
use Rattle.plan_copy.proofs.floor_table.FloorBuiltIn.size.Goals as goal

pub returns : goal.returns
unfolding floor_plan
returns c = refl
