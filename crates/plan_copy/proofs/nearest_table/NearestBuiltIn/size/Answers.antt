-- `plan_copy::nearest_table::Nearest`'s `size` meets its contract: the table is as long as the plan, by computation.
use mathlib.Core.Path.{refl}
use Rattle.plans.specs.words.NearestPlan.{nearest_plan}
use Rattle.plan_copy.proofs.nearest_table.NearestBuiltIn.size.Goals as goal

pub returns : goal.returns
unfolding nearest_plan
returns c = refl
