-- `plan_copy::sum_table::Sum`'s `size` meets its contract: the table is as long as the plan, by computation.
use mathlib.Core.Path.{refl}
use Rattle.plans.specs.words.SumPlan.{sum_plan}
use Rattle.plan_copy.proofs.sum_table.SumBuiltIn.size.Goals as goal

pub returns : goal.returns
unfolding sum_plan
returns c = refl
