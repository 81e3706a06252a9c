-- `plan_copy::sum_table::Sum`'s `write` meets its contract: the table is the plan's words, by computation.
use mathlib.Core.Path.{refl, ◌∙◌}
use Rattle.word.specs.Encoding.{put}
use Rattle.plans.specs.words.SumPlan.{sum_plan}
use Rattle.plan_copy.proofs.sum_table.SumBuiltIn.write.Goals as goal

pub write_table-requires : goal.write_table-requires
unfolding sum_plan
write_table-requires c = c.requires

pub returns : goal.returns
unfolding sum_plan put
returns c = c.write_table.ensures ∙ refl
