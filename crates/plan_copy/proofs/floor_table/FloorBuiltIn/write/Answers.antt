-- `plan_copy::floor_table::Floor`'s `write` meets its contract: the table is the plan's words, by computation.
use mathlib.Core.Path.{refl, ◌∙◌}
use Rattle.word.specs.Encoding.{put}
use Rattle.plans.specs.words.FloorPlan.{floor_plan}
use Rattle.plan_copy.proofs.floor_table.FloorBuiltIn.write.Goals as goal

pub write_table-requires : goal.write_table-requires
unfolding floor_plan
write_table-requires c = c.requires

pub returns : goal.returns
unfolding floor_plan put
returns c = c.write_table.ensures ∙ refl
