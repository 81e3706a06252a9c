-- `plan_copy::nearest_table::Nearest`'s `write` meets its contract: the table is the plan's words, by computation.
use mathlib.Core.Path.{refl, ◌∙◌}
use Rattle.word.specs.Encoding.{put}
use Rattle.plans.specs.words.NearestPlan.{nearest_plan}
use Rattle.plan_copy.proofs.nearest_table.NearestBuiltIn.write.Goals as goal

pub write_table-requires : goal.write_table-requires
unfolding nearest_plan
write_table-requires c = c.requires

pub returns : goal.returns
unfolding nearest_plan put
returns c = c.write_table.ensures ∙ refl
