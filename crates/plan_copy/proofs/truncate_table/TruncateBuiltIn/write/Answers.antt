-- `plan_copy::truncate_table::Truncate`'s `write` meets its contract: the table is the plan's words, by computation.
use mathlib.Core.Path.{refl, ◌∙◌}
use Rattle.word.specs.Encoding.{put}
use Rattle.plans.specs.words.TruncatePlan.{truncate_plan}
use Rattle.plan_copy.proofs.truncate_table.TruncateBuiltIn.write.Goals as goal

pub write_table-requires : goal.write_table-requires
unfolding truncate_plan
write_table-requires c = c.requires

pub returns : goal.returns
unfolding truncate_plan put
returns c = c.write_table.ensures ∙ refl
