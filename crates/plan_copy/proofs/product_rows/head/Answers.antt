-- `plan_copy::product_rows::head` meets its contract: the table is the head's words, by computation.
use mathlib.Core.Path.{refl}
use Rattle.word.specs.Encoding.{put}
use Rattle.plans.specs.words.ProductPlan.{product_head}
use Rattle.plans.specs.ProductRows.{head_words}
use Rattle.plan_copy.proofs.product_rows.head.Goals as goal

pub returns : goal.returns
unfolding head_words product_head put
returns c = refl
