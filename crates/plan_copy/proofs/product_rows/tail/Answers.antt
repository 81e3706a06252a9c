-- `plan_copy::product_rows::tail` meets its contract: the table is the tail's words, by computation.
use mathlib.Core.Path.{refl}
use Rattle.word.specs.Encoding.{put}
use Rattle.plans.specs.words.ProductPlan.{last_rows, product_end, product_tail}
use Rattle.plans.specs.ProductRows.{tail_words}
use Rattle.plan_copy.proofs.product_rows.tail.Goals as goal

pub returns : goal.returns
unfolding tail_words last_rows product_end product_tail put
returns c = refl
