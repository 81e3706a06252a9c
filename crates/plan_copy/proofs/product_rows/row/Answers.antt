-- `plan_copy::product_rows::row` meets its contract: the table is row 0, and the number of a row is added to the first word.
use mathlib.Core.Path.{sym}
use Rattle.word.specs.Encoding.{put}
use Rattle.plans.specs.words.ProductPlan.{product_row, carry_row}
use Rattle.plans.specs.ProductRows.{row_words}
use Rattle.plans.proofs.product.Words.{by_rows}
use Rattle.plan_copy.proofs.product_rows.row.Goals as goal

pub returns : goal.returns
unfolding row_words product_row carry_row put
returns c = sym (by_rows.rows c.args.q c.requires)
