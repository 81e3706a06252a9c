-- `plan_copy::product_rows::Product`'s `size` meets its contract.
use mathlib.Core.Path.{sym}
use Rattle.plans.proofs.product.Words.{plan_size}
use Rattle.plan_copy.proofs.product_rows.ProductBuiltIn.size.Goals as goal

pub returns : goal.returns
returns c = sym plan_size
