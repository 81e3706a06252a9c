-- `binary64_plain::multiply::jammed_product` meets its contract. Each sum and product fits by the bounds on the four partial products, and the columns make the jammed product (Columns).
use Rattle.std.proofs.Common.{ℕ, ◌+◌, ◌*◌, ap, ◌∙◌, arith}
use Rattle.binary64_plain.proofs.Columns.{Bounds, bounds, top, jammed}
use Rattle.binary64_plain.proofs.multiply.jammed_product.Goals as goal

pub overflow_mul-result : goal.overflow_mul-result
overflow_mul-result c =
    let b : Bounds c.args.x c.args.y = bounds c.args.x c.args.y c.requires.0 c.requires.1 in
    omega arith

pub overflow_add-result : goal.overflow_add-result
overflow_add-result c =
    let b : Bounds c.args.x c.args.y = bounds c.args.x c.args.y c.requires.0 c.requires.1 in
    omega arith

pub returns : goal.returns
returns c =
    ap (λ (z : ℕ). 2 * top c.args.x c.args.y + z) c.sticky.ensures ∙ jammed c.args.x c.args.y
