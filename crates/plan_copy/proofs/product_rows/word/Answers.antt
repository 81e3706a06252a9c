-- `plan_copy::product_rows::word` meets its contract: by the part that the word stands in (product/Words).
use native.Mathlib.Omega.{arith}
use Rattle.plans.proofs.product.Words.{plan_size, from_head, from_row, from_tail}
use Rattle.plan_copy.proofs.product_rows.word.Goals as goal

pub returns-then-i-lt-HEAD_END : goal.returns-then-i-lt-HEAD_END
returns-then-i-lt-HEAD_END c = rw c.head-words.ensures (from_head c.args.i c.if-i-lt-HEAD_END.true)

pub returns-then-i-lt-ROWS_END : goal.returns-then-i-lt-ROWS_END
returns-then-i-lt-ROWS_END c = rw c.row-words.ensures (from_row c.args.i c.if-i-lt-HEAD_END.false c.if-i-lt-ROWS_END.true)

pub offset_bounds-words-k-2 : goal.offset_bounds-words-k-2
offset_bounds-words-k-2 c = omega (arith, plan_size, c.requires)

pub bounds-words-k-2 : goal.bounds-words-k-2
bounds-words-k-2 c = omega (arith, plan_size, c.requires)

pub returns : goal.returns
returns c = rw c.tail-words.ensures (from_tail c.args.i c.if-i-lt-ROWS_END.false)
