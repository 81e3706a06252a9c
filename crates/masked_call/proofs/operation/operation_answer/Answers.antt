-- `masked_call::operation::operation_answer` meets its contract: n is 2 to 8 where the tape words are counted.
use mathlib.Core.Path.{sym, ◌∙◌}
use native.Mathlib.Omega.{arith}
use borrow.Author.Tests.{not-false}
use Rattle.word.proofs.Small.{share_range}
use Rattle.masked_call.proofs.Tape.{pairs_most, tape_most}
use Rattle.masked_call.proofs.operation.operation_answer.Goals as goal

pub overflow_sub-needed : goal.overflow_sub-needed
overflow_sub-needed c =
    let r = share_range c.args.n (sym c.is_share_count.ensures ∙ not-false _ c.if-not-is_share_count.false-raw) in
    omega (arith, r.0)

pub overflow_mul-needed : goal.overflow_mul-needed
overflow_mul-needed c =
    let r = share_range c.args.n (sym c.is_share_count.ensures ∙ not-false _ c.if-not-is_share_count.false-raw) in
    omega (arith, pairs_most c.args.n r.1)

pub overflow_mul-needed-2 : goal.overflow_mul-needed-2
overflow_mul-needed-2 c =
    let r = share_range c.args.n (sym c.is_share_count.ensures ∙ not-false _ c.if-not-is_share_count.false-raw) in
    omega (arith, tape_most c.args.units c.args.n c.requires r.1)
