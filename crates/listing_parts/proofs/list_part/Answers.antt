-- `listing_parts::list_part` meets its contract.
use borrow.Author.Tests.{leb-true, leb-false}
use Rattle.listing_parts.proofs.Parts.{going, going_on, gone_all, gone_full, in_part}
use Rattle.listing_parts.proofs.PlanWord.{lines_most}
use Rattle.listing_parts.specs.Parts.{word_lines}
use lib.ListN.{get_or}
use native.Mathlib.Omega.{arith}
use Rattle.listing_parts.proofs.list_part.Goals as goal

pub loop-next-init : goal.loop-next-init
loop-next-init c = going _ _ _ _

pub overflow_sub-out : goal.overflow_sub-out
overflow_sub-out c = c.loop-next.invariant.within

pub slice_bounds-word_lines-count : goal.slice_bounds-word_lines-count
slice_bounds-word_lines-count c = c.loop-next.invariant.within

pub slice_bounds-word_lines-start : goal.slice_bounds-word_lines-start
slice_bounds-word_lines-start c = c.loop-next.invariant.within

pub overflow_add-at : goal.overflow_add-at
overflow_add-at c =
    let w = get_or c.args.plan.now c.loop-next.next 0 in
    let a = in_part (word_lines c.args.n w) c.loop-next.out c.loop-next.at c.loop-next.invariant.within (omega (arith, leb-true, lines_most c.args.n w)) c.word_lines-at.ensures in
    omega (arith, a.ends, lines_most c.args.n w, c.loop-next.invariant.left.long, c.well_formed)

pub loop-next-preserved : goal.loop-next-preserved
loop-next-preserved c =
    let w = get_or c.args.plan.now c.loop-next.next 0 in
    let a = in_part (word_lines c.args.n w) c.loop-next.out c.loop-next.at c.loop-next.invariant.within (omega (arith, leb-true, lines_most c.args.n w)) c.word_lines-at.ensures in
    going_on _ _ _ _ _ _ _ c.loop-next.invariant (omega arith) (omega (arith, leb-true)) a

pub shape_of-out-else-out-at-ge-WORD_BYTES : goal.shape_of-out-else-out-at-ge-WORD_BYTES
shape_of-out-else-out-at-ge-WORD_BYTES c = c.loop-next.invariant.left.long

pub returns-else-out-at-ge-WORD_BYTES : goal.returns-else-out-at-ge-WORD_BYTES
returns-else-out-at-ge-WORD_BYTES c = gone_full _ _ _ _ _ _ _ c.loop-next.invariant (omega (arith, leb-false))

pub shape_of-out-after-loop-next : goal.shape_of-out-after-loop-next
shape_of-out-after-loop-next c = c.loop-next.invariant.left.long

pub returns-after-loop-next : goal.returns-after-loop-next
returns-after-loop-next c = gone_all _ _ _ _ _ _ _ c.loop-next.invariant c.loop-next-test.false
