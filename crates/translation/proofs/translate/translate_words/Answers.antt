-- `translation::translate::translate_words` meets its contract.
use mathlib.Core.Path.{ap, ◌∙◌}
use native.Mathlib.Omega.{arith}
use lib.ListN.{length, get_or, length-set, length-drop}
use Rattle.word.specs.Encoding.{plan_step}
use Rattle.masking.specs.Translation.{words_for}
use Rattle.translation.proofs.Program.{going, next_room, going_on, gone}
use Rattle.checks.proofs.Slices.{part_is, part_back}
use Rattle.translation.proofs.translate.translate_words.Goals as goal

pub loop-w-init : goal.loop-w-init
loop-w-init c = going _ _ _

pub offset_bounds-out-at : goal.offset_bounds-out-at
offset_bounds-out-at c =
    omega (arith, next_room _ _ c.requires.accepted c.head.result c.args.out.now c.loop-w.invariant (omega arith) c.requires.plan_in_bounds, c.well_formed, c.loop-w.invariant.long, length-set c.args.out.now 0 c.head.result)

pub slice_bounds-plan_word-count : goal.slice_bounds-plan_word-count
slice_bounds-plan_word-count c = omega (arith, next_room _ _ c.requires.accepted c.head.result c.args.out.now c.loop-w.invariant (omega arith) c.requires.plan_in_bounds)

pub slice_bounds-plan_word-start : goal.slice_bounds-plan_word-start
slice_bounds-plan_word-start c = omega (arith, next_room _ _ c.requires.accepted c.head.result c.args.out.now c.loop-w.invariant (omega arith) c.requires.plan_in_bounds)

pub plan_word-at-requires : goal.plan_word-at-requires
plan_word-at-requires c =
    let r = next_room _ _ c.requires.accepted c.head.result c.args.out.now c.loop-w.invariant (omega arith) c.requires.plan_in_bounds in record { le_n = (omega (arith, c.requires.accepted.least), c.requires.accepted.most); w_in_bounds = omega (arith, ap length (part_is c.loop-w.at c.loop-w.out (omega arith)), length-drop c.loop-w.at c.loop-w.out) }

pub overflow_add-at : goal.overflow_add-at
overflow_add-at c =
    omega (arith, next_room _ _ c.requires.accepted c.head.result c.args.out.now c.loop-w.invariant (omega arith) c.requires.plan_in_bounds, c.well_formed, c.loop-w.invariant.long, length-set c.args.out.now 0 c.head.result, c.plan_word-at.ensures.ends)

pub loop-w-preserved : goal.loop-w-preserved
loop-w-preserved c =
    let r = next_room _ _ c.requires.accepted c.head.result c.args.out.now c.loop-w.invariant (omega arith) c.requires.plan_in_bounds in
    going_on c.args.n c.args.plan.now c.requires.accepted _ c.loop-w.out c.loop-w.at c.loop-w.w-index c.loop-w.invariant (omega arith)
    (part_back c.loop-w.at c.loop-w.out (omega arith) (words_for c.args.n (plan_step (get_or c.args.plan.now c.loop-w.w-index 0))) c.plan_word-at.ensures.written) (omega (arith, c.plan_word-at.ensures.ends))

pub shape_of-out : goal.shape_of-out
shape_of-out c = c.loop-w.invariant.long ∙ length-set c.args.out.now 0 c.head.result

pub returns : goal.returns
returns c =
    rw (← c.head.ensures)
    (gone c.args.n c.args.plan.now c.requires.accepted c.head.result c.args.out.now _ _ _ c.loop-w.invariant (omega arith) c.requires.plan_in_bounds)
