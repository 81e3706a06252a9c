-- `and_parts::fresh::fresh_share` meets its contract.
use mathlib.Core.Path.{refl, sym, ap, ◌∙◌}
use Prim.Native.Nat.{◌+◌, ◌-◌}
use native.Mathlib.Omega.{arith}
use lib.ListN.{set}
use Rattle.bits.specs.Ops.{xor_w}
use Rattle.and_parts.specs.inner.Effects.{placed}
use Rattle.and_parts.proofs.Turn.{at_inside}
use Rattle.and_parts.proofs.Behind.{words_turn, row_fits, behind_turn, row_left, item_turn, items_done}
use Rattle.and_parts.proofs.fresh.fresh_share.Goals as goal

pub overflow_mul-y : goal.overflow_mul-y
overflow_mul-y c = omega (arith, at_inside (placed c.args.b c.args.over) c.requires.3.inside c.args.k (omega arith))

pub overflow_add-y : goal.overflow_add-y
overflow_add-y c = omega (arith, at_inside (placed c.args.b c.args.over) c.requires.3.inside c.args.k (omega arith))

pub offset_bounds-cells-b : goal.offset_bounds-cells-b
offset_bounds-cells-b c = omega (arith, at_inside (placed c.args.b c.args.over) c.requires.3.inside c.args.k (omega arith))

pub bounds-cells-b : goal.bounds-cells-b
bounds-cells-b c = omega (arith, at_inside (placed c.args.b c.args.over) c.requires.3.inside c.args.k (omega arith))

pub loop-below-init : goal.loop-below-init
loop-below-init c = (omega arith, omega arith, omega (arith, row_fits (c.args.n - 1)), c.requires.4, refl)

pub loop-below-preserved : goal.loop-below-preserved
unfolding xor_w
loop-below-preserved c =
    (omega arith, omega arith, omega (arith, words_turn c.loop-below.row (omega arith), row_fits (c.loop-below.row - 1)), omega (arith, words_turn c.loop-below.row (omega arith)), c.loop-below.invariant.4 ∙ behind_turn c.args.tape.now c.loop-below.below c.loop-below.row c.loop-below.p c.loop-below.y (omega arith))

pub loop-word-preserved : goal.loop-word-preserved
unfolding xor_w
loop-word-preserved c = c.loop-word.invariant ∙ item_turn c.args.tape.now c.loop-below.row c.loop-below.p c.loop-word.y c.loop-word.word-index (omega arith)

pub returns : goal.returns
returns c =
    ap (set c.args.cells.now (256 + c.args.k))
    (sym (c.loop-below.invariant.4 ∙ row_left c.args.tape.now c.loop-below.below c.loop-below.row c.loop-below.p c.loop-below.y (omega arith)
    ∙ c.loop-word.invariant ∙ items_done c.args.tape.now c.loop-below.row c.loop-below.p c.loop-word.y c.loop-word.word-index (omega arith)))
