-- `masked_work::clear_by_parts` meets its contract.
use mathlib.Core.Path.{refl, ◌∙◌}
use native.Mathlib.Omega.{arith}
use Rattle.masked_call.proofs.Filling.{none_filled, part_filled, part_size, all_zero}
use Rattle.masked_work.proofs.clear_by_parts.Goals as goal

pub loop-at-init : goal.loop-at-init
loop-at-init c = (omega arith, refl, none_filled (λ k. 0) c.args.cells.now)

pub loop-at-preserved : goal.loop-at-preserved
loop-at-preserved c =
    let zeros = c.fill.ensures.after (λ y h. h) in
    (omega (arith, c.loop-at-test.true, c.min.ensures), part_size c.loop-at.at _ c.loop-at.cells _ zeros ∙ c.loop-at.invariant.1, part_filled c.loop-at.at _ c.loop-at.cells _ (omega (arith, c.min.ensures)) (omega (arith, c.min.ensures)) c.loop-at.invariant.2 zeros)

pub shape_of-cells : goal.shape_of-cells
shape_of-cells c = c.loop-at.invariant.1

pub returns : goal.returns
returns c = all_zero _ _ c.loop-at.invariant.1 (λ k h. c.loop-at.invariant.2 k (omega arith))
