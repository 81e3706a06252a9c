-- `masked_plan::in_place::call_of_one` meets its contract.
use mathlib.Core.Path.{sym}
use native.Mathlib.Omega.{arith}
use lib.Seq.{length-take-le}
use Rattle.masked_call.proofs.OneOperand.{one_operand}
use Rattle.masked_plan.proofs.in_place.call_of_one.Goals as goal

pub slice_bounds-call-end : goal.slice_bounds-call-end
slice_bounds-call-end g c = sym (length-take-le _ _ (omega (arith, c.min-n.ensures)))

pub returns : goal.returns
returns g c =
    let all = one_operand g.P.CompiledPlan.plan c.args.x.now c.args.x.now c.args.work.now c.args.tape.now (rw c.min-n.ensures at c.call.ensures.answer, (rw c.min-n.ensures at c.call.ensures.x, rw c.min-n.ensures at c.call.ensures.work)) in
    record { answer = all.0; x = all.1.0; work = all.1.1 }
