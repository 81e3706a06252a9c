-- Written by tools/compile_plan.py: change the plan or the compiler, not this file.
-- `gate_done` of `OrderPlan` meets its contract.
use borrow.Author.Rules.{rules}
use Rattle.gates.proofs.ByField.{not_and}
use Rattle.compiled_order.proofs.OrderPlanCompiledPlan.gate_done.Goals as goal

pub add_done-requires : goal.add_done-requires
add_done-requires c =
    let w = c.requires.good_plan_word in
    record { good_plan_word = (w.0, w.1, w.2, search rules, not_and _ c.requires.good_plan_word.4 c.if-w-eq-AND.false); enough = c.requires.enough }
