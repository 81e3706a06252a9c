-- Written by tools/compile_plan.py: change the plan or the compiler, not this file.
-- `gate_done` of `SumPlan` meets its contract.
use borrow.Author.Rules.{rules}
use lib.Dec.{eqb→eq}
use Rattle.compiled_sum.proofs.SumPlanCompiledPlan.gate_done.Goals as goal

pub and_done-requires : goal.and_done-requires
and_done-requires c =
    let w = c.requires.good_plan_word in
    record { good_plan_word = (w.0, w.1, w.2, search rules, eqb→eq _ 3 c.requires.good_plan_word.4); enough = c.requires.enough }
