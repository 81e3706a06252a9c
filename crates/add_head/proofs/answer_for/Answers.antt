-- `add_head::answer_for` meets its contract.
use mathlib.Core.Path.{sym, ap}
use native.Mathlib.Omega.{arith}
use Rattle.checks.specs.declared.answer.Answer.{Answer}
use Rattle.checks.specs.Answers.{done, program_checked}
use Rattle.checks.proofs.Checked.{program_check}
use Rattle.share_machine.proofs.ByKind.{all_good}
use Rattle.add_head.proofs.answer_for.Goals as goal

pub overflow_add-result : goal.overflow_add-result
unfolding program_checked
overflow_add-result c = omega (arith, (program_check.passes c.args.stored.now (done 0 0) (sym (ap (λ (a : Answer). a.number) (c.in_ok-check.ensures (done 0 0))))).0.short)

pub rands-requires : goal.rands-requires
unfolding program_checked
rands-requires c = all_good c.args.stored.now (program_check.passes c.args.stored.now (done 0 0) (sym (ap (λ (a : Answer). a.number) (c.in_ok-check.ensures (done 0 0))))).0.good
