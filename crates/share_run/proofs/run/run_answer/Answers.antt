-- `share_run::run::run_answer` meets its contract.
use mathlib.Core.Path.{sym, ap, ◌∙◌}
use Rattle.std.proofs.lemmas.Result.{err_from_is_err_and}
use Rattle.checks.specs.declared.answer.Answer.{Answer}
use Rattle.checks.specs.Answers.{done}
use Rattle.checks_run.proofs.RunChecked.{run_passes}
use Rattle.share_machine.proofs.ByKind.{taken_good}
use Rattle.share_run.proofs.run.run_answer.Goals as goal

pub returns-in_err-check_run : goal.returns-in_err-check_run
returns-in_err-check_run c =
    let p = err_from_is_err_and c.from_residual.result c.from_residual.ensures.1 in
    rw (p.1, p.2) (c.in_err-check_run.ensures _)

pub rest_answer-requires : goal.rest_answer-requires
rest_answer-requires c =
    taken_good c.args.n c.args.program.now (run_passes c.args.n c.args.program.now (done 0 0) (sym (ap (λ (a : Answer). a.number) (c.in_ok-check_run.ensures (done 0 0))))).0

pub returns : goal.returns
returns c = c.rest_answer.ensures ∙ c.in_ok-check_run.ensures _
