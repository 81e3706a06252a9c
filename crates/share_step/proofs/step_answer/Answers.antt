-- `share_step::step_answer` meets its contract.
use mathlib.Core.Path.{sym, ap, ◌∙◌}
use mathlib.Core.Bool.{not}
use Rattle.share_machine.proofs.ByKind.{one_good}
use Rattle.share_step.proofs.step_answer.Goals as goal

pub returns-then-not-can_be_done : goal.returns-then-not-can_be_done
returns-then-not-can_be_done c = rw (← c.can_be_done.ensures, c.if-not-can_be_done.true-raw)

pub rest_answer-requires : goal.rest_answer-requires
rest_answer-requires c =
    one_good c.args.word (sym (ap not c.can_be_done.ensures) ∙ c.if-not-can_be_done.false-raw)

pub returns : goal.returns
returns c = rw (← c.can_be_done.ensures, c.if-not-can_be_done.false-raw) c.rest_answer.ensures
