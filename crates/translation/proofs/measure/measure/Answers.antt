-- `translation::measure::measure` meets its contract.
use mathlib.Core.Bool.{not}
use mathlib.Core.Path.{sym, ap, ◌∙◌}
use native.Mathlib.Omega.{arith}
use Rattle.checks.specs.declared.answer.Answer.{Answer}
use Rattle.checks.specs.Answers.{done, plan_checked}
use Rattle.checks.proofs.Checked.{plan_check}
use Rattle.word.proofs.Small.{in_range}
use Rattle.translation.proofs.measure.measure.Goals as goal

pub overflow_cast-n : goal.overflow_cast-n
overflow_cast-n c = omega (arith, in_range c.args.n (sym (ap not c.is_share_count.ensures) ∙ c.if-not-is_share_count.false-raw))

pub counted-requires : goal.counted-requires
unfolding plan_checked
counted-requires c =
    let p = (plan_check.passes c.args.plan.now (done 0 0) (sym (ap (λ (a : Answer). a.number) (c.in_ok-check.ensures (done 0 0))))).0 in
    let r = in_range c.args.n (sym (ap not c.is_share_count.ensures) ∙ c.if-not-is_share_count.false-raw) in record { le_n = (omega (arith, r.0), r.1); plan_len_bound = p.short }
