-- `translation::translate::translate` meets its contract.
use mathlib.Core.Path.{sym, ap}
use native.Mathlib.Omega.{arith}
use Rattle.checks.specs.declared.answer.Answer.{Answer}
use Rattle.translation.proofs.Counted.{accepted, enough}
use Rattle.translation.proofs.Tied.{translate_tied}
use Rattle.translation.proofs.translate.translate.Goals as goal

pub overflow_cast-n : goal.overflow_cast-n
overflow_cast-n c =
    omega (arith, (accepted c.args.n c.args.plan.now _ (sym (ap (λ (a : Answer). a.number) c.in_ok-counts.ensures))).most)

pub translate_words-requires : goal.translate_words-requires
translate_words-requires c =
    let z = sym (ap (λ (a : Answer). a.number) c.in_ok-counts.ensures) in record { accepted = accepted c.args.n c.args.plan.now _ z; plan_in_bounds = enough c.args.n c.args.plan.now _ z }

pub returns-in_err-counts-clause-holds : goal.returns-in_err-counts-clause-holds
returns-in_err-counts-clause-holds c = translate_tied

pub returns-clause-holds : goal.returns-clause-holds
returns-clause-holds c = translate_tied

pub returns-clause-out : goal.returns-clause-out
returns-clause-out c = rw (← c.in_ok-counts.ensures) c.translate_words.ensures
