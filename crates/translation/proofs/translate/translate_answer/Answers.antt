-- `translation::translate::translate_answer` meets its contract.
use mathlib.Core.Path.{refl, sym, ap, ◌∙◌}
use borrow.Author.Tests.{lt-ltb, le-ltb}
use Rattle.std.proofs.lemmas.Result.{err_from_is_err_and}
use Rattle.checks.specs.declared.answer.Answer.{Answer}
use Rattle.translation.specs.Calls.{measured}
use Rattle.translation.proofs.Counted.{next_answer, refused_still}
use Rattle.translation.proofs.translate.translate_answer.Goals as goal

pub returns-in_err-measured : goal.returns-in_err-measured
returns-in_err-measured c =
    let p = err_from_is_err_and c.from_residual.result c.from_residual.ensures.1 in
    rw (p.1, p.2) (refused_still c.args.n c.args.plan.now _ _ _ refl c.in_err-measured.ensures)

pub returns-then-room-measured : goal.returns-then-room-measured
returns-then-room-measured c =
    let z = sym (ap (λ (a : Answer). a.number) c.in_ok-measured.ensures) in
    let w = ap (λ (a : Answer). a.words) (c.in_ok-measured.ensures ∙ next_answer c.args.n c.args.plan.now _ z (measured c.args.n c.args.plan.now)) in
    sym (next_answer c.args.n c.args.plan.now _ z _ ∙ rw (lt-ltb _ _ (rw w at c.if-room-measured.true)))

pub returns : goal.returns
returns c =
    let z = sym (ap (λ (a : Answer). a.number) c.in_ok-measured.ensures) in
    let e = c.in_ok-measured.ensures ∙ next_answer c.args.n c.args.plan.now _ z (measured c.args.n c.args.plan.now) in
    e ∙ sym (next_answer c.args.n c.args.plan.now _ z _ ∙ rw (le-ltb _ _ (rw (ap (λ (a : Answer). a.words) e) at c.if-room-measured.false)))
