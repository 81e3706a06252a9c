-- `masked_plan::calls::call` meets its contract.
use mathlib.Core.Path.{refl, ap, ◌∙◌}
use native.Mathlib.Omega.{arith}
use Rattle.std.proofs.lemmas.Result.{err_from_is_err_and}
use Rattle.checks.specs.Answers.{answer_of, refusal_of}
use Rattle.masked_call.proofs.Acting.{to_finish, to_end, acted, turned_down}
use Rattle.masked_call.proofs.Answering.{not_done}
use Rattle.masked_plan.proofs.calls.call.Goals as goal

pub operation_answer-requires : goal.operation_answer-requires
operation_answer-requires g c = omega (arith, c.UNITS.ensures, g.P.CompiledPlan.laws.takes.most)

pub returns-in_err-counts : goal.returns-in_err-counts
returns-in_err-counts g c =
    let m = g.P.CompiledPlan in
    let all = turned_down m.plan c.args.x.now c.args.y.now c.args.res.now c.args.work.now c.args.tape.now _ m.laws.takes _ (rw c.UNITS.ensures at c.in_err-counts.ensures) (not_done _) in
    let same = err_from_is_err_and c.from_residual.result c.from_residual.ensures.1 in
    record { answer = ap answer_of same.1 ∙ ap refusal_of same.2 ∙ all.0; res = all.1.0; work = all.1.1 }

pub finish-requires : goal.finish-requires
finish-requires g c =
    let m = g.P.CompiledPlan in
    to_finish m.plan c.args.x.now c.args.y.now c.args.res.now c.args.work.now c.args.tape.now _ m.laws.takes _ (rw c.UNITS.ensures at c.in_ok-counts.ensures) refl m.laws.good

pub end-requires : goal.end-requires
end-requires g c =
    let m = g.P.CompiledPlan in
    to_end m.plan c.args.x.now c.args.y.now c.args.res.now c.args.work.now c.args.tape.now _ m.laws.takes _ (rw c.UNITS.ensures at c.in_ok-counts.ensures) refl c.finish.auto.work

pub returns : goal.returns
returns g c =
    let m = g.P.CompiledPlan in
    let all = acted m.plan c.args.x.now c.args.y.now c.args.res.now c.args.work.now c.args.tape.now _ m.laws.takes _ (rw c.UNITS.ensures at c.in_ok-counts.ensures) refl c.finish.new.work c.finish.auto.work c.finish.ensures c.end.ensures in
    record { answer = all.0; res = all.1.0; work = all.1.1 }
