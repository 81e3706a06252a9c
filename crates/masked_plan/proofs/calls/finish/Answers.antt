-- `masked_plan::calls::finish` meets its contract.
use mathlib.Core.Path.{refl}
use lib.ListN.{length}
use borrow.Author.Rules.{rules}
use Rattle.masked_call.proofs.Plans.{enough_tape}
use Rattle.masked_call.proofs.Known.{result_by}
use Rattle.masked_plan.proofs.calls.finish.Goals as goal

pub done-requires : goal.done-requires
done-requires g c = record { le_n = (c.requires.0.least, c.requires.0.most, search rules); enough = enough_tape (length c.args.x.now) g.P.CompiledPlan.plan c.args.x.now c.args.y.now c.args.tape.now c.requires.0 c.requires.3 }

pub returns : goal.returns
returns g c =
    let m = g.P.CompiledPlan in
    result_by (length c.args.x.now) c.requires.0.most c.args.x.now c.args.y.now refl c.requires.1 m.plan c.args.tape.now c.requires.0 c.requires.3 m.laws.reads m.laws.writes c.args.work.now c.requires.2 c.place.ensures c.done.ensures
