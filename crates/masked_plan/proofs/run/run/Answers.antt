-- `masked_plan::run::run` meets its contract.
use native.Mathlib.Omega.{arith}
use lib.ListN.{get_or}
use Rattle.compiled.proofs.Turn.{begin, turn, end}
use Rattle.masked_plan.proofs.run.run.Goals as goal

pub loop-i-init : goal.loop-i-init
loop-i-init g c =
    let ws = get_or g.P.CompiledPlan.runs c.args.k g.P.CompiledPlan.last_run in
    (omega arith, c.requires.2, begin ws c.args.n _)

pub loop-i-preserved : goal.loop-i-preserved
loop-i-preserved g c =
    let ws = get_or g.P.CompiledPlan.runs c.args.k g.P.CompiledPlan.last_run in
    (omega arith, omega arith, turn ws c.args.n c.loop-i.i (omega arith) c.args.cells.now c.loop-i.cells c.loop-i.invariant.2 c.on_share.ensures)

pub returns : goal.returns
returns g c =
    let ws = get_or g.P.CompiledPlan.runs c.args.k g.P.CompiledPlan.last_run in
    end ws c.args.n c.loop-i.i (omega arith) c.args.cells.now c.loop-i.cells c.loop-i.invariant.2
