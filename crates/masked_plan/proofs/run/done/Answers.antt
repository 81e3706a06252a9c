-- `masked_plan::run::done` meets its contract.
use mathlib.Core.Path.{◌∙◌}
use Prim.Native.Nat.{◌+◌}
use native.Mathlib.Omega.{arith}
use Rattle.word.specs.Encoding.{plan_step}
use Rattle.masking.specs.Machine.{steps_of}
use Rattle.masking.specs.Translation.{words_for}
use Rattle.and_parts.proofs.Running.{start as begun, renamed, part, enough}
use Rattle.compiled.proofs.Cut.{from, from_start, good_gate, after_run, after_last}
use Rattle.masked_plan.proofs.run.done.Goals as goal

pub loop-k-init : goal.loop-k-init
loop-k-init g c = (omega arith, renamed (from_start g.P.CompiledPlan.laws.cut c.args.n) (begun _ _ _ _))

pub run-requires : goal.run-requires
run-requires g c = (c.loop-k.invariant.0, c.requires.le_n.1, c.loop-k.invariant.1.size ∙ c.requires.le_n.2)

pub returns-then-k-GATES : goal.returns-then-k-GATES
returns-then-k-GATES g c =
    let laws = g.P.CompiledPlan.laws in
    after_last laws.cut c.args.n c.requires.le_n.0 c.requires.le_n.1 c.loop-k.k (omega (arith, c.if-k-GATES.true, c.GATES.ensures, laws.count)) c.loop-k.invariant.1 c.run.ensures

pub gate-requires : goal.gate-requires
gate-requires g c = omega (arith, c.if-k-GATES.false, c.GATES.ensures, c.loop-k.invariant.0)

pub gate_done-t-requires : goal.gate_done-t-requires
gate_done-t-requires g c =
    let laws = g.P.CompiledPlan.laws in
    let l = after_run laws.cut c.args.n c.requires.le_n.0 c.requires.le_n.1 c.loop-k.k (omega (arith, c.if-k-GATES.false, c.GATES.ensures, laws.count)) c.loop-k.invariant.1 c.run.ensures c.gate.ensures in
    let G = good_gate laws.cut c.args.n c.loop-k.k (omega (arith, c.if-k-GATES.false, c.GATES.ensures, laws.count)) c.gate.ensures in
    record {
      good_plan_word = (G.0, c.requires.le_n.0, c.requires.le_n.1, l.size ∙ c.requires.le_n.2, G.1);
      enough = enough (steps_of (words_for c.args.n (plan_step c.gate.result))) (from laws.cut c.args.n (c.loop-k.k + 1)) l c.requires.enough;
    }

pub overflow_add-k : goal.overflow_add-k
overflow_add-k g c = omega (arith, c.if-k-GATES.false, c.GATES.ensures)

pub loop-k-smaller : goal.loop-k-smaller
loop-k-smaller g c = omega (arith, c.if-k-GATES.false, c.GATES.ensures)

pub loop-k-preserved : goal.loop-k-preserved
loop-k-preserved g c =
    let laws = g.P.CompiledPlan.laws in
    let l = after_run laws.cut c.args.n c.requires.le_n.0 c.requires.le_n.1 c.loop-k.k (omega (arith, c.if-k-GATES.false, c.GATES.ensures, laws.count)) c.loop-k.invariant.1 c.run.ensures c.gate.ensures in
    (omega (arith, c.if-k-GATES.false, c.GATES.ensures), part _ _ l c.gate_done-t.ensures)
