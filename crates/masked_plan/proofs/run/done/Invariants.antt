-- The invariant and the measure of the loop of `run.done`.
use Prim.Native.Nat.{◌-◌, ◌≤◌}
use Rattle.masking.specs.Machine.{steps_of}
use Rattle.masking.specs.Translation.{program}
use Rattle.and_parts.proofs.Running.{Left}
use Rattle.compiled.proofs.Cut.{from}
use Rattle.masked_plan.proofs.run.done.Given as goal

abbrev pub invariant-loop-k : goal.invariant-loop-k
invariant-loop-k g l =
    let m = g.P.CompiledPlan in
    (l.k ≤ m.GATES) × Left l.tape (steps_of (program l.n m.plan)) l.start l.initial.cells (from m.laws.cut l.n l.k) l.t l.cells

abbrev pub decreases-loop-k : goal.decreases-loop-k
decreases-loop-k g l = g.P.CompiledPlan.GATES - l.k
