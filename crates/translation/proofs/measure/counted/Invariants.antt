-- The invariant of the loop of `measure.counted`.
use Rattle.translation.proofs.Counted.{Summed}
use Rattle.translation.proofs.measure.counted.Given as goal

abbrev pub invariant-loop-w : goal.invariant-loop-w
invariant-loop-w l = Summed l.n l.plan l.words l.tape l.w-index
