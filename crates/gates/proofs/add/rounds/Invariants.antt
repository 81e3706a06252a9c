-- The invariants of the loops of `add.rounds`.
use Rattle.masking.specs.Translation.{scratch, blocks, rounds}
use Rattle.and_parts.proofs.Running.{Left}
use Rattle.gates.proofs.Rounds.{from}
use Rattle.gates.proofs.add.rounds.Given as goal

abbrev pub invariant-loop-k : goal.invariant-loop-k
invariant-loop-k l = Left l.tape (blocks scratch l.n rounds) l.t-2 l.initial.cells (blocks scratch l.n (from l.k-index)) l.t l.cells
