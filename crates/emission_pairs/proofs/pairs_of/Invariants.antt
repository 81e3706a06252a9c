-- The invariant of the loop of `pairs_of`.
use Prim.Native.Nat.{◌+◌, ◌-◌, ◌≤◌}
use Rattle.masking.specs.Translation.{up_from, pairs_of}
use Rattle.emission_pairs.specs.inner.Pairs.{pair_steps}
use Rattle.emission_rows.proofs.Parts.{Left}
use Rattle.emission_pairs.proofs.pairs_of.Given as goal

abbrev pub invariant-loop-j : goal.invariant-loop-j
invariant-loop-j l = (l.j ≤ l.n) × Left l.initial.out l.initial.at (pair_steps l.p (pairs_of l.i (up_from (l.i + 1) (l.n - (l.i + 1))))) l.out l.at (pair_steps l.p (pairs_of l.i (up_from l.j (l.n - l.j))))
