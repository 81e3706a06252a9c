-- The invariant of the loop of `all_pairs`.
use Prim.Native.Nat.{◌-◌, ◌≤◌}
use Rattle.masking.specs.Translation.{up_from, shares, pairs}
use Rattle.emission_pairs.specs.inner.Pairs.{pair_steps}
use Rattle.emission_rows.proofs.Parts.{Left}
use Rattle.emission_pairs.proofs.all_pairs.Given as goal

abbrev pub invariant-loop-i : goal.invariant-loop-i
invariant-loop-i l = (l.i ≤ l.n) × Left l.initial.out l.initial.at (pair_steps l.p (pairs (shares l.n))) l.out l.at (pair_steps l.p (pairs (up_from l.i (l.n - l.i))))
