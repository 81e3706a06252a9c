-- The invariant of the loop of `row`.
use mathlib.Core.Path.{◌≡◌}
use Prim.Native.Nat.{◌-◌, ◌*◌, ◌/◌, ◌≤◌}
use Rattle.emission_rows.proofs.Rows.{Along}
use Rattle.emission_rows.proofs.row.Given as goal

abbrev pub invariant-loop-i : goal.invariant-loop-i
invariant-loop-i l = (l.i ≤ l.n / 2) × (l.i-end ≡ l.n / 2) × Along l.first l.over l.n l.initial.out l.initial.at l.out l.at l.w (2 * l.i) × (l.initial.at ≡ l.at-2)
