-- The invariants of the loops of `once.each`.
use mathlib.Core.Path.{◌≡◌}
use mathlib.Core.List.{List, map}
use Prim.Native.Nat.{ℕ, ◌-◌}
use lib.ListN.{length}
use Rattle.masking.specs.Translation.{shares, up_from}
use Rattle.masking.specs.Machine.{exec_steps}
use Rattle.and_parts.specs.inner.Effects.{at, once_step}
use Rattle.and_parts.proofs.once.each.Given as goal

abbrev pub invariant-loop-i : goal.invariant-loop-i
invariant-loop-i l =
    (length l.cells ≡ 512)
    × ((tape : List ℕ)
    → exec_steps (map (once_step l.op (at l.d) (at l.a) (at l.b)) (shares l.n)) tape l.initial.cells
    ≡ exec_steps (map (once_step l.op (at l.d) (at l.a) (at l.b)) (up_from l.i (l.n - l.i))) tape l.cells)
