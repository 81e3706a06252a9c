-- The invariant of the loop of `exec.exec`.
use mathlib.Core.Path.{◌≡◌}
use Prim.Native.Nat.{◌+◌}
use lib.ListN.{length, drop}
use Rattle.masking.specs.Machine.{exec, rands}
use Rattle.share_machine.proofs.exec.exec.Given as goal

abbrev pub invariant-loop-w : goal.invariant-loop-w
invariant-loop-w l =
    (length l.cells ≡ length l.initial.cells)
    × (l.t + rands (drop l.w-index l.words) ≡ rands l.words)
    × (exec l.words l.tape l.initial.cells ≡ exec (drop l.w-index l.words) (drop l.t l.tape) l.cells)
