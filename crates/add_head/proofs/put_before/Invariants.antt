-- The invariant of the loop of `put_before`.
use mathlib.Core.Path.{◌≡◌}
use Prim.Native.Nat.{◌≤◌}
use lib.ListN.{length}
use Rattle.add_head.proofs.Written.{Put}
use Rattle.add_head.proofs.put_before.Given as goal

abbrev pub invariant-loop-i : goal.invariant-loop-i
invariant-loop-i l = (l.i ≤ length l.stored) × (l.i-end ≡ length l.stored) × (length l.out ≡ length l.initial.out) × Put l.stored l.initial.out l.i l.out
