-- The invariant of the loop of `mask`.
use mathlib.Core.Path.{◌≡◌}
use Prim.Native.Nat.{◌+◌, ◌≤◌}
use lib.ListN.{length}
use Rattle.split_join.proofs.SplitJoin.{Masking}
use Rattle.split_join.proofs.mask.Given as goal

abbrev pub invariant-loop-i : goal.invariant-loop-i
invariant-loop-i l = (l.i + 1 ≤ length l.initial.out) × (l.i-end + 1 ≡ length l.initial.out) × (length l.out ≡ length l.initial.out) × Masking l.word l.tape l.initial.out l.i l.out l.first
