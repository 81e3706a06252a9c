-- The invariant of the loop of `copy_out`.
use mathlib.Core.Path.{◌≡◌}
use Prim.Native.Nat.{◌≤◌}
use lib.ListN.{length, get_or}
use Rattle.word.specs.Layout.{cell}
use Rattle.masked_call.proofs.Filling.{Filled}
use Rattle.masked_work.proofs.copy_out.Given as goal

abbrev pub invariant-loop-i : goal.invariant-loop-i
invariant-loop-i l = (l.i ≤ length l.initial.res) × (l.i-end ≡ length l.initial.res) × (length l.res ≡ length l.initial.res) × Filled (λ k. get_or l.cells (cell k 2) 0) l.i l.res
