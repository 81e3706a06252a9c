-- The invariants and measures of the loops of `rands.rands`.
use mathlib.Core.Path.{◌≡◌}
use Prim.Native.Nat.{◌+◌, ◌-◌, ◌≤◌}
use lib.ListN.{length, drop}
use Rattle.masking.specs.Machine.{rands}
use Rattle.share_machine.proofs.rands.rands.Given as goal

abbrev pub invariant-loop-i : goal.invariant-loop-i
invariant-loop-i l =
    (l.i ≤ length l.words) × (l.i-end ≡ length l.words) × (l.count ≤ l.i) × (l.count + rands (drop l.i l.words) ≡ rands l.words)

abbrev pub decreases-loop-i : goal.decreases-loop-i
decreases-loop-i l = length l.words - l.i
