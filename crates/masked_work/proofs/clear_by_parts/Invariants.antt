-- The invariants and measures of the loops of `clear_by_parts`.
use mathlib.Core.Path.{◌≡◌}
use Prim.Native.Nat.{◌-◌, ◌≤◌}
use lib.ListN.{length}
use Rattle.masked_call.proofs.Filling.{Filled}
use Rattle.masked_work.proofs.clear_by_parts.Given as goal

abbrev pub invariant-loop-at : goal.invariant-loop-at
invariant-loop-at l = (l.at ≤ length l.initial.cells) × (length l.cells ≡ length l.initial.cells) × Filled (λ k. 0) l.at l.cells

abbrev pub decreases-loop-at : goal.decreases-loop-at
decreases-loop-at l = length l.initial.cells - l.at
