-- The invariant of the loop of `place`.
use mathlib.Core.Path.{◌≡◌}
use Prim.Native.Nat.{◌≤◌}
use lib.ListN.{length, drop}
use Rattle.masked_call.specs.Shares.{placed_in}
use Rattle.masked_work.proofs.place.Given as goal

abbrev pub invariant-loop-i : goal.invariant-loop-i
invariant-loop-i l =
    (l.i ≤ length l.x) × (l.i-end ≡ length l.x) × (length l.cells ≡ 512) × (placed_in 1 0 l.y (placed_in 0 0 l.x l.initial.cells) ≡ placed_in 1 l.i (drop l.i l.y) (placed_in 0 l.i (drop l.i l.x) l.cells))
