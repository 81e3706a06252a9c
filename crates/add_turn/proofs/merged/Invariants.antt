-- The invariants of the loops of `merged`.
use mathlib.Core.Path.{◌≡◌}
use lib.ListN.{length}
use Rattle.add_turn.proofs.InTurn.{Rest}
use Rattle.add_turn.proofs.merged.Given as goal

abbrev pub invariant-loop-i : goal.invariant-loop-i
invariant-loop-i l = (length l.cells ≡ 512) × Rest l.k l.n l.i l.initial.cells l.cells
