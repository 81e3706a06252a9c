-- The invariants of the loops of `wipe.wipe`.
use mathlib.Core.Path.{◌≡◌}
use lib.ListN.{length}
use Rattle.and_parts.proofs.Zeros.{zeroed, from}
use Rattle.and_parts.proofs.wipe.wipe.Given as goal

abbrev pub invariant-loop-i : goal.invariant-loop-i
invariant-loop-i l = (length l.cells ≡ 512) × (zeroed (from l.n 0) l.initial.cells ≡ zeroed (from l.n l.i) l.cells)
