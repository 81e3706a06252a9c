-- The invariant of the loop of `write_table`.
use mathlib.Core.Path.{◌≡◌}
use lib.ListN.{length}
use Rattle.plan_copy.proofs.Copying.{Copied}
use Rattle.plan_copy.proofs.copy.write_table.Given as goal

abbrev pub invariant-loop-i : goal.invariant-loop-i
invariant-loop-i l = (length l.out ≡ length l.initial.out) × Copied l.table l.initial.out l.i l.out
