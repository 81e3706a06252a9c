-- The loop of `first_bad`: the reader stands at a place of the list up to its end, and no word before is bad. What is left is the measure.
use Prim.Native.Nat.{◌≤◌, ◌-◌}
use mathlib.Core.Path.{◌≡◌}
use lib.ListN.{length}
use Rattle.checks.proofs.Checking.{Passed}
use Rattle.checks.proofs.check.first_bad.Given as goal

abbrev pub invariant-loop-reader : goal.invariant-loop-reader
invariant-loop-reader g l = (l.reader.plan.now ≡ l.words) × (l.reader.next ≤ length l.words) × Passed g.R.Rule.taken l.words l.reader.next

abbrev pub decreases-loop-reader : goal.decreases-loop-reader
decreases-loop-reader g l = length l.words - l.reader.next
