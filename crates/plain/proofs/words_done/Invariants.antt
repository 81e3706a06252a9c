-- The loop of `words_done`: what the words left make of the cells is what all make of those at the start.
use mathlib.Core.Path.{◌≡◌}
use lib.ListN.{length, drop}
use Rattle.plain.specs.Machine.{run}
use Rattle.plain.proofs.words_done.Given as goal

abbrev pub invariant-loop-w : goal.invariant-loop-w
invariant-loop-w l = (length l.cells ≡ length l.initial.cells) × (run l.plan l.initial.cells ≡ run (drop l.w-index l.plan) l.cells)
