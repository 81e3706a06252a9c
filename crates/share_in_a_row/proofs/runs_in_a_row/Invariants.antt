-- The invariant of the loop of `runs_in_a_row`.
use mathlib.Core.Path.{◌≡◌}
use Prim.Native.Nat.{◌≤◌, max, min}
use lib.ListN.{length, drop}
use Rattle.masking.specs.Runs.{standing, runs_of, in_arow}
use Rattle.share_in_a_row.proofs.runs_in_a_row.Given as goal

abbrev pub invariant-loop-i : goal.invariant-loop-i
invariant-loop-i l =
    (l.i ≤ min (length l.counts) (length l.budgets))
    × (l.runs ≡ min (length l.counts) (length l.budgets))
    × (length l.cells ≡ length l.initial.cells)
    × (l.p ≤ max l.place (length l.program))
    × (l.t ≤ max l.tape_place (length l.tape))
    × (in_arow l.program l.tape (standing l.initial.cells l.place l.tape_place) (runs_of l.counts l.budgets) ≡ in_arow l.program l.tape (standing l.cells l.p l.t) (runs_of (drop l.i l.counts) (drop l.i l.budgets)))
