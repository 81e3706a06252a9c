-- The invariant of the loop of `copy_within`.
use Rattle.fft_copies.proofs.Written.{Copied, Unread}
use Rattle.fft_copies.proofs.copy_within.Given as goal

abbrev pub invariant-loop-i : goal.invariant-loop-i
invariant-loop-i l = Copied l.n l.step l.at l.stride l.place l.initial.cells l.initial.cells l.i l.cells × Unread l.n l.step l.at l.initial.cells l.cells
