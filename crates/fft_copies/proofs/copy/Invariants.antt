-- The invariant of the loop of `copy`.
use Rattle.fft_copies.proofs.Written.{Copied}
use Rattle.fft_copies.proofs.copy.Given as goal

abbrev pub invariant-loop-i : goal.invariant-loop-i
invariant-loop-i l = Copied l.n l.step l.at l.stride l.place l.from l.initial.to l.i l.to
