-- The invariant of the loop of `translate.translate_words`.
use Rattle.translation.proofs.Program.{Going}
use Rattle.translation.proofs.translate.translate_words.Given as goal

abbrev pub invariant-loop-w : goal.invariant-loop-w
invariant-loop-w l = Going l.n l.plan l.initial.out l.out l.at l.w-index
