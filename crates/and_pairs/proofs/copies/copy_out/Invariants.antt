-- The invariants of the loops of `copies.copy_out`.
use mathlib.Core.Path.{◌≡◌}
use Prim.Native.Nat.{ℕ, ◌+◌}
use lib.ListN.{length}
use Rattle.word.specs.declared.step.Step.{Step}
use Rattle.word.specs.declared.step.Step.TheVariants.{Shl}
use Rattle.and_parts.specs.declared.once.Place.{Place}
use Rattle.and_parts.specs.inner.Effects.{at}
use Rattle.and_pairs.proofs.ShareTurns.{Rest}
use Rattle.and_pairs.proofs.copies.copy_out.Given as goal

-- the step of a share
abbrev pub each : Place → ℕ → Step
each p i = Shl (at p i) (264 + i) 0

abbrev pub invariant-loop-i : goal.invariant-loop-i
invariant-loop-i l = (length l.cells ≡ 512) × Rest (each l.d) l.n l.i l.initial.cells l.cells
