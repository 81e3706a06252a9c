-- The invariants of the loops of `copies.diagonal`.
use mathlib.Core.Path.{◌≡◌}
use Prim.Native.Nat.{ℕ, ◌+◌}
use lib.ListN.{length}
use Rattle.word.specs.declared.step.Step.{Step}
use Rattle.word.specs.declared.step.Step.TheVariants.{And}
use Rattle.and_parts.specs.declared.once.Place.{Place}
use Rattle.and_parts.specs.inner.Effects.{at, placed}
use Rattle.and_pairs.proofs.ShareTurns.{Rest}
use Rattle.and_pairs.proofs.copies.diagonal.Given as goal

-- the step of a share
abbrev pub each : Place → ℕ → Step
each p i = And (264 + i) (at p i) (256 + i)

abbrev pub invariant-loop-i : goal.invariant-loop-i
invariant-loop-i l = (length l.cells ≡ 512) × Rest (each (placed l.a l.over)) l.n l.i l.initial.cells l.cells
