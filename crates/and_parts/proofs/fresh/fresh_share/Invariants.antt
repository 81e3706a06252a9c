-- The invariants of the loops of `fresh.fresh_share`.
use mathlib.Core.Path.{◌≡◌}
use Prim.Native.Nat.{◌+◌, ◌-◌, ◌≤◌, ◌<◌}
use lib.ListN.{length, get_or}
use Rattle.and_parts.specs.inner.Effects.{at, behind, behind_row, placed, row_words}
use Rattle.and_parts.proofs.fresh.fresh_share.Given as goal

abbrev pub invariant-loop-below : goal.invariant-loop-below
invariant-loop-below l =
    (l.below ≤ l.row) × (l.row < 8) × (l.p + l.row ≤ length l.tape) × (l.p + row_words l.row ≤ length l.tape) × (behind l.tape l.k (l.n - 1) l.t (get_or l.cells (at (placed l.b l.over) l.k) 0) ≡ behind l.tape l.below l.row l.p l.y)

abbrev pub invariant-loop-word : goal.invariant-loop-word
invariant-loop-word l = behind_row l.tape l.row l.p l.initial.y ≡ behind_row l.tape (l.row - l.word-index) (l.p + l.word-index) l.y
