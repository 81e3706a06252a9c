-- The invariants of the loops of `rows.crosses`.
use mathlib.Core.Path.{◌≡◌}
use Prim.Native.Nat.{◌+◌, ◌≤◌}
use lib.ListN.{length}
use Rattle.masking.specs.Translation.{pairs, products, scratch, shares}
use Rattle.masking.specs.Machine.{rands_of}
use Rattle.and_parts.specs.inner.Effects.{at, placed}
use Rattle.and_parts.proofs.Toward.{Toward}
use Rattle.and_pairs.proofs.RowByRow.{rows_from}
use Rattle.and_pairs.proofs.rows.crosses.Given as goal

abbrev pub invariant-loop-i : goal.invariant-loop-i
invariant-loop-i l =
    (length l.cells ≡ 512) × (l.t + rands_of (rows_from (at (placed l.a l.over)) l.n l.i) ≤ length l.tape)
    × Toward l.tape (products scratch (at (placed l.a l.over)) (pairs (shares l.n))) l.t-2 l.initial.cells (rows_from (at (placed l.a l.over)) l.n l.i) l.t l.cells
