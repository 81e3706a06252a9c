-- The invariants of the loops of `rows.cross_row`.
use mathlib.Core.Path.{◌≡◌}
use Prim.Native.Nat.{◌+◌, ◌-◌, ◌≤◌}
use lib.ListN.{length, set}
use Rattle.masking.specs.Translation.{up_from, pairs_of, products, scratch}
use Rattle.and_parts.specs.inner.Effects.{at, placed}
use Rattle.and_parts.proofs.Toward.{Toward}
use Rattle.and_pairs.proofs.rows.cross_row.Given as goal

abbrev pub invariant-loop-j : goal.invariant-loop-j
invariant-loop-j l =
    (length l.cells ≡ 512) × (l.t + (l.n - l.j) ≤ length l.tape)
    × Toward l.tape (products scratch (at (placed l.a l.over)) (pairs_of l.i (up_from (l.i + 1) (l.n - (l.i + 1))))) l.initial.t l.initial.cells (products scratch (at (placed l.a l.over)) (pairs_of l.i (up_from l.j (l.n - l.j)))) l.t (set l.cells (264 + l.i) l.z)
