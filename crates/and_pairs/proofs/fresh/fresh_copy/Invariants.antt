-- The invariants of the loops of `fresh.fresh_copy`.
use mathlib.Core.Path.{◌≡◌}
use Prim.Native.Nat.{◌-◌}
use lib.ListN.{length}
use Rattle.masking.specs.Translation.{shares, up_from}
use Rattle.and_parts.specs.inner.Effects.{at, freshly, placed}
use Rattle.and_pairs.proofs.fresh.fresh_copy.Given as goal

abbrev pub invariant-loop-k : goal.invariant-loop-k
invariant-loop-k l =
    (length l.cells ≡ 512)
    × (freshly l.tape l.t l.n (at (placed l.b l.over)) (shares l.n) l.initial.cells ≡ freshly l.tape l.t l.n (at (placed l.b l.over)) (up_from l.k (l.n - l.k)) l.cells)
