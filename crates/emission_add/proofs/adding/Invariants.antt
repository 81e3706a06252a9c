-- The invariant of the loop of `adding`.
use mathlib.Core.Path.{◌≡◌}
use Prim.Native.Nat.{◌-◌, ◌≤◌}
use lib.ListN.{drop}
use Rattle.masking.specs.Translation.{scratch, blocks, adding}
use Rattle.emission_rows.proofs.Parts.{Left}
use Rattle.emission_add.proofs.adding.Given as goal

abbrev pub invariant-loop-k : goal.invariant-loop-k
invariant-loop-k l = (l.k ≤ 33) × Left l.initial.out l.initial.at (blocks scratch l.n (adding l.d.first l.a.first l.b.first)) l.out l.at (blocks scratch l.n (drop l.k (adding l.d.first l.a.first l.b.first))) × (l.initial.at ≡ l.at-2)
