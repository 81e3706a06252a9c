-- The invariant of the loop of `run.run`.
use mathlib.Core.Path.{◌≡◌}
use Prim.Native.Nat.{◌-◌, ◌≤◌}
use lib.ListN.{get_or, length}
use Rattle.masking.specs.Translation.{shares, up_from}
use Rattle.compiled.specs.inner.OnShare.{share_by_share}
use Rattle.masked_plan.proofs.run.run.Given as goal

abbrev pub invariant-loop-i : goal.invariant-loop-i
invariant-loop-i g l =
    let ws = get_or g.P.CompiledPlan.runs l.k g.P.CompiledPlan.last_run in
    (l.i ≤ l.n) × (length l.cells ≡ 512)
    × (share_by_share (shares l.n) ws l.initial.cells ≡ share_by_share (up_from l.i (l.n - l.i)) ws l.cells)
