-- `masked_work::place` meets its contract.
use mathlib.Core.Path.{refl, sym, ap₂, ◌∙◌}
use mathlib.Core.List.{List}
use Prim.Native.Nat.{ℕ}
use native.Mathlib.Omega.{arith}
use lib.ListN.{length-set, drop_of_length-le}
use Rattle.masked_call.specs.Shares.{placed_in}
use Rattle.masked_call.proofs.Filling.{both_placed}
use Rattle.masked_work.proofs.place.Goals as goal

pub loop-i-init : goal.loop-i-init
loop-i-init c = (omega arith, refl, c.requires.2, refl)

pub bounds-cells-i-in-loop-i : goal.bounds-cells-i-in-loop-i
bounds-cells-i-in-loop-i c = simp length-set (omega arith)

pub loop-i-preserved : goal.loop-i-preserved
loop-i-preserved c =
    (omega arith, refl, simp length-set c.loop-i.invariant.2, c.loop-i.invariant.3 ∙ both_placed c.loop-i.i c.args.x.now c.args.y.now c.loop-i.cells (omega arith) c.requires.0)

pub returns : goal.returns
returns c =
    sym (c.loop-i.invariant.3 ∙ ap₂ (λ (u v : List ℕ). placed_in 1 c.loop-i.i u (placed_in 0 c.loop-i.i v c.loop-i.cells)) (drop_of_length-le c.args.y.now {i = c.loop-i.i} (omega (arith, c.requires.0))) (drop_of_length-le c.args.x.now {i = c.loop-i.i} (omega arith)))
