-- `plan_copy::copy::write_table` meets its contract: the loop keeps that the words passed are written (Copying).
use mathlib.Core.Path.{refl, ◌∙◌}
use Prim.Native.Nat.{◌<◌}
use native.Mathlib.Omega.{arith}
use lib.ListN.{length, length-set}
use Rattle.plan_copy.proofs.Copying.{none_copied, one_copied, all_copied}
use Rattle.plan_copy.proofs.copy.write_table.Goals as goal

pub loop-i-init : goal.loop-i-init
loop-i-init c = (refl, none_copied c.args.table.now c.args.out.now)

pub bounds-table-i : goal.bounds-table-i
bounds-table-i c = omega (arith, c.loop-i.invariant.0, c.requires)

pub loop-i-preserved : goal.loop-i-preserved
loop-i-preserved c =
    let l : c.loop-i.i < length c.args.table.now = omega (arith, c.loop-i.invariant.0, c.requires) in
    (length-set c.loop-i.out c.loop-i.i _ ∙ c.loop-i.invariant.0, one_copied c.args.table.now c.args.out.now c.loop-i.out c.loop-i.i c.loop-i.invariant.1 c.requires _ l refl)

pub returns : goal.returns
returns c =
    all_copied c.args.table.now c.args.out.now c.loop-i.out c.loop-i.i c.loop-i.invariant.1 c.requires (omega (arith, c.loop-i.invariant.0, c.requires))
