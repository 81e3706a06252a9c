-- `add_turn::merged` meets its contract. Rests on InTurn for what is left after a share.
use native.Mathlib.Omega.{arith}
use lib.ListN.{length-set}
use Rattle.bits.specs.Ops.{xor_w, shl_w}
use Rattle.add_turn.proofs.InTurn.{begin, turn, end}
use Rattle.add_turn.proofs.merged.Goals as goal

pub loop-i-init : goal.loop-i-init
loop-i-init c = (c.requires.2, begin c.args.k c.args.n c.args.cells.now)

pub loop-i-preserved : goal.loop-i-preserved
unfolding xor_w shl_w
loop-i-preserved c =
    (simp length-set c.loop-i.invariant.0, turn c.args.k c.args.n c.loop-i.i (omega arith) c.args.cells.now c.loop-i.cells c.loop-i.invariant.1)

pub returns : goal.returns
returns c = end c.args.k c.args.n c.loop-i.i (omega arith) c.args.cells.now c.loop-i.cells c.loop-i.invariant.1
