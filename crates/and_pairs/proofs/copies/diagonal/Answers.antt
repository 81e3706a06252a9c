-- `and_pairs::copies::diagonal` meets its contract.
use mathlib.Core.Path.{refl, ◌∙◌}
use Prim.Native.Nat.{◌+◌}
use native.Mathlib.Omega.{arith}
use lib.ListN.{length-set}
use Rattle.bits.specs.Ops.{and_w}
use Rattle.and_parts.specs.inner.Effects.{at, placed}
use Rattle.and_parts.proofs.Turn.{at_inside}
use Rattle.and_pairs.proofs.ShareTurns.{rest_start, rest_turn, rest_end, and_alike}
use Rattle.and_pairs.proofs.copies.diagonal.Invariants.{each}
use Rattle.and_pairs.proofs.copies.diagonal.Goals as goal

pub loop-i-init : goal.loop-i-init
loop-i-init c = (c.requires.1, rest_start (each (placed c.args.a c.args.over)) c.args.n c.args.cells.now)

pub overflow_mul-cells : goal.overflow_mul-cells
overflow_mul-cells c = omega (arith, at_inside (placed c.args.a c.args.over) c.requires.2.inside c.loop-i.i (omega arith))

pub overflow_add-cells : goal.overflow_add-cells
overflow_add-cells c = omega (arith, at_inside (placed c.args.a c.args.over) c.requires.2.inside c.loop-i.i (omega arith))

pub offset_bounds-cells-a : goal.offset_bounds-cells-a
offset_bounds-cells-a c = omega (arith, at_inside (placed c.args.a c.args.over) c.requires.2.inside c.loop-i.i (omega arith))

pub bounds-cells-a : goal.bounds-cells-a
bounds-cells-a c = omega (arith, at_inside (placed c.args.a c.args.over) c.requires.2.inside c.loop-i.i (omega arith))

pub loop-i-preserved : goal.loop-i-preserved
unfolding and_w
loop-i-preserved c = (
  length-set c.loop-i.cells _ _ ∙ c.loop-i.invariant.0,
  rest_turn (each (placed c.args.a c.args.over)) c.args.n c.loop-i.i (omega arith) refl c.args.cells.now c.loop-i.cells _
      (and_alike c.loop-i.cells (264 + c.loop-i.i) (at (placed c.args.a c.args.over) c.loop-i.i) (λ e. omega arith, λ e. omega arith) (c.requires.2.away c.loop-i.i 272 (omega arith) (omega arith) (omega arith), c.requires.2.away c.loop-i.i 273 (omega arith) (omega arith) (omega arith)) (256 + c.loop-i.i) (λ e. omega arith, λ e. omega arith))
      c.loop-i.invariant.1,
)

pub returns : goal.returns
returns c = rest_end (each (placed c.args.a c.args.over)) c.args.n c.loop-i.i (omega arith) c.args.cells.now c.loop-i.cells c.loop-i.invariant.1
