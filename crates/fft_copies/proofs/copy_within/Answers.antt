-- `fft_copies::copy_within` meets its contract.
use mathlib.Core.Path.{refl}
use Prim.Native.Nat.{◌+◌, ◌*◌}
use native.Mathlib.Omega.{arith}
use lib.ListN.{get_or}
use Rattle.fft_copies.proofs.Written.{none_copied, one_copied, all_copied, still_unread}
use Rattle.fft_copies.proofs.copy_within.Goals as goal

pub loop-i-init : goal.loop-i-init
loop-i-init c = (none_copied _ _ _ _ _ _ _, λ j h. refl)

pub overflow_mul-cells : goal.overflow_mul-cells
overflow_mul-cells c = omega (arith, c.requires.0 c.loop-i.i (omega arith), c.requires)

pub overflow_add-cells : goal.overflow_add-cells
overflow_add-cells c = omega (arith, c.requires.0 c.loop-i.i (omega arith), c.requires)

pub offset_bounds-cells-step : goal.offset_bounds-cells-step
offset_bounds-cells-step c = omega (arith, c.requires.0 c.loop-i.i (omega arith), c.requires)

pub bounds-cells-step : goal.bounds-cells-step
bounds-cells-step c = omega (arith, c.requires.0 c.loop-i.i (omega arith), c.loop-i.invariant.0.size)

pub overflow_mul-cells-in-loop-i : goal.overflow_mul-cells-in-loop-i
overflow_mul-cells-in-loop-i c = omega (arith, c.requires.1 c.loop-i.i (omega arith), c.requires)

pub overflow_add-cells-in-loop-i : goal.overflow_add-cells-in-loop-i
overflow_add-cells-in-loop-i c = omega (arith, c.requires.1 c.loop-i.i (omega arith), c.requires)

pub offset_bounds-cells-stride : goal.offset_bounds-cells-stride
offset_bounds-cells-stride c = omega (arith, c.requires.1 c.loop-i.i (omega arith), c.requires)

pub bounds-cells-stride : goal.bounds-cells-stride
bounds-cells-stride c = omega (arith, c.requires.1 c.loop-i.i (omega arith), c.loop-i.invariant.0.size)

pub loop-i-preserved : goal.loop-i-preserved
loop-i-preserved c =
    let v = get_or c.loop-i.cells (c.args.step * c.loop-i.i + c.args.at) 0 in (
      one_copied _ _ _ _ _ _ _ c.loop-i.i _ c.loop-i.invariant.0 (omega arith) (c.loop-i.invariant.1 c.loop-i.i (omega arith)),
      still_unread c.args.n c.args.step c.args.at c.args.stride c.args.place c.loop-i.i v c.args.cells.now c.loop-i.cells c.requires.2 (omega arith) c.loop-i.invariant.1,
    )

pub returns : goal.returns
returns c = all_copied _ _ _ _ _ _ _ c.loop-i.i c.loop-i.invariant.0 (omega arith)
