-- `fft_copies::copy` meets its contract.
use mathlib.Core.Path.{refl}
use native.Mathlib.Omega.{arith}
use Rattle.fft_copies.proofs.Written.{none_copied, one_copied, all_copied}
use Rattle.fft_copies.proofs.copy.Goals as goal

pub loop-i-init : goal.loop-i-init
loop-i-init c = none_copied _ _ _ _ _ _ _

pub overflow_mul-to : goal.overflow_mul-to
overflow_mul-to c = omega (arith, c.requires.0 c.loop-i.i (omega arith), c.requires)

pub overflow_add-to : goal.overflow_add-to
overflow_add-to c = omega (arith, c.requires.0 c.loop-i.i (omega arith), c.requires)

pub offset_bounds-from-step : goal.offset_bounds-from-step
offset_bounds-from-step c = omega (arith, c.requires.0 c.loop-i.i (omega arith), c.requires)

pub bounds-from-step : goal.bounds-from-step
bounds-from-step c = c.requires.0 c.loop-i.i (omega arith)

pub overflow_mul-to-in-loop-i : goal.overflow_mul-to-in-loop-i
overflow_mul-to-in-loop-i c = omega (arith, c.requires.1 c.loop-i.i (omega arith), c.requires)

pub overflow_add-to-in-loop-i : goal.overflow_add-to-in-loop-i
overflow_add-to-in-loop-i c = omega (arith, c.requires.1 c.loop-i.i (omega arith), c.requires)

pub offset_bounds-to-stride : goal.offset_bounds-to-stride
offset_bounds-to-stride c = omega (arith, c.requires.1 c.loop-i.i (omega arith), c.requires)

pub bounds-to-stride : goal.bounds-to-stride
bounds-to-stride c = omega (arith, c.requires.1 c.loop-i.i (omega arith), c.loop-i.invariant.size)

pub loop-i-preserved : goal.loop-i-preserved
loop-i-preserved c = one_copied _ _ _ _ _ _ _ c.loop-i.i _ c.loop-i.invariant (omega arith) refl

pub returns : goal.returns
returns c = all_copied _ _ _ _ _ _ _ c.loop-i.i c.loop-i.invariant (omega arith)
