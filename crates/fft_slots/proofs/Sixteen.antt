-- There are sixteen slots.
use Prim.Native.Nat.{◌<◌}
use native.Mathlib.Omega.{arith}
use Rattle.fft_slots.specs.declared.Slot.{Slot}
use Rattle.fft_slots.specs.declared.Slot.TheVariants.{A, B, C, D, Ac, Bd, Ad, Bc, Re, Im, URe, UIm, PlusRe, PlusIm, MinusRe, MinusIm}
use Rattle.fft_slots.specs.inner.Inner.{slot_number}

pub slot_few : (slot : Slot) → slot_number slot < 16
slot_few A = omega arith
slot_few B = omega arith
slot_few C = omega arith
slot_few D = omega arith
slot_few Ac = omega arith
slot_few Bd = omega arith
slot_few Ad = omega arith
slot_few Bc = omega arith
slot_few Re = omega arith
slot_few Im = omega arith
slot_few URe = omega arith
slot_few UIm = omega arith
slot_few PlusRe = omega arith
slot_few PlusIm = omega arith
slot_few MinusRe = omega arith
slot_few MinusIm = omega arith
