-- `fft_slots::operands` meets its contract.
use Rattle.fft_slots.specs.inner.Inner.{slot_number}
use Rattle.fft_slots.proofs.Registers.{operands_are}
use Rattle.fft_slots.proofs.operands.Goals as goal

pub returns : goal.returns
returns c =
    operands_are c.args.n c.requires.1 c.args.work.now c.requires.2 (slot_number c.args.a) (slot_number c.args.b)
    (rw c.cell.ensures.at at c.copy_within.ensures)
    (rw c.cell-2.ensures.at at c.copy_within-2.ensures)
