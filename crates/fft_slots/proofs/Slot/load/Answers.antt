-- `fft_slots::Slot::load` meets its contract.
use Rattle.fft_slots.proofs.Slot.load.Goals as goal

pub returns : goal.returns
returns c = rw c.cell.ensures.at at c.copy.ensures
