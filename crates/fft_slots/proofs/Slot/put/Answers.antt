-- `fft_slots::Slot::put` meets its contract: that of `put` at the slot's number.
use Rattle.fft_slots.proofs.Slot.put.Goals as goal

pub returns : goal.returns
returns c = rw c.number.ensures.is at c.put.ensures
