-- `fft_slots::Slot::flip` meets its contract: that of `flip` at the slot's number.
use Rattle.fft_slots.proofs.Slot.flip.Goals as goal

pub returns : goal.returns
returns c = rw c.number.ensures.is at c.flip.ensures
