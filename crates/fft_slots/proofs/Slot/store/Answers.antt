-- `fft_slots::Slot::store` meets its contract.
use Rattle.fft_slots.proofs.Slot.store.Goals as goal

pub returns : goal.returns
returns c = rw c.cell.ensures.at at c.copy.ensures
