-- `fft_slots::flip` meets its contract.
use Rattle.bits.specs.Ops.{xor_w}
use Rattle.fft_slots.proofs.Holding.{held_flipped}
use Rattle.fft_slots.proofs.flip.Goals as goal

pub returns : goal.returns
unfolding xor_w
returns c s H = held_flipped c.args.n c.requires.1 c.args.k c.requires.2 c.args.work.now s H c.requires.0
