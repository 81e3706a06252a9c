-- `fft_plain::difference` meets its contract.
use Rattle.bits.specs.Ops.{xor_w}
use Rattle.fft_plain.proofs.difference.Goals as goal

pub returns : goal.returns
unfolding xor_w
returns c = c.sum.ensures
