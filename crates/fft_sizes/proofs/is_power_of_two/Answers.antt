-- `fft_sizes::is_power_of_two` meets its contract (`one_bit_below`).
use mathlib.Core.Path.{◌∙◌}
use Rattle.fft_sizes.proofs.OneBit.{one_bit_below}
use Rattle.fft_sizes.proofs.is_power_of_two.Goals as goal

pub returns-then-k-le1024 : goal.returns-then-k-le1024
returns-then-k-le1024 c = c.is_power_of_two.ensures ∙ one_bit_below c.args.k c.if-k-le1024.true
