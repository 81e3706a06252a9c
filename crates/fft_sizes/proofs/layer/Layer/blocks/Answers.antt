-- `fft_sizes::layer::Layer::blocks` meets its contract.
use native.Mathlib.Omega.{arith}
use Rattle.fft_numbers.proofs.Powers.{sizes}
use Rattle.fft_sizes.proofs.layer.Layer.blocks.Goals as goal

pub overflow_mul-result : goal.overflow_mul-result
overflow_mul-result c = let S = sizes _ _ c.args.self.sizes in omega (arith, S.below, S.most)
