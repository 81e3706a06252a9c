-- `fft_sizes::layer::Layer::pair` meets its contract.
use native.Mathlib.Omega.{arith}
use Rattle.fft_numbers.proofs.Powers.{sizes, pair_placed}
use Rattle.fft_sizes.proofs.layer.Layer.pair.Goals as goal

pub overflow_mul-result : goal.overflow_mul-result
overflow_mul-result c = let S = sizes _ _ c.args.self.sizes in omega (arith, S.below, S.most)

pub bounds-factors-block : goal.bounds-factors-block
bounds-factors-block c =
    let P = pair_placed _ _ c.args.k (sizes _ _ c.args.self.sizes) c.requires.0 in
    omega (arith, P.block, c.requires.1)

pub bounds-factors-blocks : goal.bounds-factors-blocks
bounds-factors-blocks c =
    let P = pair_placed _ _ c.args.k (sizes _ _ c.args.self.sizes) c.requires.0 in
    omega (arith, P.block, c.requires.1, c.blocks-2.ensures)
