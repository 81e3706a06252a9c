-- `fft_product::multiply_complex` meets its contract.
use native.Mathlib.Omega.{arith}
use Rattle.fft_product.specs.inner.Inner.{four_products, two_sums}
use Rattle.fft_slots.proofs.OneByOne.{held_then}
use Rattle.fft_product.proofs.multiply_complex.Goals as goal

pub returns : goal.returns
returns c =
    (omega (arith, c.four_products-t.ensures.0, c.two_sums.ensures.0), held_then c.args.n c.args.start _ c.args.tape.now four_products two_sums c.four_products-t.ensures.0 c.four_products-t.ensures.1 c.two_sums.ensures.1)
