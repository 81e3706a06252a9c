-- `fft_lent::product_done` meets its contract.
use mathlib.Core.Path.{ap, ◌∙◌}
use Prim.Native.Nat.{ℕ}
use lib.ListN.{replicate}
use Rattle.fft_lent.proofs.InAndOut.{result_is}
use Rattle.fft_lent.proofs.product_done.Goals as goal

pub returns : goal.returns
returns c =
    let kept = c.multiply_complex.auto.work ∙ c.load.auto.work in (
      result_is c.args.n c.requires.1 c.args.x.now c.args.y.now c.args.tape.now c.load.ensures c.multiply_complex.ensures.1 c.store.ensures,
      c.clear.ensures ∙ ap (λ (k : ℕ). replicate k 0) kept,
    )
