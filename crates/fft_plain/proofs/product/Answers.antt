-- `fft_plain::product` meets its contract.
use mathlib.Core.Path.{ap₂, ◌∙◌}
use Prim.Native.Nat.{ℕ}
use Rattle.binary64.specs.Sum.{sum}
use Rattle.fft_numbers.specs.Acts.{flipped}
use Rattle.fft_plain.proofs.product.Goals as goal

pub returns : goal.returns
returns c = record { re = c.difference-re.ensures ∙ ap₂ (λ (x y : ℕ). sum x (flipped y)) c.product-ac.ensures c.product-bd.ensures; im = c.sum-im.ensures ∙ ap₂ sum c.product-ad.ensures c.product-bc.ensures }
