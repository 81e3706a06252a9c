-- `binary64_plain::product` meets its contract: bit 63 of the exclusive-or is the exclusive-or of the signs, and bits 62..0 do not reach it.
use Rattle.std.proofs.Common.{ℕ, ◌*◌, ◌^◌, ap, ◌∙◌, ap₂, arith}
use lib.Bits.{bit_or, bit_xor, or_shifted, xor_shr}
use Rattle.bits.specs.Ops.{xor_w}
use Rattle.binary64.specs.Number.{sign, magnitude}
use Rattle.binary64.specs.Rounding.{mag_bits}
use Rattle.binary64.specs.Product as Spec
use Rattle.binary64.proofs.Round.{bits_lt}
use Rattle.binary64_plain.proofs.product.Goals as goal

pub returns : goal.returns
unfolding Spec.product xor_w
returns c =
    ap₂ bit_or (c.sign_bit.ensures ∙ ap (λ (x : ℕ). x * 2 ^ 63) (xor_shr c.args.a c.args.b 63)) c.magnitude.ensures
    ∙ or_shifted (bit_xor (sign c.args.a) (sign c.args.b)) 63 (mag_bits 1126 (magnitude c.args.a * magnitude c.args.b)) (bits_lt 1126 (magnitude c.args.a * magnitude c.args.b) (omega arith))
