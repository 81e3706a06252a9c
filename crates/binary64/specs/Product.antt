-- The product of two words as numbers: document 01, "Reading and rounding numbers".
use Rattle.std.specs.Prelude.{ℕ, ◌*◌}
use Rattle.bits.specs.Ops.{xor_w}
use Rattle.binary64.specs.Number.{sign, magnitude, signed}
use Rattle.binary64.specs.Rounding.{mag_bits}

-- "A product's sign is the exclusive-or of the signs, for zeros too."
-- The exact magnitude is counted in units of 2^-1074 · 2^-1074 = 2^-2148.
unfoldable pub product : ℕ → ℕ → ℕ
product a b = signed (xor_w (sign a) (sign b)) (mag_bits 1126 (magnitude a * magnitude b))
