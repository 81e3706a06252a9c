-- The sum of two words as numbers: document 01, "Reading and rounding numbers".
use Rattle.std.specs.Prelude.{cond, ℕ, ◌+◌, ◌-◌, ltb, eqb}
use Rattle.binary64.specs.Number.{sign, magnitude, signed}
use Rattle.binary64.specs.Rounding.{mag_bits}

-- Signs s and t, magnitudes A and B in units of 2^-1074. Like signs: A + B of that sign, so two zeros of one sign keep it.
-- Unlike signs: the larger less the smaller, of the larger's sign.
-- "A sum of two zeros is minus zero only if both are; exact cancellation gives plus zero."
unfoldable pub sum_of : ℕ → ℕ → ℕ → ℕ → ℕ
sum_of s t A B =
    cond (eqb s t) (signed s (mag_bits 52 (A + B)))
    (cond (ltb B A) (signed s (mag_bits 52 (A - B)))
    (cond (ltb A B) (signed t (mag_bits 52 (B - A))) 0))

unfoldable pub sum : ℕ → ℕ → ℕ
sum a b = sum_of (sign a) (sign b) (magnitude a) (magnitude b)
