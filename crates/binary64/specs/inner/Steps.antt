-- Names for the intermediate numbers of product and sum. Contracts of inner functions and the lemmas cite them, no call of the library does:
-- nothing here has to be believed.
use Rattle.std.specs.Prelude.{cond, ℕ, zero, suc, ◌+◌, ◌-◌, ◌*◌, ◌/◌, ◌%◌, ◌^◌, min, ltb}
use Rattle.std.specs.Int.Count.{count_leading_zeros}
use Rattle.std.specs.Float.Ieee.Nearest.{closest}
use Rattle.binary64.specs.Number.{expo, frac}

-- N / 2^k to the nearest whole number, ties to even
unfoldable pub round_ne : ℕ → ℕ → ℕ
round_ne N k = closest N (2 ^ k)

-- N / 2^j, doubled, and a sticky bit: 1 where one of the j bits dropped was set
unfoldable pub jam : ℕ → ℕ → ℕ
jam j N = 2 * (N / 2 ^ j) + min (N % 2 ^ j) 1

-- E - 1 and a rounded significand q, from 2^52 to 2^53, as bits 62..0: a q of 2^53 carries into E, and E stops at 2047 with F = 0
abbrev pub packed : ℕ → ℕ → ℕ
packed e q = min (e * 2 ^ 52 + q) (2047 * 2 ^ 52)

-- Z brought to the top bit by s places, which lower the exponent e, and rounded to 53 bits; nothing where the exponent falls below zero
unfoldable pub encoded_at : ℕ → ℕ → ℕ → ℕ
encoded_at s Z e = cond (ltb e s) 0 (packed (e - s) (round_ne (Z * 2 ^ s) 11))

-- the same by as many places as Z has leading zeros, for Z ≠ 0
abbrev pub encoded : ℕ → ℕ → ℕ
encoded Z e = encoded_at (count_leading_zeros 64 Z) Z e

-- A sum's larger operand has its significand at 2^10; the smaller one's, d exponents below, is aligned with it and jammed. A zero is left out.
abbrev pub aligned_of : ℕ → ℕ → ℕ → ℕ
aligned_of d zero F = 0
aligned_of d (suc e) F = jam d ((2 ^ 52 + F) * 2 ^ 9)

unfoldable pub aligned : ℕ → ℕ → ℕ
aligned d b = aligned_of d (expo b) (frac b)
