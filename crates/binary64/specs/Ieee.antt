-- Agreement with IEEE 754, as statements. `mul`, `add`, `of_bits` and `to_bits` at `binary64` are the toolchain library's own IEEE 754 operations; so are `round`, the
-- float nearest to a quotient of two numbers, `up` and `down`, whose quotient is 2^e, and `closest`, a quotient to the nearest whole number, ties to even.
-- The statements cover operands that are zeros or normal numbers, wherever the exact result is zero or not below 2^-1022 in magnitude;
-- overflow to E = 2047, F = 0 (an infinity there) and the signs of zeros are included. Outside, the documents depart from IEEE 754 in these places:
-- - An operand with E = 0, F ≠ 0 is a zero here, a subnormal number there. So floor of 8000000000000001 is minus zero here, −1 there.
-- - An exact result that is not zero and below 2^-1022 is a zero of its sign here. There it is rounded to a multiple of 2^-1074: to a zero or a subnormal number,
--   or, if it is a product just below 2^-1022, to that least normal number (0010000000000001 times 3FEFFFFFFFFFFFFE; 001FFFFFFFFFFFFF times 3FE0000000000000).
-- - An operand with E = 2047 is a number here, an infinity or NaN there.
-- Floor, truncation and nearest agree for every operand that is a zero, with F = 0, or a normal number. The first and the third of these places concern them too; what they give there is not compared here.
use Rattle.std.specs.Prelude.{◌≡◌, ◌⊎◌, Bool, cond, ℕ, ◌+◌, ◌-◌, ◌*◌, ◌/◌, ◌%◌, ◌^◌, ◌≤◌, ◌<◌, min, eqb, Float}
use Rattle.std.specs.Float.{nan, inf, fin, binary64}
use Rattle.std.specs.Float.Ieee.{up, down, round, of_bits, to_bits, mul, add}
use Rattle.std.specs.Float.Ieee.Nearest.{closest}
use Rattle.binary64.specs.Number.{sign, expo, frac, magnitude}
use Rattle.binary64.specs.Product.{product}
use Rattle.binary64.specs.Sum.{sum}
use Rattle.binary64.specs.Floor.{floor}
use Rattle.binary64.specs.Truncate.{truncate}
use Rattle.binary64.specs.Nearest.{nearest}

-- an operand that both read alike: a zero, or a normal number
abbrev pub ZeroOrNormal : ℕ → Type 0
ZeroOrNormal a = ((expo a ≡ 0) × (frac a ≡ 0)) ⊎ ((1 ≤ expo a) × (expo a ≤ 2046))

-- an exact result that both round alike: zero, or not below 2^-1022, which is 2^u units
abbrev pub ZeroOrLarge : ℕ → ℕ → Type 0
ZeroOrLarge u M = (M ≡ 0) ⊎ (2 ^ u ≤ M)

-- the magnitude of the exact sum, in units of 2^-1074
abbrev pub exact_sum : ℕ → ℕ → ℕ
exact_sum a b = cond (eqb (sign a) (sign b)) (magnitude a + magnitude b) ((magnitude a - magnitude b) + (magnitude b - magnitude a))

abbrev pub ProductIsIeee : Type 0
ProductIsIeee =
    (a b : ℕ) → a < 2 ^ 64 → b < 2 ^ 64 → ZeroOrNormal a → ZeroOrNormal b → ZeroOrLarge 1126 (magnitude a * magnitude b)
    → product a b ≡ to_bits binary64 (mul binary64 (of_bits binary64 a) (of_bits binary64 b))

abbrev pub SumIsIeee : Type 0
SumIsIeee =
    (a b : ℕ) → a < 2 ^ 64 → b < 2 ^ 64 → ZeroOrNormal a → ZeroOrNormal b → ZeroOrLarge 52 (exact_sum a b)
    → sum a b ≡ to_bits binary64 (add binary64 (of_bits binary64 a) (of_bits binary64 b))

-- IEEE 754's round-to-integral operations, from the text of 754-2019: a number becomes the integral value that the rule
-- chooses by its sign (true where the sign bit is set) and its magnitude, m · 2^e, which is the quotient of m * up e by down e (5.9), with the operand's sign where that is a
-- zero too (6.3); an infinity comes back as it is and a NaN stays one.
abbrev pub round_to_integral : (Bool → ℕ → ℕ → ℕ) → Float → Float
round_to_integral rule nan = nan
round_to_integral rule (inf s) = inf s
round_to_integral rule (fin s m e) = round binary64 s (rule s (m * up e) (down e)) 1

-- roundToIntegralTowardNegative's rule: of the whole numbers on both sides the lower, which has the larger magnitude below zero
abbrev pub toward_negative : Bool → ℕ → ℕ → ℕ
toward_negative s a b = cond s (a / b + min (a % b) 1) (a / b)

-- roundToIntegralTowardZero's rule and roundToIntegralTiesToEven's
abbrev pub toward_zero : Bool → ℕ → ℕ → ℕ
toward_zero s a b = a / b

abbrev pub ties_to_even : Bool → ℕ → ℕ → ℕ
ties_to_even s a b = closest a b

abbrev pub FloorIsIeee : Type 0
FloorIsIeee = (a : ℕ) → a < 2 ^ 64 → ZeroOrNormal a → floor a ≡ to_bits binary64 (round_to_integral toward_negative (of_bits binary64 a))

abbrev pub TruncateIsIeee : Type 0
TruncateIsIeee = (a : ℕ) → a < 2 ^ 64 → ZeroOrNormal a → truncate a ≡ to_bits binary64 (round_to_integral toward_zero (of_bits binary64 a))

abbrev pub NearestIsIeee : Type 0
NearestIsIeee = (a : ℕ) → a < 2 ^ 64 → ZeroOrNormal a → nearest a ≡ to_bits binary64 (round_to_integral ties_to_even (of_bits binary64 a))
