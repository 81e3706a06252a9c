-- Rounding an exact magnitude: document 01, "Reading and rounding numbers".
-- A magnitude M is counted in units of which 2^u make 2^-1022: u = 52 for sums (units of 2^-1074), u = 1126 for products (units of 2^-2148).
-- `size M` is M's length in bits, and `closest a b` is a / b to the nearest whole number, ties to even; both are the toolchain library's.
use Rattle.std.specs.Prelude.{cond, ℕ, ◌+◌, ◌-◌, ◌*◌, ◌%◌, ◌^◌, ltb, leb, eqb}
use Rattle.std.specs.Float.Ieee.{size}
use Rattle.std.specs.Float.Ieee.Nearest.{closest}

-- "rounded to 53 significant bits, nearest, ties to even": q multiples of 2^(size M - 53). 2^52 ≤ q ≤ 2^53 where 2^52 ≤ M.
abbrev pub rounded_significand : ℕ → ℕ
rounded_significand M = closest M (2 ^ (size M - 53))

-- the E of the rounded number: M's top bit has the place size M - 1, and the place u has E = 1; one more where q is the next power of two
unfoldable pub rounded_e : ℕ → ℕ → ℕ
rounded_e u M = size M - u + cond (eqb (rounded_significand M) (2 ^ 53)) 1 0

-- its F: q without its top bit
unfoldable pub rounded_f : ℕ → ℕ
rounded_f M = rounded_significand M % 2 ^ 52

-- bits 62..0 from E and F
abbrev pub fields : ℕ → ℕ → ℕ
fields E F = E * 2 ^ 52 + F

-- "If the rounded E would be 2047 or more, the answer has E = 2047, F = 0."
abbrev pub limited : ℕ → ℕ → ℕ
limited E F = cond (leb 2047 E) (fields 2047 0) (fields E F)

-- "An exact result that is not zero and below 2^−1022 in magnitude becomes a zero of its sign, before any rounding. Otherwise it is rounded .."
-- Bits 62..0 of the answer; for M = 0 they are those of a zero too.
unfoldable pub mag_bits : ℕ → ℕ → ℕ
mag_bits u M = cond (ltb M (2 ^ u)) 0 (limited (rounded_e u M) (rounded_f M))
