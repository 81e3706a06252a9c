-- Reading a 64-bit word as a number: document 01, "Reading and rounding numbers".
use Rattle.std.specs.Prelude.{ℕ, zero, suc, ◌+◌, ◌*◌, ◌/◌, ◌%◌, ◌^◌}

-- "Sign s is bit 63, E bits 62..52, F bits 51..0."
abbrev pub sign : ℕ → ℕ
sign a = a / 2 ^ 63

abbrev pub expo : ℕ → ℕ
expo a = a / 2 ^ 52 % 2048

abbrev pub frac : ℕ → ℕ
frac a = a % 2 ^ 52

-- "E = 0 reads as a zero of sign s, whatever F. Otherwise the magnitude is (2^52 + F) · 2^(E−1075), E = 2047 included."
-- Counted in whole multiples of 2^-1074, so the power is E - 1.
abbrev pub magnitude_of : ℕ → ℕ → ℕ
magnitude_of zero F = 0
magnitude_of (suc e) F = (2 ^ 52 + F) * 2 ^ e

unfoldable pub magnitude : ℕ → ℕ
magnitude a = magnitude_of (expo a) (frac a)

-- a word from its sign and its bits 62..0
abbrev pub signed : ℕ → ℕ → ℕ
signed s m = s * 2 ^ 63 + m
