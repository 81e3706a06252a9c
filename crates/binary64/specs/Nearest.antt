-- The whole number nearest to a word as a number: document 02, No. 1. `closest a b`, the toolchain library's, is a / b to the nearest whole number,
-- ties to even.
use Rattle.std.specs.Prelude.{cond, ℕ, ◌^◌, leb}
use Rattle.std.specs.Float.Ieee.Nearest.{closest}
use Rattle.binary64.specs.Number.{sign, expo, magnitude}
use Rattle.binary64.specs.Whole.{whole_number}

-- "E of 1075 or more returns the operand." Below, "nearest takes a tie to the even whole number", of the magnitude, and keeps the sign; "E = 0 keeps
-- its sign as a zero", for its magnitude is 0.
unfoldable pub nearest : ℕ → ℕ
nearest a = cond (leb 1075 (expo a)) a (whole_number (sign a) (closest (magnitude a) (2 ^ 1074)))
