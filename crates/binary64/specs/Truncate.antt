-- The truncation of a word as a number: document 02, No. 1.
use Rattle.std.specs.Prelude.{cond, ℕ, ◌/◌, ◌^◌, leb}
use Rattle.binary64.specs.Number.{sign, expo, magnitude}
use Rattle.binary64.specs.Whole.{whole_number}

-- "E of 1075 or more returns the operand." Below, "truncation drops the fraction" of the magnitude and keeps the sign; "E = 0 keeps its sign as a
-- zero", for its magnitude is 0.
unfoldable pub truncate : ℕ → ℕ
truncate a = cond (leb 1075 (expo a)) a (whole_number (sign a) (magnitude a / 2 ^ 1074))
