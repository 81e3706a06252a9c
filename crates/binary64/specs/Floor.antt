-- The floor of a word as a number: document 01, "Reading and rounding numbers", and document 02, No. 2.
use Rattle.std.specs.Prelude.{cond, ℕ, ◌+◌, ◌/◌, ◌%◌, ◌^◌, min, ltb, leb, eqb}
use Rattle.binary64.specs.Number.{sign, expo, magnitude, signed}
use Rattle.binary64.specs.Whole.{whole_number}

-- "the greatest whole number not above the operand": its magnitude, for a sign s and a magnitude m in units of which 2^p make 1.
-- Below zero that is the least whole number not below m / 2^p.
abbrev pub whole_of : ℕ → ℕ → ℕ → ℕ
whole_of p s m = cond (eqb s 0) (m / 2 ^ p) (m / 2 ^ p + min (m % 2 ^ p) 1)

-- document 02, No. 2: "floor of any operand with E = 0 is the zero of its sign", which withdraws document 01's "minus zero among them". Else, document 01: "E ≥ 1075
-- returns the operand. E < 1023 gives plus zero for s = 0 and −1 for s = 1", and No. 2: "Other negatives above −1 still give −1." Document 01: "Between, the greatest
-- whole number not above the operand."
unfoldable pub floor : ℕ → ℕ
floor a =
    cond (eqb (expo a) 0) (signed (sign a) 0)
    (cond (leb 1075 (expo a)) a
    (cond (ltb (expo a) 1023) (cond (eqb (sign a) 0) 0 0xBFF0000000000000)
    (whole_number (sign a) (whole_of 1074 (sign a) (magnitude a)))))
