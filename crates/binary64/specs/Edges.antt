-- Document 01, "Operands at the edges": the table, row by row; and one of the same kind for the three roundings, an operand to a row. An operation with one operand
-- does not use the second.
use Rattle.std.specs.Prelude.{◌≡◌, Bool, true, ◌&&◌, List, [], ◌∷◌, ℕ, eqb}
use Rattle.binary64.specs.Operations.{Operation, Product, Sum, Floor, Truncate, Nearest, on_words}

pub record Row : Type 0 where
  pub op : Operation
  pub a : ℕ
  pub b : ℕ
  pub result : ℕ

-- "product (P), sum (S), floor (F)"
abbrev pub edge : Operation → ℕ → ℕ → ℕ → Row
edge o a b r = record { op = o; a = a; b = b; result = r }

unfoldable pub edges : List Row
edges =
    edge Product 0x3FF8000000000000 0x3FF8000000000000 0x4002000000000000
    ∷ edge Product 0x0010000000000000 0x3FE0000000000000 0
    ∷ edge Product 0x001FFFFFFFFFFFFF 0x3FE0000000000000 0
    ∷ edge Product 0x7FEFFFFFFFFFFFFF 0x4000000000000000 0x7FF0000000000000
    ∷ edge Sum 0x3FF0000000000000 0x3CA0000000000000 0x3FF0000000000000
    ∷ edge Sum 0x3FF0000000000001 0x3CA0000000000000 0x3FF0000000000002
    ∷ edge Sum 0x8000000000000000 0x8000000000000000 0x8000000000000000
    ∷ edge Sum 0x3FF0000000000000 0xBFF0000000000000 0
    ∷ edge Sum 0x0000000000000001 0x3FF0000000000000 0x3FF0000000000000
    ∷ edge Floor 0xBFF8000000000000 0 0xC000000000000000
    ∷ edge Floor 0xC32FFFFFFFFFFFFF 0 0xC330000000000000
    ∷ edge Floor 0x4330000000000001 0 0x4330000000000001
    ∷ []

-- an operand of the roundings, and what each of them makes of it
pub record Wholes : Type 0 where
  pub operand : ℕ
  pub floored : ℕ
  pub truncated : ℕ
  pub nearest : ℕ

abbrev pub wholes : ℕ → ℕ → ℕ → ℕ → Wholes
wholes a f t n = record { operand = a; floored = f; truncated = t; nearest = n }

-- 0.5, 1.5, 2.5 of both signs; the numbers next below 0.5 and next to −0.5; those next to 1 and to −1 on both sides, and these two; the next number to −2; 3, −3 and 3.7. With
-- E = 1074: 2^52 − 0.5 and 2^51 + 0.5 of both signs; with E = 1075: −2^52 and the numbers next to 2^52 and −2^52. Both zeros, E = 0 with F ≠ 0, and next to these the least
-- normal number of both signs; the greatest normal number of both signs, and E = 2047. 2^52 + 0.5 is no binary64 number: from 2^52 on all are whole.
unfoldable pub rounding_edges : List Wholes
rounding_edges =
    wholes 0x3FE0000000000000 0 0 0
    ∷ wholes 0xBFE0000000000000 0xBFF0000000000000 0x8000000000000000 0x8000000000000000
    ∷ wholes 0x3FF8000000000000 0x3FF0000000000000 0x3FF0000000000000 0x4000000000000000
    ∷ wholes 0xBFF8000000000000 0xC000000000000000 0xBFF0000000000000 0xC000000000000000
    ∷ wholes 0x4004000000000000 0x4000000000000000 0x4000000000000000 0x4000000000000000
    ∷ wholes 0xC004000000000000 0xC008000000000000 0xC000000000000000 0xC000000000000000
    ∷ wholes 0x3FDFFFFFFFFFFFFF 0 0 0
    ∷ wholes 0xBFDFFFFFFFFFFFFF 0xBFF0000000000000 0x8000000000000000 0x8000000000000000
    ∷ wholes 0xBFE0000000000001 0xBFF0000000000000 0x8000000000000000 0xBFF0000000000000
    ∷ wholes 0x3FEFFFFFFFFFFFFF 0 0 0x3FF0000000000000
    ∷ wholes 0xBFEFFFFFFFFFFFFF 0xBFF0000000000000 0x8000000000000000 0xBFF0000000000000
    ∷ wholes 0xBFF0000000000000 0xBFF0000000000000 0xBFF0000000000000 0xBFF0000000000000
    ∷ wholes 0x3FF0000000000000 0x3FF0000000000000 0x3FF0000000000000 0x3FF0000000000000
    ∷ wholes 0x3FF0000000000001 0x3FF0000000000000 0x3FF0000000000000 0x3FF0000000000000
    ∷ wholes 0xBFF0000000000001 0xC000000000000000 0xBFF0000000000000 0xBFF0000000000000
    ∷ wholes 0xBFFFFFFFFFFFFFFF 0xC000000000000000 0xBFF0000000000000 0xC000000000000000
    ∷ wholes 0x4008000000000000 0x4008000000000000 0x4008000000000000 0x4008000000000000
    ∷ wholes 0xC008000000000000 0xC008000000000000 0xC008000000000000 0xC008000000000000
    ∷ wholes 0x400D99999999999A 0x4008000000000000 0x4008000000000000 0x4010000000000000
    ∷ wholes 0x432FFFFFFFFFFFFF 0x432FFFFFFFFFFFFE 0x432FFFFFFFFFFFFE 0x4330000000000000
    ∷ wholes 0xC32FFFFFFFFFFFFF 0xC330000000000000 0xC32FFFFFFFFFFFFE 0xC330000000000000
    ∷ wholes 0x4320000000000001 0x4320000000000000 0x4320000000000000 0x4320000000000000
    ∷ wholes 0xC320000000000001 0xC320000000000002 0xC320000000000000 0xC320000000000000
    ∷ wholes 0x4330000000000001 0x4330000000000001 0x4330000000000001 0x4330000000000001
    ∷ wholes 0xC330000000000000 0xC330000000000000 0xC330000000000000 0xC330000000000000
    ∷ wholes 0xC330000000000001 0xC330000000000001 0xC330000000000001 0xC330000000000001
    ∷ wholes 0 0 0 0
    ∷ wholes 0x8000000000000000 0x8000000000000000 0x8000000000000000 0x8000000000000000
    ∷ wholes 0x0000000000000001 0 0 0
    ∷ wholes 0x8000000000000001 0x8000000000000000 0x8000000000000000 0x8000000000000000
    ∷ wholes 0x000FFFFFFFFFFFFF 0 0 0
    ∷ wholes 0x800FFFFFFFFFFFFF 0x8000000000000000 0x8000000000000000 0x8000000000000000
    ∷ wholes 0x0010000000000000 0 0 0
    ∷ wholes 0x8010000000000000 0xBFF0000000000000 0x8000000000000000 0x8000000000000000
    ∷ wholes 0x7FEFFFFFFFFFFFFF 0x7FEFFFFFFFFFFFFF 0x7FEFFFFFFFFFFFFF 0x7FEFFFFFFFFFFFFF
    ∷ wholes 0xFFEFFFFFFFFFFFFF 0xFFEFFFFFFFFFFFFF 0xFFEFFFFFFFFFFFFF 0xFFEFFFFFFFFFFFFF
    ∷ wholes 0x7FF8000000000001 0x7FF8000000000001 0x7FF8000000000001 0x7FF8000000000001
    ∷ wholes 0xFFF0000000000000 0xFFF0000000000000 0xFFF0000000000000 0xFFF0000000000000
    ∷ []

-- every row of a table holds
abbrev pub all_hold : List Row → Bool
all_hold [] = true
all_hold (r ∷ rs) = eqb (on_words r.op r.a r.b) r.result && all_hold rs

abbrev pub wholes_hold : List Wholes → Bool
wholes_hold [] = true
wholes_hold (r ∷ rs) =
    (eqb (on_words Floor r.operand 0) r.floored && (eqb (on_words Truncate r.operand 0) r.truncated && eqb (on_words Nearest r.operand 0) r.nearest))
    && wholes_hold rs

-- "Proved together in one table"
abbrev pub EdgesHold : Type 0
EdgesHold = all_hold edges ≡ true

abbrev pub RoundingEdgesHold : Type 0
RoundingEdgesHold = wholes_hold rounding_edges ≡ true
