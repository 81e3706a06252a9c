-- Document 01's sentences, and those of document 02, No. 1 and No. 2, on zeros, underflow, cancellation, the roundings' outer ranges and E = 2047, as statements:
-- `corners` proves them together.
-- Magnitudes are in units of 2^-1074, so 2^-1022 is 2^52 of them; a product's are in units of 2^-2148, so 2^-1022 is 2^1126.
use Rattle.std.specs.Prelude.{◌≡◌, ℕ, ◌+◌, ◌-◌, ◌*◌, ◌^◌, ◌≤◌, ◌<◌, min}
use Rattle.bits.specs.Ops.{xor_w}
use Rattle.binary64.specs.Number.{sign, expo, frac, magnitude, signed}
use Rattle.binary64.specs.Rounding.{rounded_e, rounded_f, limited}
use Rattle.binary64.specs.Product.{product}
use Rattle.binary64.specs.Sum.{sum}
use Rattle.binary64.specs.Floor.{floor}
use Rattle.binary64.specs.Truncate.{truncate}
use Rattle.binary64.specs.Nearest.{nearest}

pub record Corners : Type 0 where
  -- "E = 0 reads as a zero of sign s, whatever F."
  pub reads_zero : (a : ℕ) → expo a ≡ 0 → magnitude a ≡ 0
  -- "Otherwise the magnitude is (2^52 + F) · 2^(E−1075), E = 2047 included."
  pub reads_number : (a : ℕ) → 1 ≤ expo a → magnitude a ≡ (2 ^ 52 + frac a) * 2 ^ (expo a - 1)
  -- "A product's sign is the exclusive-or of the signs, for zeros too."
  pub product_sign : (a b : ℕ) → sign (product a b) ≡ xor_w (sign a) (sign b)
  -- "An exact result that is not zero and below 2^−1022 in magnitude becomes a zero of its sign, before any rounding." An exact zero is one too.
  pub product_underflow : (a b : ℕ) → magnitude a * magnitude b < 2 ^ 1126 → product a b ≡ signed (xor_w (sign a) (sign b)) 0
  -- ".. before any rounding": rounded first, this product would be 2^-1022, the word 0010000000000000
  pub product_before_rounding : product 0x0010000000000001 0x3FEFFFFFFFFFFFFE ≡ 0
  pub product_rounded_first :
      (let M = magnitude 0x0010000000000001 * magnitude 0x3FEFFFFFFFFFFFFE in limited (rounded_e 1126 M) (rounded_f M)) ≡ 0x0010000000000000
  -- the same of sums: with like signs only zeros are so small; with unlike ones the larger operand gives the sign, whichever it is
  pub sum_underflow : (a b : ℕ) → sign a ≡ sign b → magnitude a + magnitude b < 2 ^ 52 → sum a b ≡ signed (sign a) 0
  pub difference_underflow :
      (a b : ℕ) → (sign a ≡ sign b → ⊥) → magnitude b < magnitude a → magnitude a - magnitude b < 2 ^ 52
      → (sum a b ≡ signed (sign a) 0) × (sum b a ≡ signed (sign a) 0)
  -- "A sum of two zeros is minus zero only if both are"; minus zero is the word 8000000000000000
  pub zeros_minus : (a b : ℕ) → magnitude a ≡ 0 → magnitude b ≡ 0 → sign a ≡ 1 → sign b ≡ 1 → sum a b ≡ signed 1 0
  pub zeros_plus : (a b : ℕ) → a < 2 ^ 64 → b < 2 ^ 64 → magnitude a ≡ 0 → magnitude b ≡ 0 → ((sign a ≡ 1) × (sign b ≡ 1) → ⊥) → sum a b ≡ 0
  -- "exact cancellation gives plus zero"
  pub cancellation : (a b : ℕ) → (sign a ≡ sign b → ⊥) → magnitude a ≡ magnitude b → sum a b ≡ 0
  -- "Floor: E ≥ 1075 returns the operand."
  pub floor_large : (a : ℕ) → 1075 ≤ expo a → floor a ≡ a
  -- document 02, No. 2: "floor of any operand with E = 0 is the zero of its sign", whatever F
  pub floor_zero : (a : ℕ) → expo a ≡ 0 → floor a ≡ signed (sign a) 0
  -- "E < 1023 gives plus zero for s = 0 and −1 for s = 1", and No. 2: "Other negatives above −1 still give −1"
  pub floor_small_plus : (a : ℕ) → expo a < 1023 → sign a ≡ 0 → floor a ≡ 0
  pub floor_small_minus : (a : ℕ) → 1 ≤ expo a → expo a < 1023 → sign a ≡ 1 → floor a ≡ 0xBFF0000000000000
  -- that word is −1
  pub minus_one : (sign 0xBFF0000000000000 ≡ 1) × (magnitude 0xBFF0000000000000 ≡ 1 * 2 ^ 1074)
  -- document 02, No. 1: "E of 1075 or more returns the operand."
  pub truncate_large : (a : ℕ) → 1075 ≤ expo a → truncate a ≡ a
  pub nearest_large : (a : ℕ) → 1075 ≤ expo a → nearest a ≡ a
  -- "E = 0 keeps its sign as a zero", and "both keep the sign": so does every operand whose whole number is 0
  pub truncate_small : (a : ℕ) → expo a < 1023 → truncate a ≡ signed (sign a) 0
  pub nearest_small : (a : ℕ) → expo a < 1022 → nearest a ≡ signed (sign a) 0
  -- from a half on, below 1: "a tie to the even whole number", which is 0, at F = 0; else 1, whose bits are 1023 · 2^52
  pub nearest_half : (a : ℕ) → expo a ≡ 1022 → nearest a ≡ signed (sign a) (min (frac a) 1 * (1023 * 2 ^ 52))
  -- ".. E = 2047 included": where IEEE 754 has NaN and infinities, operands here are numbers
  pub no_nan : sum 0x7FF8000000000000 0 ≡ 0x7FF0000000000000
  pub no_infinity : sum 0x7FF0000000000000 0xFFF0000000000000 ≡ 0
  pub zero_times : product 0 0xFFF8000000000000 ≡ 0x8000000000000000
