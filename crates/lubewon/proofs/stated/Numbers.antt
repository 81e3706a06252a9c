-- The claims on numbers, field by field: what rounding and the whole numbers mean, dropping low bits, where results are IEEE 754's, the corners and the
-- tables of edges. What is narrowed, halved or asks for more fails here.
use mathlib.Core.Path.{◌≡◌, refl}
use mathlib.Core.Bool.{true}
use mathlib.Core.Logic.{◌⊎◌}
use Prim.Native.Nat.{ℕ, suc, ◌+◌, ◌-◌, ◌*◌, ◌/◌, ◌%◌, ◌^◌, ◌≤◌, ◌<◌, min}
use lib.ListN.{length}
use lib.Ieee.{size, binary64, of_bits, to_bits, mul, add}
use Rattle.bits.specs.Ops.{xor_w}
use Rattle.binary64.specs.Number.{sign, expo, frac, magnitude, signed}
use Rattle.binary64.specs.Rounding.{rounded_significand, rounded_e, rounded_f, limited, mag_bits}
use Rattle.binary64.specs.Product.{product}
use Rattle.binary64.specs.Sum.{sum}
use Rattle.binary64.specs.Whole.{multiple_of, Dropped}
use Rattle.binary64.specs.Floor.{floor}
use Rattle.binary64.specs.Truncate.{truncate}
use Rattle.binary64.specs.Nearest.{nearest}
use Rattle.binary64.specs.Ieee.{exact_sum, round_to_integral, toward_negative, toward_zero, ties_to_even}
use Rattle.binary64.specs.Meaning.{distance, NearestEven, Rounded, GreatestWhole, WholePart, NearestWhole}
use Rattle.binary64.specs.Corners.{Corners}
use Rattle.binary64.specs.Edges.{edges, rounding_edges, all_hold, wholes_hold}
use Rattle.lubewon.specs.Claims.{Claims}

-- ---- what they mean

module _ {M e q : ℕ} (h : NearestEven M e q) where
  nearest_even_nearest : (k : ℕ) → distance M (q * 2 ^ e) ≤ distance M (k * 2 ^ e)
  nearest_even_nearest = h.nearest

  nearest_even_even : (k : ℕ) → (k ≡ q → ⊥) → distance M (k * 2 ^ e) ≡ distance M (q * 2 ^ e) → q % 2 ≡ 0
  nearest_even_even = h.even

module _ {u M r : ℕ} (h : Rounded u M r) where
  rounded_kept_low : 2 ^ 52 * 2 ^ (size M - 53) ≤ M
  rounded_kept_low = h.kept_low

  rounded_kept_high : M < 2 ^ 53 * 2 ^ (size M - 53)
  rounded_kept_high = h.kept_high

  rounded_nearest : NearestEven M (size M - 53) (rounded_significand M)
  rounded_nearest = h.nearest

  rounded_limit : 2 ^ (u + 2046) ≤ rounded_significand M * 2 ^ (size M - 53) → r ≡ 2047 * 2 ^ 52
  rounded_limit = h.limit

  rounded_reads : rounded_significand M * 2 ^ (size M - 53) < 2 ^ (u + 2046)
      → (r < 2047 * 2 ^ 52) × (magnitude r * 2 ^ (u - 52) ≡ rounded_significand M * 2 ^ (size M - 53))
  rounded_reads = h.reads

module _ {a r : ℕ} (h : GreatestWhole a r) where
  greatest_whole_whole : ℕ
  greatest_whole_whole = h.whole

  greatest_whole_reads : magnitude r ≡ h.whole * 2 ^ 1074
  greatest_whole_reads = h.reads

  greatest_whole_sign : sign r ≡ sign a
  greatest_whole_sign = h.sign_kept

  greatest_whole_plus : sign a ≡ 0 → (h.whole * 2 ^ 1074 ≤ magnitude a) × (magnitude a < suc h.whole * 2 ^ 1074)
  greatest_whole_plus = h.plus

  greatest_whole_minus : sign a ≡ 1 → (magnitude a ≤ h.whole * 2 ^ 1074) × (h.whole * 2 ^ 1074 < magnitude a + 2 ^ 1074)
  greatest_whole_minus = h.minus

module _ {a r : ℕ} (h : WholePart a r) where
  whole_part_whole : ℕ
  whole_part_whole = h.whole

  whole_part_reads : magnitude r ≡ h.whole * 2 ^ 1074
  whole_part_reads = h.reads

  whole_part_sign : sign r ≡ sign a
  whole_part_sign = h.sign_kept

  whole_part_not_above : h.whole * 2 ^ 1074 ≤ magnitude a
  whole_part_not_above = h.not_above

  whole_part_greatest : magnitude a < suc h.whole * 2 ^ 1074
  whole_part_greatest = h.greatest

module _ {a r : ℕ} (h : NearestWhole a r) where
  nearest_whole_whole : ℕ
  nearest_whole_whole = h.whole

  nearest_whole_reads : magnitude r ≡ h.whole * 2 ^ 1074
  nearest_whole_reads = h.reads

  nearest_whole_sign : sign r ≡ sign a
  nearest_whole_sign = h.sign_kept

  nearest_whole_even : NearestEven (magnitude a) 1074 h.whole
  nearest_whole_even = h.nearest_even

module _ {a k u : ℕ} (h : Dropped a k u) where
  dropped_word : (c : ℕ) → c ≤ 1 → (a / 2 ^ k + c) * 2 ^ k ≡ multiple_of u (sign a) (magnitude a / 2 ^ u + c)
  dropped_word = h.word

  dropped_rest : magnitude a % 2 ^ u ≡ a % 2 ^ k * 2 ^ (expo a - 1)
  dropped_rest = h.rest

  dropped_last : (k ≡ 52 → expo a % 2 ≡ 1) → magnitude a / 2 ^ u % 2 ≡ a / 2 ^ k % 2
  dropped_last = h.last

-- ---- the corners

module _ (h : Corners) where
  corners_reads_zero : (a : ℕ) → expo a ≡ 0 → magnitude a ≡ 0
  corners_reads_zero = h.reads_zero

  corners_reads_number : (a : ℕ) → 1 ≤ expo a → magnitude a ≡ (2 ^ 52 + frac a) * 2 ^ (expo a - 1)
  corners_reads_number = h.reads_number

  corners_product_sign : (a b : ℕ) → sign (product a b) ≡ xor_w (sign a) (sign b)
  corners_product_sign = h.product_sign

  corners_product_underflow : (a b : ℕ) → magnitude a * magnitude b < 2 ^ 1126 → product a b ≡ signed (xor_w (sign a) (sign b)) 0
  corners_product_underflow = h.product_underflow

  corners_product_before_rounding : product 0x0010000000000001 0x3FEFFFFFFFFFFFFE ≡ 0
  corners_product_before_rounding = h.product_before_rounding

  corners_product_rounded_first :
      (let M = magnitude 0x0010000000000001 * magnitude 0x3FEFFFFFFFFFFFFE in limited (rounded_e 1126 M) (rounded_f M)) ≡ 0x0010000000000000
  corners_product_rounded_first = h.product_rounded_first

  corners_sum_underflow : (a b : ℕ) → sign a ≡ sign b → magnitude a + magnitude b < 2 ^ 52 → sum a b ≡ signed (sign a) 0
  corners_sum_underflow = h.sum_underflow

  corners_difference_underflow : (a b : ℕ) → (sign a ≡ sign b → ⊥) → magnitude b < magnitude a → magnitude a - magnitude b < 2 ^ 52
      → (sum a b ≡ signed (sign a) 0) × (sum b a ≡ signed (sign a) 0)
  corners_difference_underflow = h.difference_underflow

  corners_zeros_minus : (a b : ℕ) → magnitude a ≡ 0 → magnitude b ≡ 0 → sign a ≡ 1 → sign b ≡ 1 → sum a b ≡ signed 1 0
  corners_zeros_minus = h.zeros_minus

  corners_zeros_plus : (a b : ℕ) → a < 2 ^ 64 → b < 2 ^ 64 → magnitude a ≡ 0 → magnitude b ≡ 0 → ((sign a ≡ 1) × (sign b ≡ 1) → ⊥) → sum a b ≡ 0
  corners_zeros_plus = h.zeros_plus

  corners_cancellation : (a b : ℕ) → (sign a ≡ sign b → ⊥) → magnitude a ≡ magnitude b → sum a b ≡ 0
  corners_cancellation = h.cancellation

  corners_floor_large : (a : ℕ) → 1075 ≤ expo a → floor a ≡ a
  corners_floor_large = h.floor_large

  corners_floor_zero : (a : ℕ) → expo a ≡ 0 → floor a ≡ signed (sign a) 0
  corners_floor_zero = h.floor_zero

  corners_floor_small_plus : (a : ℕ) → expo a < 1023 → sign a ≡ 0 → floor a ≡ 0
  corners_floor_small_plus = h.floor_small_plus

  corners_floor_small_minus : (a : ℕ) → 1 ≤ expo a → expo a < 1023 → sign a ≡ 1 → floor a ≡ 0xBFF0000000000000
  corners_floor_small_minus = h.floor_small_minus

  corners_minus_one : (sign 0xBFF0000000000000 ≡ 1) × (magnitude 0xBFF0000000000000 ≡ 1 * 2 ^ 1074)
  corners_minus_one = h.minus_one

  corners_truncate_large : (a : ℕ) → 1075 ≤ expo a → truncate a ≡ a
  corners_truncate_large = h.truncate_large

  corners_nearest_large : (a : ℕ) → 1075 ≤ expo a → nearest a ≡ a
  corners_nearest_large = h.nearest_large

  corners_truncate_small : (a : ℕ) → expo a < 1023 → truncate a ≡ signed (sign a) 0
  corners_truncate_small = h.truncate_small

  corners_nearest_small : (a : ℕ) → expo a < 1022 → nearest a ≡ signed (sign a) 0
  corners_nearest_small = h.nearest_small

  corners_nearest_half : (a : ℕ) → expo a ≡ 1022 → nearest a ≡ signed (sign a) (min (frac a) 1 * (1023 * 2 ^ 52))
  corners_nearest_half = h.nearest_half

  corners_no_nan : sum 0x7FF8000000000000 0 ≡ 0x7FF0000000000000
  corners_no_nan = h.no_nan

  corners_no_infinity : sum 0x7FF0000000000000 0xFFF0000000000000 ≡ 0
  corners_no_infinity = h.no_infinity

  corners_zero_times : product 0 0xFFF8000000000000 ≡ 0x8000000000000000
  corners_zero_times = h.zero_times

-- ---- the claims

-- an operand that both read alike
abbrev Alike : ℕ → Type 0
Alike a = ((expo a ≡ 0) × (frac a ≡ 0)) ⊎ ((1 ≤ expo a) × (expo a ≤ 2046))

-- the tables have twelve rows and thirty-eight
rows : (length edges ≡ 12) × (length rounding_edges ≡ 38)
unfolding edges rounding_edges
rows = (refl, refl)

module _ (C : Claims) where
  rounding_means : (u M : ℕ) → 52 ≤ u → 2 ^ u ≤ M → Rounded u M (mag_bits u M)
  rounding_means = C.rounding_means

  floor_means : (a : ℕ) → a < 2 ^ 64 → GreatestWhole a (floor a)
  floor_means = C.floor_means

  truncate_means : (a : ℕ) → a < 2 ^ 64 → WholePart a (truncate a)
  truncate_means = C.truncate_means

  nearest_means : (a : ℕ) → a < 2 ^ 64 → NearestWhole a (nearest a)
  nearest_means = C.nearest_means

  dropping_low_bits : (a k u : ℕ) → 1 ≤ expo a → expo a ≤ 2046 → k ≤ 52 → expo a + k ≡ suc u → Dropped a k u
  dropping_low_bits = C.dropping_low_bits

  -- IEEE 754's, for operands that are zeros or normal numbers, wherever the exact result is zero or not below 2^-1022
  product_is_ieee : (a b : ℕ) → a < 2 ^ 64 → b < 2 ^ 64 → Alike a → Alike b
      → (magnitude a * magnitude b ≡ 0) ⊎ (2 ^ 1126 ≤ magnitude a * magnitude b)
      → product a b ≡ to_bits binary64 (mul binary64 (of_bits binary64 a) (of_bits binary64 b))
  product_is_ieee = C.product_is_ieee

  sum_is_ieee : (a b : ℕ) → a < 2 ^ 64 → b < 2 ^ 64 → Alike a → Alike b → (exact_sum a b ≡ 0) ⊎ (2 ^ 52 ≤ exact_sum a b)
      → sum a b ≡ to_bits binary64 (add binary64 (of_bits binary64 a) (of_bits binary64 b))
  sum_is_ieee = C.sum_is_ieee

  floor_is_ieee : (a : ℕ) → a < 2 ^ 64 → Alike a → floor a ≡ to_bits binary64 (round_to_integral toward_negative (of_bits binary64 a))
  floor_is_ieee = C.floor_is_ieee

  truncate_is_ieee : (a : ℕ) → a < 2 ^ 64 → Alike a → truncate a ≡ to_bits binary64 (round_to_integral toward_zero (of_bits binary64 a))
  truncate_is_ieee = C.truncate_is_ieee

  nearest_is_ieee : (a : ℕ) → a < 2 ^ 64 → Alike a → nearest a ≡ to_bits binary64 (round_to_integral ties_to_even (of_bits binary64 a))
  nearest_is_ieee = C.nearest_is_ieee

  corners : Corners
  corners = C.corners

  edges_hold : all_hold edges ≡ true
  edges_hold = C.edges

  rounding_edges_hold : wholes_hold rounding_edges ≡ true
  rounding_edges_hold = C.rounding_edges_is
