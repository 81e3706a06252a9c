-- The definitions mean what documents 01 and 02 say: rounding is to the nearest with ties to even, and floor, truncation and nearest are the
-- whole numbers that they are said to be. As statements.
use Rattle.std.specs.Prelude.{◌≡◌, ℕ, suc, ◌+◌, ◌-◌, ◌*◌, ◌%◌, ◌^◌, ◌≤◌, ◌<◌}
use Rattle.std.specs.Float.Ieee.{size}
use Rattle.binary64.specs.Number.{sign, magnitude}
use Rattle.binary64.specs.Rounding.{rounded_significand, mag_bits}
use Rattle.binary64.specs.Floor.{floor}
use Rattle.binary64.specs.Truncate.{truncate}
use Rattle.binary64.specs.Nearest.{nearest}

abbrev pub distance : ℕ → ℕ → ℕ
distance a b = (a - b) + (b - a)

-- no multiple of 2^e is nearer to M than q · 2^e, and where another one is as near, q is even
pub record NearestEven (M e q : ℕ) : Type 0 where
  pub nearest : (k : ℕ) → distance M (q * 2 ^ e) ≤ distance M (k * 2 ^ e)
  pub even : (k : ℕ) → (k ≡ q → ⊥) → distance M (k * 2 ^ e) ≡ distance M (q * 2 ^ e) → q % 2 ≡ 0

-- "rounded to 53 significant bits, nearest, ties to even": the unit leaves 53 bits of M, and q, the `rounded_significand`, is nearest.
-- "If the rounded E would be 2047 or more, the answer has E = 2047, F = 0": that E, at F = 0, would read as 2^(u + 2046) of M's units.
-- From there on the answer r is the limit; below, its E is below 2047 and it reads as q units. 2^u of M's units make 2^-1022; a word's magnitude is in units of 2^-1074.
pub record Rounded (u M r : ℕ) : Type 0 where
  pub kept_low : 2 ^ 52 * 2 ^ (size M - 53) ≤ M
  pub kept_high : M < 2 ^ 53 * 2 ^ (size M - 53)
  pub nearest : NearestEven M (size M - 53) (rounded_significand M)
  pub limit : 2 ^ (u + 2046) ≤ rounded_significand M * 2 ^ (size M - 53) → r ≡ 2047 * 2 ^ 52
  pub reads : rounded_significand M * 2 ^ (size M - 53) < 2 ^ (u + 2046) → (r < 2047 * 2 ^ 52) × (magnitude r * 2 ^ (u - 52) ≡ rounded_significand M * 2 ^ (size M - 53))

-- "Otherwise it is rounded ..": not below 2^-1022. `Corners` has what is below.
abbrev pub RoundingMeans : Type 0
RoundingMeans = (u M : ℕ) → 52 ≤ u → 2 ^ u ≤ M → Rounded u M (mag_bits u M)

-- r is a whole number with the sign of a, `whole` in magnitude, which may be 0; it is not above a, and the next whole number is. Below zero the larger magnitude is the
-- smaller number, and the next one is `whole` less 1 in magnitude, or 1 after minus zero. Of a zero the magnitude does not tell F: Corners has its word.
pub record GreatestWhole (a r : ℕ) : Type 0 where
  pub whole : ℕ
  pub reads : magnitude r ≡ whole * 2 ^ 1074
  pub sign_kept : sign r ≡ sign a
  pub plus : sign a ≡ 0 → (whole * 2 ^ 1074 ≤ magnitude a) × (magnitude a < suc whole * 2 ^ 1074)
  pub minus : sign a ≡ 1 → (magnitude a ≤ whole * 2 ^ 1074) × (whole * 2 ^ 1074 < magnitude a + 2 ^ 1074)

-- "the greatest whole number not above the operand", for every operand
abbrev pub FloorMeans : Type 0
FloorMeans = (a : ℕ) → a < 2 ^ 64 → GreatestWhole a (floor a)

-- r is the whole number of a's sign whose magnitude, `whole`, is the greatest not above a's
pub record WholePart (a r : ℕ) : Type 0 where
  pub whole : ℕ
  pub reads : magnitude r ≡ whole * 2 ^ 1074
  pub sign_kept : sign r ≡ sign a
  pub not_above : whole * 2 ^ 1074 ≤ magnitude a
  pub greatest : magnitude a < suc whole * 2 ^ 1074

-- "Truncation drops the fraction", for every operand
abbrev pub TruncateMeans : Type 0
TruncateMeans = (a : ℕ) → a < 2 ^ 64 → WholePart a (truncate a)

-- r is the whole number of a's sign whose magnitude, `whole`, is nearest to a's, a tie to the even one
pub record NearestWhole (a r : ℕ) : Type 0 where
  pub whole : ℕ
  pub reads : magnitude r ≡ whole * 2 ^ 1074
  pub sign_kept : sign r ≡ sign a
  pub nearest_even : NearestEven (magnitude a) 1074 whole

-- "nearest takes a tie to the even whole number", for every operand
abbrev pub NearestMeans : Type 0
NearestMeans = (a : ℕ) → a < 2 ^ 64 → NearestWhole a (nearest a)
