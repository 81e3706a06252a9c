-- What the roundings to a whole number share: the word of a whole number, and the one fact about dropping low bits, as a statement.
use Rattle.std.specs.Prelude.{◌≡◌, ℕ, suc, ◌+◌, ◌-◌, ◌*◌, ◌/◌, ◌%◌, ◌^◌, ◌≤◌}
use Rattle.binary64.specs.Number.{sign, expo, magnitude, signed}
use Rattle.binary64.specs.Rounding.{mag_bits}

-- the number with sign s and magnitude n · 2^u, in a magnitude's units of 2^-1074. Where it is used it is zero or not below 2^-1022, and has at most 53 significant
-- bits and no more than E = 2047, F = 0, so that `mag_bits` gives it as it is.
abbrev pub multiple_of : ℕ → ℕ → ℕ → ℕ
multiple_of u s n = signed s (mag_bits 52 (n * 2 ^ u))

-- the whole number of magnitude n: 2^1074 units make 1. Meaning says that the roundings' results read as such numbers.
abbrev pub whole_number : ℕ → ℕ → ℕ
whole_number s n = multiple_of 1074 s n

-- What dropping the k low bits of a word does to it as a number: it leaves a multiple of 2^u units, u = E + k − 1, the weight of the last bit kept.
pub record Dropped (a k u : ℕ) : Type 0 where
  -- with the k bits cleared the word is the greatest multiple not above a in magnitude, and with 2^k added (c = 1) the next one: a carry out of F goes into E
  pub word : (c : ℕ) → c ≤ 1 → (a / 2 ^ k + c) * 2 ^ k ≡ multiple_of u (sign a) (magnitude a / 2 ^ u + c)
  -- the bits dropped are the rest, in units of 2^(E−1075)
  pub rest : magnitude a % 2 ^ u ≡ a % 2 ^ k * 2 ^ (expo a - 1)
  -- the last bit kept says whether the multiple is odd; where all of F is dropped it is E's lowest bit, and has to be 1, as the leading bit is
  pub last : (k ≡ 52 → expo a % 2 ≡ 1) → magnitude a / 2 ^ u % 2 ≡ a / 2 ^ k % 2

-- document 02, No. 1: "All three roundings share one fact about dropping low bits, proved for any count of them." Any count of the 52 bits of F, of any number that is not
-- zero and below E = 2047, where `mag_bits` stops at F = 0. The roundings drop as many as stand for the fraction: u = 1074.
abbrev pub DroppingLowBits : Type 0
DroppingLowBits = (a k u : ℕ) → 1 ≤ expo a → expo a ≤ 2046 → k ≤ 52 → expo a + k ≡ suc u → Dropped a k u
