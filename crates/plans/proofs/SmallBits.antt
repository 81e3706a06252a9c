-- Numbers of four bits as the plans put them together by XOR, and their AND, bit by bit a product; XOR of bits; bits moved; riders beside a word in an AND.
-- Rests on Fields, Shifts and bits' Places.
use mathlib.Core.Path.{◌≡◌, refl, ap, ap₂, ◌∙◌}
use Prim.Native.Nat.{ℕ, ◌+◌, ◌-◌, ◌*◌, ◌/◌, ◌%◌, ◌^◌, ◌≤◌, ◌<◌}
use native.Mathlib.Omega.{arith}
use Rattle.bits.specs.Ops.{xor_w, and_w, shl_w, shr_w}
use Rattle.bits.proofs.Digits.{digit}
use Rattle.bits.proofs.Xor.{xor_comm}
use Rattle.bits.proofs.Sum.{xor_packed}
use Rattle.bits.proofs.Places.{shl_exact, and_block}
use Rattle.plans.proofs.Fields.{pack}
use Rattle.plans.proofs.Shifts.{moved}

-- ---- bits
bit_and_mul : (a b : ℕ) → a < 2 → b < 2 → and_w a b ≡ a * b
unfolding and_w
bit_and_mul a b ha hb =
    digit (λ a. and_w a b ≡ a * b) (digit (λ b. and_w 0 b ≡ 0 * b) refl refl b hb) (digit (λ b. and_w 1 b ≡ 1 * b) refl refl b hb) a ha

pub bit_xor_sum : (a b : ℕ) → a < 2 → b < 2 → xor_w a b ≡ (a + b) % 2
unfolding xor_w
bit_xor_sum a b ha hb =
    digit (λ a. xor_w a b ≡ (a + b) % 2) (digit (λ b. xor_w 0 b ≡ (0 + b) % 2) refl refl b hb) (digit (λ b. xor_w 1 b ≡ (1 + b) % 2) refl refl b hb) a ha

pub mul_bit : (a b : ℕ) → a < 2 → b < 2 → a * b < 2
mul_bit a b ha hb = digit (λ a. a * b < 2) (omega arith) (omega arith) a ha

-- a bit without what it has in common with another
pub bit_only : (a b : ℕ) → a < 2 → b < 2 → xor_w a (a * b) ≡ a * (1 - b)
unfolding xor_w
bit_only a b ha hb =
    digit (λ a. xor_w a (a * b) ≡ a * (1 - b)) (digit (λ b. xor_w 0 (0 * b) ≡ 0 * (1 - b)) refl refl b hb) (digit (λ b. xor_w 1 (1 * b) ≡ 1 * (1 - b)) refl refl b hb) a ha

-- the lowest bit at place 1, by two shifts
pub doubled : (a : ℕ) → shr_w (shl_w a 63) 62 ≡ a % 2 * 2
doubled a = moved 1 1 62 a refl

-- a bit moved up k places
pub bit_up : (k w a : ℕ) → k < 64 → a < 2 → w ≡ a → shl_w w k ≡ a * 2 ^ k
bit_up k w a l h e = ap (λ (z : ℕ). shl_w z k) e ∙ shl_exact 1 k a h (omega arith)

-- ---- four bits
abbrev pub bits4 : ℕ → ℕ → ℕ → ℕ → ℕ
bits4 a b c d = a + 2 * b + 4 * c + 8 * d

module _ (a b c d : ℕ) (ha : a < 2) (hb : b < 2) (hc : c < 2) (hd : d < 2) where
  pub two_bits : xor_w a (b * 2) ≡ bits4 a b 0 0
  two_bits = xor_comm a (b * 2) ∙ xor_packed b 1 a ha ∙ omega arith

  pub three_bits : xor_w (xor_w a (b * 2)) (c * 4) ≡ bits4 a b c 0
  three_bits =
      ap (λ (z : ℕ). xor_w z (c * 4)) two_bits ∙ xor_comm (bits4 a b 0 0) (c * 4) ∙ xor_packed c 2 (bits4 a b 0 0) (omega arith) ∙ omega arith

  pub four_bits : xor_w (xor_w (xor_w a (b * 2)) (c * 4)) (d * 8) ≡ bits4 a b c d
  four_bits =
      ap (λ (z : ℕ). xor_w z (d * 8)) three_bits ∙ xor_comm (bits4 a b c 0) (d * 8) ∙ xor_packed d 3 (bits4 a b c 0) (omega arith) ∙ omega arith

  -- the bits one by one
  pub place0 : bits4 a b c d % 2 ≡ a
  place0 = omega arith

  pub place1 : bits4 a b c d / 2 % 2 ≡ b
  place1 = omega arith

  pub place2 : bits4 a b c d / 4 % 2 ≡ c
  place2 = omega arith

  pub place3 : bits4 a b c d / 8 ≡ d
  place3 = omega arith

  -- the last of two, and of three
  pub last2 : bits4 a b 0 0 / 2 ≡ b
  last2 = omega arith

  pub last3 : bits4 a b c 0 / 4 ≡ c
  last3 = omega arith

  pub bits4_lt : bits4 a b c d < 16
  bits4_lt = omega arith

  horner : bits4 a b c d ≡ ((d * 2 ^ 1 + c) * 2 ^ 1 + b) * 2 ^ 1 + a
  horner = omega arith

module _ (a b c d i j k l : ℕ) (ha : a < 2) (hb : b < 2) (hc : c < 2) (hd : d < 2) (hi : i < 2) (hj : j < 2) (hk : k < 2) (hl : l < 2) where
  pub and_bits : and_w (bits4 a b c d) (bits4 i j k l) ≡ bits4 (a * i) (b * j) (c * k) (d * l)
  and_bits =
      ap₂ and_w (horner a b c d ha hb hc hd) (horner i j k l hi hj hk hl)
      ∙ and_block 1 ((d * 2 ^ 1 + c) * 2 ^ 1 + b) ((l * 2 ^ 1 + k) * 2 ^ 1 + j) a i ha hi
      ∙ ap₂ (λ (u w : ℕ). u * 2 ^ 1 + w)
      (and_block 1 (d * 2 ^ 1 + c) (l * 2 ^ 1 + k) b j hb hj
      ∙ ap₂ (λ (u w : ℕ). u * 2 ^ 1 + w) (and_block 1 d l c k hc hk ∙ ap₂ (λ (u w : ℕ). u * 2 ^ 1 + w) (bit_and_mul d l hd hl) (bit_and_mul c k hc hk)) (bit_and_mul b j hb hj))
      (bit_and_mul a i ha hi)
      ∙ back (a * i) (b * j) (c * k) (d * l)
    where
      back : (a b c d : ℕ) → ((d * 2 ^ 1 + c) * 2 ^ 1 + b) * 2 ^ 1 + a ≡ bits4 a b c d
      back a b c d = omega arith

-- ---- riders r and s from place k on, in an AND
pub ride : (j k a b r s : ℕ) → a < 2 ^ k → b < 2 ^ k → r < 2 ^ j → s < 2 ^ j → j + k ≤ 64
    → and_w (xor_w a (shl_w r k)) (xor_w b (shl_w s k)) ≡ and_w r s * 2 ^ k + and_w a b
ride j k a b r s ha hb hr hs w = ap₂ and_w (pack j k a r ha hr w) (pack j k b s hb hs w) ∙ and_block k r s a b ha hb
