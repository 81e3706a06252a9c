-- A bit of an XOR as a sum modulo 2, which arithmetic can use.
-- Rests on Places.
use mathlib.Core.Path.{◌≡◌, refl, ap, ◌∙◌}
use Prim.Native.Nat.{ℕ, ◌+◌, ◌/◌, ◌%◌, ◌^◌, ◌<◌}
use lib.Bits.{differ}
use Rattle.bits.specs.Ops.{xor_w, shr_w}
use Rattle.bits.proofs.Digits.{digit, bit_lt, bit}
use Rattle.bits.proofs.Places.{shr_is, bit_xor}

differ_sum : (x y : ℕ) → x < 2 → y < 2 → differ x y ≡ (x + y) % 2
differ_sum x y hx hy =
    digit (λ x. differ x y ≡ (x + y) % 2) (digit (λ y. differ 0 y ≡ (0 + y) % 2) refl refl y hy) (digit (λ y. differ 1 y ≡ (1 + y) % 2) refl refl y hy) x hx

pub xor_bit : (a b k : ℕ) → bit (xor_w a b) k ≡ (bit a k + bit b k) % 2
xor_bit a b k = bit_xor a b k ∙ differ_sum (bit a k) (bit b k) (bit_lt (a / 2 ^ k)) (bit_lt (b / 2 ^ k))

-- the same where a plan has shifted the bit to the lowest place
pub xor_shifted : (a b k : ℕ) → shr_w (xor_w a b) k % 2 ≡ (bit a k + bit b k) % 2
xor_shifted a b k = ap (λ (x : ℕ). x % 2) (shr_is (xor_w a b) k) ∙ xor_bit a b k
