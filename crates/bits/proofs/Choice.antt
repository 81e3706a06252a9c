-- A spread bit as a mask: AND with it keeps a word or drops it, and XOR, AND, XOR chooses between two.
use mathlib.Core.Path.{◌≡◌, sym, ap, ◌∙◌}
use Prim.Native.Nat.{ℕ, ◌+◌, ◌-◌, ◌*◌, ◌%◌, ◌^◌, ◌<◌}
use native.Mathlib.Nat.{mod-eq_of_lt, mul-zero, mul-one}
use native.Mathlib.Omega.{arith}
use lib.Bits as Bits
use Rattle.bits.specs.Ops.{xor_w, and_w, spread_w}
use Rattle.bits.proofs.Digits.{digit, bit_lt}
use Rattle.bits.proofs.Xor.{xor_zero_l, xor_cancel_r, and_zero}
use Rattle.bits.proofs.Bound.{xor_lt}

pub and_ones : (x : ℕ) → x < 2 ^ 64 → and_w x (2 ^ 64 - 1) ≡ x
unfolding and_w
and_ones x h = Bits.and_mask x 64 ∙ mod-eq_of_lt h

-- x where y is odd, else 0
pub and_spread : (x y : ℕ) → x < 2 ^ 64 → and_w x (spread_w y) ≡ x * (y % 2)
unfolding spread_w
and_spread x y h =
    digit (λ b. and_w x (b * (2 ^ 64 - 1)) ≡ x * b) (and_zero x ∙ sym (mul-zero x)) (and_ones x h ∙ sym (mul-one x)) (y % 2) (bit_lt y)

-- p where y is odd, else q
pub select : (p q y : ℕ) → p < 2 ^ 64 → q < 2 ^ 64 → xor_w (and_w (xor_w p q) (spread_w y)) q ≡ p * (y % 2) + q * (1 - y % 2)
select p q y hp hq =
    ap (λ (x : ℕ). xor_w x q) (and_spread (xor_w p q) y (xor_lt 64 p q hp hq))
    ∙ digit (λ b. xor_w (xor_w p q * b) q ≡ p * b + q * (1 - b))
    (ap (λ (x : ℕ). xor_w x q) (mul-zero (xor_w p q)) ∙ xor_zero_l q ∙ omega arith)
    (ap (λ (x : ℕ). xor_w x q) (mul-one (xor_w p q)) ∙ xor_cancel_r p q ∙ omega arith) (y % 2) (bit_lt y)
