-- The product's two foldings in numbers: the riders go as in ANDs of their own, and what is folded is the zero test of the bits of q below l0, inverted (Or16).
-- Rests on End, SmallBits and Or16.
use mathlib.Core.Path.{◌≡◌, refl, sym, ap, ap₂, ◌∙◌}
use Prim.Native.Nat.{ℕ, ◌+◌, ◌-◌, ◌*◌, ◌/◌, ◌%◌, ◌^◌, ◌<◌}
use native.Mathlib.Nat.{mod-lt}
use native.Mathlib.Omega.{arith}
use lib.Pow.{pow_pos, low}
use Rattle.bits.specs.Ops.{xor_w, and_w, not_w, shl_w, shr_w}
use Rattle.bits.proofs.Bound.{and_lt, not_lt, shl_lt, shr_lt}
use Rattle.bits.proofs.Places.{shr_is}
use Rattle.plans.proofs.Fields.{low_bits}
use Rattle.plans.proofs.Shifts.{not_is, shl_keeps}
use Rattle.plans.proofs.Lanes.{is_zero, and_down}
use Rattle.plans.proofs.Or16.{down32, down32_lt, or16, or16_zero}
use Rattle.plans.proofs.SmallBits.{ride}
use Rattle.plans.proofs.product.End.{inverted_w, fold32_w, fold16_w, folded_w}
use Rattle.plans.proofs.product.Pairs.{low_of}

-- ---- from 64 places to 32
pub fold32_is : (n p q : ℕ) → n < 2 ^ 64 → p < 16 → q < 16 → fold32_w n p q ≡ and_w p q * 2 ^ 32 + and_down 32 n
unfolding fold32_w
fold32_is n p q h hp hq =
    ap₂ (λ (i j : ℕ). and_w (xor_w i (shl_w p 32)) (xor_w j (shl_w q 32))) (low_bits n 32 32 refl) (shr_is n 32)
    ∙ ride 4 32 (n % 2 ^ 32) (n / 2 ^ 32) p q (mod-lt n (pow_pos 32)) (omega arith) hp hq (omega arith)
    ∙ ap (λ (z : ℕ). and_w p q * 2 ^ 32 + z) (sym (down32 n h))

-- ---- from 32 places to 16
pub fold16_is : (r g p q : ℕ) → g < 2 ^ 32 → p < 16 → q < 16 → fold16_w (r * 2 ^ 32 + g) p q ≡ and_w p q * 2 ^ 32 + and_down 16 g
unfolding fold16_w
fold16_is r g p q h hp hq =
    ap (λ (i : ℕ). and_w (xor_w i (shl_w p 32)) (xor_w (shr_w i 16) (shl_w q 32))) (low_bits (r * 2 ^ 32 + g) 32 32 refl ∙ low r 32 h)
    ∙ ride 4 32 g (shr_w g 16) p q h (shr_lt 32 g 16 h) hp hq (omega arith)

-- the low 16 bits, inverted back
pub folded_is : (w t : ℕ) → t < 16 → folded_w (t * 2 ^ 32 + and_down 16 (and_down 32 (not_w w))) ≡ or16 w
unfolding folded_w or16
folded_is w t ht =
    let g = and_down 16 (and_down 32 (not_w w)) in
    let gl : g < 2 ^ 32 = and_lt 32 (and_down 32 (not_w w)) (shr_w (and_down 32 (not_w w)) 16) (down32_lt (not_w w) (not_lt w)) in
    low_bits (not_w (t * 2 ^ 32 + g)) 48 16 refl ∙ ap (λ (z : ℕ). z % 2 ^ 16) (not_is (t * 2 ^ 32 + g)) ∙ same t g ht gl
    ∙ sym (low_bits (not_w g) 48 16 refl ∙ ap (λ (z : ℕ). z % 2 ^ 16) (not_is g))
  where
    same : (t g : ℕ) → t < 16 → g < 2 ^ 32 → (2 ^ 64 - 1 - (t * 2 ^ 32 + g)) % 2 ^ 16 ≡ (2 ^ 64 - 1 - g) % 2 ^ 16
    same t g ht hg = omega arith

-- ---- what is tested
pub rest_zero : (l : ℕ) → l < 2 ^ 53 → is_zero (or16 (inverted_w (low_of l))) ≡ is_zero (2 ^ 51 - 1 - l % 2 ^ 51)
unfolding inverted_w
rest_zero l h =
    or16_zero (shl_w (not_w (shr_w (low_of l) 11)) 13) (shl_lt (not_w (shr_w (low_of l) 11)) 13)
    ∙ ap (λ (z : ℕ). is_zero (shl_w (not_w z) 13)) (shr_is (low_of l) 11 ∙ omega arith)
    ∙ ap is_zero (shl_keeps 51 13 (not_w l) refl ∙ ap (λ (z : ℕ). z % 2 ^ 51 * 2 ^ 13) (not_is l)) ∙ zeros l h
  where
    ones : (l : ℕ) → l < 2 ^ 53 → (2 ^ 64 - 1 - l) % 2 ^ 51 ≡ 2 ^ 51 - 1 - l % 2 ^ 51
    ones l h = omega arith

    up : (a : ℕ) → is_zero (a * 2 ^ 13) ≡ is_zero a
    up a = omega arith

    zeros : (l : ℕ) → l < 2 ^ 53 → is_zero ((2 ^ 64 - 1 - l) % 2 ^ 51 * 2 ^ 13) ≡ is_zero (2 ^ 51 - 1 - l % 2 ^ 51)
    zeros l h = up ((2 ^ 64 - 1 - l) % 2 ^ 51) ∙ ap is_zero (ones l h)
