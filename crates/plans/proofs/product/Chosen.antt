-- The product's choice by the riders i and o of the last AND, and the sign, in numbers: the word W with 1024 off its exponent where i is 1, E = 2047 and F = 0 where o is 1, else zero.
-- Rests on End, Rounded and Fields.
use mathlib.Core.Path.{◌≡◌, refl, sym, ap, ap₂, ◌∙◌}
use Prim.Native.Nat.{ℕ, ◌+◌, ◌-◌, ◌*◌, ◌/◌, ◌%◌, ◌^◌, ◌<◌}
use native.Mathlib.Nat.{mod-lt, mul-zero, mul-one}
use native.Mathlib.Omega.{arith}
use lib.Bits as Bits
use lib.Pow.{pow_pos, split, low, high}
use Rattle.bits.specs.Ops.{xor_w, and_w, shl_w, shr_w, spread_w}
use Rattle.bits.proofs.Digits.{digit, bit_lt}
use Rattle.bits.proofs.Xor.{xor_comm, xor_cancel, xor_zero, xor_zero_l, and_zero}
use Rattle.bits.proofs.Shift.{shr_xor}
use Rattle.bits.proofs.Bound.{xor_lt}
use Rattle.bits.proofs.Sum.{xor_packed}
use Rattle.bits.proofs.Places.{shr_is, shl_exact, and_low}
use Rattle.binary64.specs.Number.{sign, signed}
use Rattle.plans.proofs.Fields.{low_bits, spread_run, spread_run_at}
use Rattle.plans.proofs.SmallBits.{bits4, and_bits, bits4_lt}
use Rattle.plans.proofs.product.End.{change_w, chosen_w, signed_w, finished_w}
use Rattle.plans.proofs.product.Rounded.{changed, change_is}

-- ---- turning bit 62 takes 1024 from the exponent
flip : (a : ℕ) → a < 2 ^ 63 → xor_w a (2 ^ 62) ≡ (a + 2 ^ 62) % 2 ^ 63
flip a h =
    let d = a % 2 ^ 62 in
    let dl : d < 2 ^ 62 = mod-lt a (pow_pos 62) in
    ap (λ (z : ℕ). xor_w z (2 ^ 62)) (sym (split a 62))
    ∙ digit (λ c. xor_w (c * 2 ^ 62 + d) (2 ^ 62) ≡ (c * 2 ^ 62 + d + 2 ^ 62) % 2 ^ 63)
    (xor_comm (0 + d) (2 ^ 62) ∙ xor_packed 1 62 (0 + d) (omega arith) ∙ omega arith)
    (ap (λ (z : ℕ). xor_w z (2 ^ 62)) (sym (xor_packed 1 62 d dl)) ∙ xor_comm (xor_w (2 ^ 62) d) (2 ^ 62) ∙ xor_cancel (2 ^ 62) d ∙ omega arith)
    (a / 2 ^ 62) (omega arith)
    ∙ ap (λ (z : ℕ). (z + 2 ^ 62) % 2 ^ 63) (split a 62)

-- ---- the choice, for k with the lowest bit i and the next one o
chosen_by : (W k i o : ℕ) → k % 2 ≡ i → k / 2 % 2 ≡ o → chosen_w W 1 k ≡ xor_w ((W % 2 ^ 63 + 2 ^ 62) % 2 ^ 63 * i) (o * (2 ^ 11 - 1) * 2 ^ 52)
unfolding chosen_w
chosen_by W k i o hi ho =
    let M : ℕ = xor_w W (2 ^ 62) in
    ap (λ (z : ℕ). xor_w (and_w (xor_w W z) (shr_w (spread_w k) 1)) (shl_w (shr_w (spread_w (shr_w k 1)) 53) 52)) (shl_exact 1 62 1 (omega arith) (omega arith))
    ∙ ap₂ (λ (u v : ℕ). xor_w (and_w M u) v) (spread_run k 1 63 refl) (spread_run_at (shr_w k 1) 53 11 52 refl (omega arith))
    ∙ ap₂ (λ (u v : ℕ). xor_w u (v * (2 ^ 11 - 1) * 2 ^ 52)) (kept M (k % 2) (bit_lt k)) (ap (λ (z : ℕ). z % 2) (shr_is k 1) ∙ ho)
    ∙ ap₂ (λ (u v : ℕ). xor_w (u * v) (o * (2 ^ 11 - 1) * 2 ^ 52)) (low63 ∙ flip (W % 2 ^ 63) (mod-lt W (pow_pos 63))) hi
  where
    kept : (M i : ℕ) → i < 2 → and_w M (i * (2 ^ 63 - 1)) ≡ M % 2 ^ 63 * i
    kept M i h = digit (λ i. and_w M (i * (2 ^ 63 - 1)) ≡ M % 2 ^ 63 * i) (and_zero M ∙ sym (mul-zero (M % 2 ^ 63))) (and_low M 63 ∙ sym (mul-one (M % 2 ^ 63))) i h

    low63 : xor_w W (2 ^ 62) % 2 ^ 63 ≡ xor_w (W % 2 ^ 63) (2 ^ 62)
    low63 = unfold xor_w in Bits.xor_mod W (2 ^ 62) 63

pub chosen_within : (W i : ℕ) → i < 2 → chosen_w W 1 (bits4 i 0 0 0) ≡ (W % 2 ^ 63 + 2 ^ 62) % 2 ^ 63 * i
chosen_within W i h = chosen_by W (bits4 i 0 0 0) i 0 (omega arith) (omega arith) ∙ xor_zero ((W % 2 ^ 63 + 2 ^ 62) % 2 ^ 63 * i)

pub chosen_outside : (W o : ℕ) → o < 2 → chosen_w W 1 (bits4 0 o 0 0) ≡ o * (2047 * 2 ^ 52)
chosen_outside W o h =
    chosen_by W (bits4 0 o 0 0) 0 o (omega arith) (omega arith)
    ∙ ap (λ (z : ℕ). xor_w z (o * (2 ^ 11 - 1) * 2 ^ 52)) (mul-zero ((W % 2 ^ 63 + 2 ^ 62) % 2 ^ 63)) ∙ xor_zero_l (o * (2 ^ 11 - 1) * 2 ^ 52) ∙ omega arith

-- ---- the sign
pub signed_is : (x y m : ℕ) → x < 2 ^ 64 → y < 2 ^ 64 → m < 2 ^ 63 → signed_w x y m ≡ signed (xor_w (sign x) (sign y)) m
unfolding signed_w
signed_is x y m hx hy hm =
    let s = xor_w (sign x) (sign y) in
    let sl : s < 2 ^ 1 = xor_lt 1 (sign x) (sign y) (omega arith) (omega arith) in
    ap (λ (z : ℕ). xor_w m (shl_w z 63)) (shr_xor x y 63 ∙ ap₂ xor_w (shr_is x 63) (shr_is y 63))
    ∙ ap (xor_w m) (shl_exact 1 63 s sl (omega arith)) ∙ xor_comm m (s * 2 ^ 63) ∙ xor_packed s 63 m hm

-- ---- the last AND comes apart again
pub finished_is : (x y W d P i o n : ℕ) → i < 2 → o < 2 → n < 2
    → finished_w x y 1 W (change_w W d P (bits4 i o 0 0) (bits4 n n 0 0)) ≡ signed_w x y (chosen_w (xor_w W (changed W d % 2 ^ 52 * (P % 2))) 1 (bits4 (i * n) (o * n) 0 0))
unfolding finished_w
finished_is x y W d P i o n hi ho hn =
    let z : 0 < 2 = omega arith in
    let D : ℕ = changed W d % 2 ^ 52 * (P % 2) in
    let B : ℕ = bits4 (i * n) (o * n) 0 0 in
    let h_d : D < 2 ^ 52 = part (changed W d % 2 ^ 52) (P % 2) (mod-lt (changed W d) (pow_pos 52)) (bit_lt P) in
    let e : change_w W d P (bits4 i o 0 0) (bits4 n n 0 0) ≡ B * 2 ^ 52 + D =
    change_is W d P (bits4 i o 0 0) (bits4 n n 0 0) (bits4_lt i o 0 0 hi ho z z) (bits4_lt n n 0 0 hn hn z z)
    ∙ ap (λ (u : ℕ). u * 2 ^ 52 + D) (and_bits i o 0 0 n n 0 0 hi ho z z hn hn z z) in
    ap (λ (k : ℕ). signed_w x y (chosen_w (xor_w W (shr_w (shl_w k 12) 12)) 1 (shr_w k 52))) e
    ∙ ap₂ (λ (u v : ℕ). signed_w x y (chosen_w (xor_w W u) 1 v)) (low_bits (B * 2 ^ 52 + D) 12 52 refl ∙ low B 52 h_d) (shr_is (B * 2 ^ 52 + D) 52 ∙ high B 52 h_d)
  where
    part : (a p : ℕ) → a < 2 ^ 52 → p < 2 → a * p < 2 ^ 52
    part a p ha hp = digit (λ p. a * p < 2 ^ 52) (omega arith) (omega arith) p hp
