-- The product's rounding, its ranges and its normalised fraction, in numbers.
-- Rests on End, SmallBits and Tested.
use mathlib.Core.Path.{◌≡◌, refl, sym, ap, ap₂, ◌∙◌}
use Prim.Native.Nat.{ℕ, ◌+◌, ◌-◌, ◌*◌, ◌/◌, ◌%◌, ◌^◌, ◌<◌}
use native.Mathlib.Nat.{mod-lt, mod-eq_of_lt, mul-zero, mul-one, add-zero}
use native.Mathlib.Omega.{arith}
use lib.Bits as Bits
use lib.Pow.{pow_pos, split}
use Rattle.bits.specs.Ops.{xor_w, and_w, not_w, shl_w, shr_w}
use Rattle.bits.proofs.Digits.{digit, bit_lt}
use Rattle.bits.proofs.Xor.{xor_zero, xor_cancel, xor_comm, and_zero}
use Rattle.bits.proofs.Bound.{not_lt}
use Rattle.bits.proofs.Sum.{xor_packed}
use Rattle.bits.proofs.Choice.{and_spread}
use Rattle.bits.proofs.Places.{shr_is, and_low, xor_block}
use Rattle.plans.proofs.Fields.{field, low_bits, spread_run}
use Rattle.plans.proofs.Shifts.{shl_keeps, lowest_is, xor_parity}
use Rattle.plans.proofs.SmallBits.{bit_xor_sum, mul_bit, bit_up, bits4, two_bits, place2, place3, last3, ride}
use Rattle.plans.proofs.product.End.{rounded_w, range_w, nonzero_w, change_w}
use Rattle.plans.proofs.product.Pairs.{high_of, top_bit_is, next_bit}
use Rattle.plans.proofs.product.Tested.{Tested, edge_of, edge_bit, in_of, in_bit, over_of, over_bit}

-- ---- the carry added
pub rounded_is : (R N c : ℕ) → R < 2 ^ 64 → xor_w R (not_w (shl_w N 1)) ≡ (R + 1) % 2 ^ 64 → rounded_w R N c ≡ (R + c % 2) % 2 ^ 64
unfolding rounded_w
rounded_is R N c h p =
    ap (xor_w R) (and_spread (not_w (shl_w N 1)) c (not_lt (shl_w N 1)))
    ∙ digit (λ d. xor_w R (not_w (shl_w N 1) * d) ≡ (R + d) % 2 ^ 64)
    (ap (xor_w R) (mul-zero (not_w (shl_w N 1))) ∙ xor_zero R ∙ sym (mod-eq_of_lt h) ∙ ap (λ (z : ℕ). z % 2 ^ 64) (sym (add-zero R)))
    (ap (xor_w R) (mul-one (not_w (shl_w N 1))) ∙ p) (c % 2) (bit_lt c)

-- ---- the ranges
module _ (K x y U f Z g : ℕ) (h_u : U < 4096) (hf : f < 2 ^ 52) (hg : g < 2) (t : Tested K x y U Z) where
  abbrev u1 : ℕ
  u1 = U / 2048

  abbrev u0 : ℕ
  u0 = U / 1024 % 2

  in_odd : xor_w (xor_w (shr_w (high_of U f) 63) (shr_w (high_of U f) 62)) (shr_w Z 48) % 2 ≡ in_of U
  unfolding in_of
  in_odd =
      let h : u1 < 2 = omega arith in
      xor_parity (xor_w (shr_w (high_of U f) 63) (shr_w (high_of U f) 62)) (shr_w Z 48)
      ∙ ap₂ (λ (i j : ℕ). (i + j) % 2)
      (xor_parity (shr_w (high_of U f) 63) (shr_w (high_of U f) 62) ∙ ap₂ (λ (i j : ℕ). (i % 2 + j % 2) % 2) (top_bit_is U f h_u hf) (next_bit U f h_u hf)
      ∙ ap (λ (z : ℕ). (z + u0) % 2) (mod-eq_of_lt h))
      (ap (λ (z : ℕ). z % 2) (shr_is Z 48) ∙ t.edge)

  pub range_is : (G a b d e i : ℕ) → G / 2 ^ 63 ≡ g → a < 2 → b < 2 → d < 2 → e < 2 → i < 2
      → range_w (high_of U f) G Z (bits4 a b (u1 * u0) 0) (bits4 d e i (edge_of U * u1)) ≡ bits4 (in_of U) ((over_of U + g) % 2) 0 0
  unfolding range_w
  range_is G a b d e i eg ha hb hd he hi =
      let h1 : u1 < 2 = omega arith in
      let h0 : u0 < 2 = omega arith in
      let hp : u1 * u0 < 2 = mul_bit u1 u0 h1 h0 in
      let hq : edge_of U * u1 < 2 = mul_bit (edge_of U) u1 (edge_bit U) h1 in
      let p : shr_w (bits4 a b (u1 * u0) 0) 2 ≡ u1 * u0 = shr_is (bits4 a b (u1 * u0) 0) 2 ∙ last3 a b (u1 * u0) 0 ha hb hp (omega arith) in
      let q : shr_w (bits4 d e i (edge_of U * u1)) 3 ≡ edge_of U * u1 = shr_is (bits4 d e i (edge_of U * u1)) 3 ∙ place3 d e i (edge_of U * u1) hd he hi hq in
      let o : xor_w (u1 * u0) (edge_of U * u1) ≡ over_of U = bit_xor_sum (u1 * u0) (edge_of U * u1) hp hq ∙ over in
      let s : xor_w (xor_w (shr_w (bits4 a b (u1 * u0) 0) 2) (shr_w (bits4 d e i (edge_of U * u1)) 3)) (shr_w G 63) ≡ (over_of U + g) % 2 =
      ap₂ xor_w (ap₂ xor_w p q ∙ o) (shr_is G 63 ∙ eg) ∙ bit_xor_sum (over_of U) g (over_bit U) hg in
      let sl : (over_of U + g) % 2 < 2 = bit_lt (over_of U + g) in
      ap₂ xor_w (lowest_is (xor_w (xor_w (shr_w (high_of U f) 63) (shr_w (high_of U f) 62)) (shr_w Z 48)) ∙ in_odd) (bit_up 1 _ ((over_of U + g) % 2) (omega arith) sl s)
      ∙ two_bits (in_of U) ((over_of U + g) % 2) 0 0 (in_bit U) sl (omega arith) (omega arith)
    where
      over : (u1 * u0 + edge_of U * u1) % 2 ≡ over_of U
      over = unfold over_of in refl

pub nonzero_is : (a b n d : ℕ) → a < 2 → b < 2 → n < 2 → d < 2 → nonzero_w (bits4 a b n d) ≡ bits4 n n 0 0
unfolding nonzero_w
nonzero_is a b n d ha hb hn hd =
    let e : shr_w (shl_w (bits4 a b n d) 61) 63 ≡ n = field (bits4 a b n d) 61 2 1 refl ∙ place2 a b n d ha hb hn hd in
    ap₂ xor_w e (bit_up 1 (shr_w (shl_w (bits4 a b n d) 61) 63) n (omega arith) hn e) ∙ two_bits n n 0 0 hn hn (omega arith) (omega arith)

-- ---- the fraction moved up one place where P is odd
-- what changes in the fraction
abbrev pub changed : ℕ → ℕ → ℕ
changed W d = xor_w (xor_w (shl_w W 1) d) W

pub change_is : (W d P i j : ℕ) → i < 16 → j < 16 → change_w W d P i j ≡ and_w i j * 2 ^ 52 + changed W d % 2 ^ 52 * (P % 2)
unfolding change_w
change_is W d P i j hi hj =
    let D : ℕ = changed W d % 2 ^ 52 in
    let h_d : D < 2 ^ 52 = mod-lt (changed W d) (pow_pos 52) in
    ap₂ (λ (u w : ℕ). and_w (xor_w u (shl_w i 52)) (xor_w w (shl_w j 52))) (low_bits (changed W d) 12 52 refl) (spread_run P 12 52 refl)
    ∙ ride 4 52 D (P % 2 * (2 ^ 52 - 1)) i j h_d (omega arith) hi hj (omega arith)
    ∙ ap (λ (z : ℕ). and_w i j * 2 ^ 52 + z)
    (digit (λ p. and_w D (p * (2 ^ 52 - 1)) ≡ D * p) (and_zero D ∙ sym (mul-zero D)) (and_low D 52 ∙ mod-eq_of_lt h_d ∙ sym (mul-one D)) (P % 2) (bit_lt P))

-- W with the change, in the two cases
pub change_none : (W d : ℕ) → xor_w W (changed W d % 2 ^ 52 * 0) ≡ W
change_none W d = ap (xor_w W) (mul-zero (changed W d % 2 ^ 52)) ∙ xor_zero W

pub change_some : (W d : ℕ) → d < 2 → xor_w W (changed W d % 2 ^ 52 * 1) ≡ W / 2 ^ 52 * 2 ^ 52 + (2 * (W % 2 ^ 52) + d) % 2 ^ 52
change_some W d hd =
    let h : ℕ = W / 2 ^ 52 in
    let w : ℕ = W % 2 ^ 52 in
    let hw : w < 2 ^ 52 = mod-lt W (pow_pos 52) in
    let D : ℕ = changed W d % 2 ^ 52 in
    let h_d : D < 2 ^ 52 = mod-lt (changed W d) (pow_pos 52) in
    let e : D ≡ xor_w ((2 * w + d) % 2 ^ 52) w =
    xor_mod (xor_w (shl_w W 1) d) W ∙ ap (λ (z : ℕ). xor_w z w) (xor_mod (shl_w W 1) d ∙ ap₂ xor_w (up W) (mod-eq_of_lt (omega arith)) ∙ xor_packed (w % 2 ^ 51) 1 d hd ∙ moved w d hd) in
    let z : D * 1 ≡ 0 * 2 ^ 52 + D = omega arith in
    ap₂ xor_w (sym (split W 52)) z ∙ xor_block 52 h 0 w D hw h_d
    ∙ ap₂ (λ (u v : ℕ). u * 2 ^ 52 + v) (xor_zero h) (ap (xor_w w) (e ∙ xor_comm ((2 * w + d) % 2 ^ 52) w) ∙ xor_cancel w ((2 * w + d) % 2 ^ 52))
  where
    xor_mod : (a b : ℕ) → xor_w a b % 2 ^ 52 ≡ xor_w (a % 2 ^ 52) (b % 2 ^ 52)
    xor_mod a b = unfold xor_w in Bits.xor_mod a b 52

    kept : (W : ℕ) → W % 2 ^ 63 * 2 % 2 ^ 52 ≡ W % 2 ^ 52 % 2 ^ 51 * 2
    kept W = omega arith

    up : (W : ℕ) → shl_w W 1 % 2 ^ 52 ≡ W % 2 ^ 52 % 2 ^ 51 * 2
    up W = ap (λ (z : ℕ). z % 2 ^ 52) (shl_keeps 63 1 W refl) ∙ kept W

    moved : (w d : ℕ) → d < 2 → w % 2 ^ 51 * 2 + d ≡ (2 * w + d) % 2 ^ 52
    moved w d h = omega arith
