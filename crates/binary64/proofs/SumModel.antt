-- The sum of ordered operands in terms of their aligned significands: X · 2^10 ± (the smaller's significand · 2^9, jammed by the distance of the exponents).
-- Where the distance is at most 9 nothing is lost; beyond it the jammed number keeps enough bits. Rests on Jam, Round and Encode.
use mathlib.Core.Path.{◌≡◌, sym, ap, ap₂, ◌∙◌, subst}
use mathlib.Core.Logic.{◌⊎◌, inl, inr}
use Prim.Native.Nat.{ℕ, suc, ◌+◌, ◌-◌, ◌*◌, ◌^◌, ◌≤◌, ◌<◌}
use native.Mathlib.Nat.{le_trans, le_of_eq, lt_of_lt_of_le, mul_assoc, mul_comm, mul-pos, mul-le-mul_right, mul-lt-mul_of_pos_right, mul-sub, add-mul, suc-add}
use native.Mathlib.Omega.{arith}
use lib.Pow.{pow_pos, pow-add, pow_mono}
use lib.Ieee.{size}
use lib.Ieee.Digits.{size-lt, size_reaches}
use Rattle.binary64.specs.inner.Steps.{round_ne, jam}
use Rattle.binary64.proofs.Cases.{lt_or_ge, size_gt}
use Rattle.binary64.proofs.Jam.{jam_pos, jam_le, jam_add, jam_sub, jam_exact}
use Rattle.binary64.proofs.Round.{round_scale}
use Rattle.binary64.proofs.Encode.{Placed, Stands, Top, jam_top, stands_exact}

-- ---- x · 2^y from x · 2^9 jammed at d bits
exact_at : (x d y : ℕ) → 0 < x → d ≤ 9 → Stands 52 (x * 2 ^ y) (jam d (x * 2 ^ 9)) (suc (d + y))
exact_at x d y x0 h =
    stands_exact 52 (x * 2 ^ y) (jam d (x * 2 ^ 9)) 10 (d + y) (suc (d + y)) (mul-pos x0 (pow_pos y)) (jam_pos d (x * 2 ^ 9) (mul-pos x0 (pow_pos 9))) eq (omega arith)
  where
    swap : (p q : ℕ) → x * p * q ≡ x * q * p
    swap p q = omega arith

    eq : x * 2 ^ y * 2 ^ 10 ≡ jam d (x * 2 ^ 9) * 2 ^ (d + y)
    eq =
        sym (ap (λ (z : ℕ). jam d (x * 2 ^ 9) * z) (pow-add 2 d y) ∙ sym (mul_assoc (jam d (x * 2 ^ 9)) (2 ^ d) (2 ^ y)) ∙ ap (λ (z : ℕ). z * 2 ^ y) (jam_exact d 9 x h) ∙ swap (2 ^ 10) (2 ^ y))

-- x's top bit at k
long_at : (x d y k : ℕ) → 2 ^ k ≤ x → x < 2 ^ suc k → 10 ≤ d → d + 51 ≤ k → Stands 52 (x * 2 ^ y) (jam d (x * 2 ^ 9)) (suc (d + y))
long_at x d y k lo hi d10 far = record { pos = jam_pos d (x * 2 ^ 9) (mul-pos (lt_of_lt_of_le (pow_pos k) lo) (pow_pos 9)); place = place }
  where
    place : (s : ℕ) → 2 ^ 63 ≤ jam d (x * 2 ^ 9) * 2 ^ s → jam d (x * 2 ^ 9) * 2 ^ s < 2 ^ 64 → Placed 52 (x * 2 ^ y) (jam d (x * 2 ^ 9)) s (suc (d + y))
    place s l h =
        let nl : 2 ^ (k + 9) ≤ x * 2 ^ 9 = le_trans (le_of_eq (pow-add 2 k 9)) (mul-le-mul_right (2 ^ 9) lo) in
        let nh : x * 2 ^ 9 < 2 ^ suc (k + 9) = lt_of_lt_of_le (mul-lt-mul_of_pos_right hi (pow_pos 9)) (le_of_eq (sym (pow-add 2 (suc k) 9) ∙ ap (λ (z : ℕ). 2 ^ z) (suc-add k 9))) in
        let T : Top (x * 2 ^ 9) d (k + 9) s = jam_top (x * 2 ^ 9) d (k + 9) s nl nh (omega arith) l h in
        let a = T.at in
        let e₁ : k + y - 52 ≡ k - 52 + y = omega arith in
        let e₂ : k + 9 - 52 ≡ k - 52 + 9 = omega arith in
        record {
          c = k + y;
          lo = le_trans (le_of_eq (pow-add 2 k y)) (mul-le-mul_right (2 ^ y) lo);
          hi = lt_of_lt_of_le (mul-lt-mul_of_pos_right hi (pow_pos y)) (le_of_eq (sym (pow-add 2 (suc k) y) ∙ ap (λ (z : ℕ). 2 ^ z) (suc-add k y)));
          at = omega arith;
          round = λ g.
              ap (round_ne (x * 2 ^ y)) e₁ ∙ round_scale x y (k - 52) ∙ sym (round_scale x 9 (k - 52)) ∙ ap (round_ne (x * 2 ^ 9)) (sym e₂) ∙ T.round;
        }

pub stands_sum : (x d y : ℕ) → 0 < x → (d ≤ 9) ⊎ (2 ^ (d + 51) ≤ x) → Stands 52 (x * 2 ^ y) (jam d (x * 2 ^ 9)) (suc (d + y))
stands_sum x d y x0 (inl h) = exact_at x d y x0 h
stands_sum x d y x0 (inr h) =
    elim (lt_or_ge 9 d) [
      | inr l ↦ exact_at x d y x0 l
      | inl l ↦
          let g : d + 51 < size x = size_gt x (d + 51) h in
          let k = size x - 1 in
          let ks : suc k ≡ size x = omega arith in
          long_at x d y k (size_reaches x k (omega arith)) (subst (λ (z : ℕ). x < 2 ^ z) (sym ks) (size-lt x)) l (omega arith)
    ]

-- ---- X the larger significand, Y the smaller, d exponents below, whose exponent is y + 1
module _ (X Y d y : ℕ) (lx : 2 ^ 52 ≤ X) (hy : Y < 2 ^ 53) (ord : Y ≤ X * 2 ^ d) where
  wide : 2 ^ (d + 52) ≤ X * 2 ^ d
  wide = le_trans (le_of_eq (pow-add 2 d 52 ∙ mul_comm (2 ^ d) (2 ^ 52))) (mul-le-mul_right (2 ^ d) lx)

  scaled : X * 2 ^ d * 2 ^ 9 ≡ X * 2 ^ 9 * 2 ^ d
  scaled = mul_assoc X (2 ^ d) (2 ^ 9) ∙ ap (λ (z : ℕ). X * z) (mul_comm (2 ^ d) (2 ^ 9)) ∙ sym (mul_assoc X (2 ^ 9) (2 ^ d))

  pub add_jam : jam d ((X * 2 ^ d + Y) * 2 ^ 9) ≡ X * 2 ^ 10 + jam d (Y * 2 ^ 9)
  add_jam =
      ap (jam d) (add-mul (X * 2 ^ d) Y (2 ^ 9) ∙ ap (λ (z : ℕ). z + Y * 2 ^ 9) scaled) ∙ jam_add d (X * 2 ^ 9) (Y * 2 ^ 9) ∙ last (jam d (Y * 2 ^ 9))
    where
      last : (j : ℕ) → 2 * (X * 2 ^ 9) + j ≡ X * 2 ^ 10 + j
      last j = omega arith

  pub add_exact : (X * 2 ^ d + Y) * 2 ^ y ≡ X * 2 ^ (d + y) + Y * 2 ^ y
  add_exact = add-mul (X * 2 ^ d) Y (2 ^ y) ∙ ap (λ (z : ℕ). z + Y * 2 ^ y) (mul_assoc X (2 ^ d) (2 ^ y) ∙ ap (λ (z : ℕ). X * z) (sym (pow-add 2 d y)))

  pub add_stands : Stands 52 (X * 2 ^ (d + y) + Y * 2 ^ y) (X * 2 ^ 10 + jam d (Y * 2 ^ 9)) (suc (d + y))
  add_stands =
      let w = wide in
      let p : 2 ^ (d + 51) ≤ 2 ^ (d + 52) = pow_mono (omega arith) in
      let big : 2 ^ (d + 51) ≤ X * 2 ^ d + Y = omega arith in
      let pos : 0 < X * 2 ^ d + Y = lt_of_lt_of_le (pow_pos (d + 51)) big in
      subst (λ (z : ℕ). Stands 52 (X * 2 ^ (d + y) + Y * 2 ^ y) z (suc (d + y))) add_jam
      (subst (λ (z : ℕ). Stands 52 z (jam d ((X * 2 ^ d + Y) * 2 ^ 9)) (suc (d + y))) add_exact (stands_sum (X * 2 ^ d + Y) d y pos (inr big)))

  scaled_sub : (X * 2 ^ d - Y) * 2 ^ 9 ≡ X * 2 ^ 9 * 2 ^ d - Y * 2 ^ 9
  scaled_sub = let m = scaled in omega arith

  pub sub_jam : jam d ((X * 2 ^ d - Y) * 2 ^ 9) ≡ X * 2 ^ 10 - jam d (Y * 2 ^ 9)
  sub_jam =
      let m = scaled in
      ap (jam d) scaled_sub ∙ jam_sub d (X * 2 ^ 9) (Y * 2 ^ 9) (omega arith) ∙ ap (λ (z : ℕ). z - jam d (Y * 2 ^ 9)) double
    where
      double : 2 * (X * 2 ^ 9) ≡ X * 2 ^ 10
      double = omega arith

  pub aligned_le : jam d (Y * 2 ^ 9) ≤ X * 2 ^ 10
  aligned_le =
      let m = scaled in
      le_trans (jam_le d (Y * 2 ^ 9) (X * 2 ^ 9) (omega arith)) (le_of_eq double)
    where
      double : 2 * (X * 2 ^ 9) ≡ X * 2 ^ 10
      double = omega arith

  pub sub_exact : (X * 2 ^ d - Y) * 2 ^ y ≡ X * 2 ^ (d + y) - Y * 2 ^ y
  sub_exact =
      mul_comm (X * 2 ^ d - Y) (2 ^ y) ∙ mul-sub (2 ^ y) (X * 2 ^ d) Y ∙ ap₂ (λ (u v : ℕ). u - v) (mul_comm (2 ^ y) (X * 2 ^ d)) (mul_comm (2 ^ y) Y)
      ∙ ap (λ (z : ℕ). z - Y * 2 ^ y) (mul_assoc X (2 ^ d) (2 ^ y) ∙ ap (λ (z : ℕ). X * z) (sym (pow-add 2 d y)))

  pub sub_stands : 0 < X * 2 ^ d - Y → Stands 52 (X * 2 ^ (d + y) - Y * 2 ^ y) (X * 2 ^ 10 - jam d (Y * 2 ^ 9)) (suc (d + y))
  sub_stands pos =
      subst (λ (z : ℕ). Stands 52 (X * 2 ^ (d + y) - Y * 2 ^ y) z (suc (d + y))) sub_jam
      (subst (λ (z : ℕ). Stands 52 z (jam d ((X * 2 ^ d - Y) * 2 ^ 9)) (suc (d + y))) sub_exact (stands_sum (X * 2 ^ d - Y) d y pos far))
    where
      far : (d ≤ 9) ⊎ (2 ^ (d + 51) ≤ X * 2 ^ d - Y)
      far =
          elim (lt_or_ge 9 d) [
            | inr l ↦ inl l
            | inl l ↦
                let w = wide in
                let p : 2 ^ (d + 52) ≡ 2 ^ (d + 51) * 2 = pow-add 2 d 52 ∙ halve (2 ^ d) ∙ ap (λ (z : ℕ). z * 2) (sym (pow-add 2 d 51)) in
                let q : 2 ^ 53 ≤ 2 ^ (d + 51) = pow_mono {i = 53} {j = d + 51} (omega arith) in
                inr (omega arith)
          ]
        where
          halve : (v : ℕ) → v * 2 ^ 52 ≡ v * 2 ^ 51 * 2
          halve v = omega arith

-- the larger alone
pub alone_stands : (X e : ℕ) → 0 < X → Stands 52 (X * 2 ^ e) (X * 2 ^ 10) (suc e)
alone_stands X e h =
    stands_exact 52 (X * 2 ^ e) (X * 2 ^ 10) 10 e (suc e) (mul-pos h (pow_pos e)) (mul-pos h (pow_pos 10)) (swap (2 ^ e) (2 ^ 10)) (omega arith)
  where
    swap : (p q : ℕ) → X * p * q ≡ X * q * p
    swap p q = omega arith
