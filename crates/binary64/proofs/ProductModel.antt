-- The product in terms of the jammed product of the significands: P = m_a · m_b has its top bit at 104 or 105, and 51 of its bits are jammed.
-- Rests on Jam, Round and Encode.
use mathlib.Core.Path.{◌≡◌, refl, sym, ap, ◌∙◌}
use mathlib.Core.Logic.{inl, inr}
use Prim.Native.Nat.{ℕ, zero, suc, ◌+◌, ◌-◌, ◌*◌, ◌^◌, ◌≤◌, ◌<◌}
use native.Mathlib.Nat.{le_trans, le_of_eq, lt_of_lt_of_le, lt_of_le_of_lt, mul-le-mul, mul-le-mul_left, mul-le-mul_right, mul-lt-mul_of_pos_right, mul-mul-mul_comm, mul-zero, zero-mul, suc-add, mod-lt}
use native.Mathlib.Omega.{arith}
use lib.Pow.{pow_pos, pow-add}
use Rattle.binary64.specs.Number.{expo, frac, magnitude_of, magnitude}
use Rattle.binary64.specs.Rounding.{mag_bits}
use Rattle.binary64.specs.inner.Steps.{round_ne, jam, encoded}
use Rattle.binary64.proofs.Cases.{lt_or_ge}
use Rattle.binary64.proofs.Jam.{jam_pos, jam_lt}
use Rattle.binary64.proofs.Round.{bits_zero, bits_under, round_scale}
use Rattle.binary64.proofs.Encode.{Placed, Stands, Top, jam_top, stands_bits}

-- ---- M = P · 2^x, P's top bit at 104 + t
module _ (P x t : ℕ) (ht : t ≤ 1) (lo : 2 ^ (104 + t) ≤ P) (hi : P < 2 ^ suc (104 + t)) where
  M_lo : 2 ^ (104 + t + x) ≤ P * 2 ^ x
  M_lo = le_trans (le_of_eq (pow-add 2 (104 + t) x)) (mul-le-mul_right (2 ^ x) lo)

  M_hi : P * 2 ^ x < 2 ^ suc (104 + t + x)
  M_hi = lt_of_lt_of_le (mul-lt-mul_of_pos_right hi (pow_pos x)) (le_of_eq (sym (pow-add 2 (suc (104 + t)) x) ∙ ap (λ (z : ℕ). 2 ^ z) (suc-add (104 + t) x)))

  scaled_round : round_ne (P * 2 ^ x) (104 + t + x - 52) ≡ round_ne P (52 + t)
  scaled_round =
      let e : 104 + t + x - 52 ≡ 52 + t + x = omega arith in
      ap (round_ne (P * 2 ^ x)) e ∙ round_scale P x (52 + t)

  -- by the place of the top bit alone: t + x + 2 is the exponents' sum with P's carry
  pub product_tiny_at : t + x < 1022 → mag_bits 1126 (P * 2 ^ x) ≡ 0
  product_tiny_at h = bits_under 1126 (P * 2 ^ x) (104 + t + x) (omega arith) M_lo M_hi (omega arith)

  stands_at : 1013 ≤ x → Stands 1126 (P * 2 ^ x) (jam 51 P) (x - 1013)
  stands_at h = record { pos = jam_pos 51 P (lt_of_lt_of_le (pow_pos (104 + t)) lo); place = place }
    where
      place : (s : ℕ) → 2 ^ 63 ≤ jam 51 P * 2 ^ s → jam 51 P * 2 ^ s < 2 ^ 64 → Placed 1126 (P * 2 ^ x) (jam 51 P) s (x - 1013)
      place s l g =
          let T : Top P 51 (104 + t) s = jam_top P 51 (104 + t) s lo hi (omega arith) l g in
          let a = T.at in
          let e : 104 + t - 52 ≡ 52 + t = omega arith in
          record {
            c = 104 + t + x;
            lo = M_lo;
            hi = M_hi;
            at = omega arith;
            round = λ k. scaled_round ∙ ap (round_ne P) (sym e) ∙ T.round;
          }

module _ (P x : ℕ) (lo : 2 ^ 104 ≤ P) (hi : P < 2 ^ 106) where
  pub product_under : x < 1013 → mag_bits 1126 (P * 2 ^ x) ≡ 0
  product_under h =
      elim (lt_or_ge P (2 ^ 105)) [
        | inl l ↦ product_tiny_at P x 0 (omega arith) lo l (omega arith)
        | inr g ↦ product_tiny_at P x 1 (omega arith) g hi (omega arith)
      ]

  pub product_stands : 1013 ≤ x → Stands 1126 (P * 2 ^ x) (jam 51 P) (x - 1013)
  product_stands h =
      elim (lt_or_ge P (2 ^ 105)) [
        | inl l ↦ stands_at P x 0 (omega arith) lo l h
        | inr g ↦ stands_at P x 1 (omega arith) g hi h
      ]

-- the product of two significands
pub significands_lo : (F G : ℕ) → 2 ^ 104 ≤ (2 ^ 52 + F) * (2 ^ 52 + G)
significands_lo F G =
    let lx : 2 ^ 52 ≤ 2 ^ 52 + F = omega arith in
    let ly : 2 ^ 52 ≤ 2 ^ 52 + G = omega arith in
    mul-le-mul lx ly

pub significands_hi : (F G : ℕ) → F < 2 ^ 52 → G < 2 ^ 52 → (2 ^ 52 + F) * (2 ^ 52 + G) < 2 ^ 106
significands_hi F G f g =
    let hx : 2 ^ 52 + F < 2 ^ 53 = omega arith in
    let hy : 2 ^ 52 + G ≤ 2 ^ 53 = omega arith in
    lt_of_le_of_lt (mul-le-mul_left (2 ^ 52 + F) hy) (mul-lt-mul_of_pos_right hx (pow_pos 53))

-- ---- over the fields of the operands
module _ (xa xb F G : ℕ) (f : F < 2 ^ 52) (g : G < 2 ^ 52) where
  regroup : magnitude_of (suc xa) F * magnitude_of (suc xb) G ≡ (2 ^ 52 + F) * (2 ^ 52 + G) * 2 ^ (xa + xb)
  regroup = sym (ap (λ (z : ℕ). (2 ^ 52 + F) * (2 ^ 52 + G) * z) (pow-add 2 xa xb) ∙ mul-mul-mul_comm (2 ^ 52 + F) (2 ^ 52 + G) (2 ^ xa) (2 ^ xb))

  fields_under : suc xa + suc xb < 1015 → mag_bits 1126 (magnitude_of (suc xa) F * magnitude_of (suc xb) G) ≡ 0
  fields_under h =
      ap (mag_bits 1126) regroup ∙ product_under ((2 ^ 52 + F) * (2 ^ 52 + G)) (xa + xb) (significands_lo F G) (significands_hi F G f g) (omega arith)

  fields_over : 1015 ≤ suc xa + suc xb
      → mag_bits 1126 (magnitude_of (suc xa) F * magnitude_of (suc xb) G) ≡ encoded (jam 51 ((2 ^ 52 + F) * (2 ^ 52 + G))) (suc xa + suc xb - 1015)
  fields_over h =
      let x : xa + xb - 1013 ≡ suc xa + suc xb - 1015 = omega arith in
      let z : jam 51 ((2 ^ 52 + F) * (2 ^ 52 + G)) < 2 ^ 56 = jam_lt ((2 ^ 52 + F) * (2 ^ 52 + G)) 51 55 (significands_hi F G f g) in
      ap (mag_bits 1126) regroup
      ∙ stands_bits 1126 ((2 ^ 52 + F) * (2 ^ 52 + G) * 2 ^ (xa + xb)) (jam 51 ((2 ^ 52 + F) * (2 ^ 52 + G))) (xa + xb - 1013) (omega arith) (omega arith)
      (product_stands ((2 ^ 52 + F) * (2 ^ 52 + G)) (xa + xb) (significands_lo F G) (significands_hi F G f g) (omega arith))
      ∙ ap (encoded (jam 51 ((2 ^ 52 + F) * (2 ^ 52 + G)))) x

-- ---- over the operands: a zero; both exponents small; the rest
pub product_zero_l : (a b : ℕ) → expo a ≡ 0 → mag_bits 1126 (magnitude a * magnitude b) ≡ 0
unfolding magnitude
product_zero_l a b h = ap (λ (E : ℕ). mag_bits 1126 (magnitude_of E (frac a) * magnitude b)) h ∙ ap (mag_bits 1126) (zero-mul (magnitude b)) ∙ bits_zero 1126

pub product_zero_r : (a b : ℕ) → expo b ≡ 0 → mag_bits 1126 (magnitude a * magnitude b) ≡ 0
unfolding magnitude
product_zero_r a b h = ap (λ (E : ℕ). mag_bits 1126 (magnitude a * magnitude_of E (frac b))) h ∙ ap (mag_bits 1126) (mul-zero (magnitude a)) ∙ bits_zero 1126

pub frac_lt : (a : ℕ) → frac a < 2 ^ 52
frac_lt a = mod-lt a (pow_pos 52)

pub product_tiny : (a b : ℕ) → (expo a ≡ 0 → ⊥) → (expo b ≡ 0 → ⊥) → expo a + expo b < 1015 → mag_bits 1126 (magnitude a * magnitude b) ≡ 0
unfolding magnitude
product_tiny a b na nb h = go (expo a) (expo b) na nb h
  where
    go : (ea eb : ℕ) → (ea ≡ 0 → ⊥) → (eb ≡ 0 → ⊥) → ea + eb < 1015 → mag_bits 1126 (magnitude_of ea (frac a) * magnitude_of eb (frac b)) ≡ 0
    go zero eb na nb h = absurd (na refl)
    go (suc xa) zero na nb h = absurd (nb refl)
    go (suc xa) (suc xb) na nb h = fields_under xa xb (frac a) (frac b) (frac_lt a) (frac_lt b) h

pub product_encoded : (a b : ℕ) → (expo a ≡ 0 → ⊥) → (expo b ≡ 0 → ⊥) → 1015 ≤ expo a + expo b
    → mag_bits 1126 (magnitude a * magnitude b) ≡ encoded (jam 51 ((2 ^ 52 + frac a) * (2 ^ 52 + frac b))) (expo a + expo b - 1015)
unfolding magnitude
product_encoded a b na nb h = go (expo a) (expo b) na nb h
  where
    go : (ea eb : ℕ) → (ea ≡ 0 → ⊥) → (eb ≡ 0 → ⊥) → 1015 ≤ ea + eb
        → mag_bits 1126 (magnitude_of ea (frac a) * magnitude_of eb (frac b)) ≡ encoded (jam 51 ((2 ^ 52 + frac a) * (2 ^ 52 + frac b))) (ea + eb - 1015)
    go zero eb na nb h = absurd (na refl)
    go (suc xa) zero na nb h = absurd (nb refl)
    go (suc xa) (suc xb) na nb h = fields_over xa xb (frac a) (frac b) (frac_lt a) (frac_lt b) h
