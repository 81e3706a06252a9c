-- The product's bits 62..0 as the definition has them, from p = m_x · m_y with its top bit at 104 + b and the exponents.
-- Rests on binary64's Round.
use mathlib.Core.Path.{◌≡◌, sym, ap, ap₂, ◌∙◌}
use Prim.Native.Nat.{ℕ, suc, ◌+◌, ◌-◌, ◌*◌, ◌^◌, ◌≤◌, ◌<◌}
use native.Mathlib.Nat.{le_trans, le_of_eq, lt_of_lt_of_le, mul-le-mul_right, mul-lt-mul_of_pos_right, mul-mul-mul_comm, mul-zero, zero-mul, suc-add}
use native.Mathlib.Omega.{arith}
use lib.Pow.{pow_pos, pow-add}
use Rattle.binary64.specs.Number.{magnitude_of}
use Rattle.binary64.specs.Rounding.{mag_bits}
use Rattle.binary64.specs.inner.Steps.{round_ne, packed}
use Rattle.binary64.proofs.Round.{bits_zero, bits_under, bits_over, round_scale}

-- ---- a zero among the operands
pub zero_left : (E F G : ℕ) → mag_bits 1126 (magnitude_of 0 F * magnitude_of E G) ≡ 0
zero_left E F G = ap (mag_bits 1126) (zero-mul (magnitude_of E G)) ∙ bits_zero 1126

pub zero_right : (E F G : ℕ) → mag_bits 1126 (magnitude_of E F * magnitude_of 0 G) ≡ 0
zero_right E F G = ap (mag_bits 1126) (mul-zero (magnitude_of E F)) ∙ bits_zero 1126

-- ---- exponents xa + 1 and xb + 1
module _ (p b xa xb : ℕ) (lo : 2 ^ (104 + b) ≤ p) (hi : p < 2 ^ suc (104 + b)) where
  M_lo : 2 ^ (104 + b + (xa + xb)) ≤ p * 2 ^ (xa + xb)
  M_lo = le_trans (le_of_eq (pow-add 2 (104 + b) (xa + xb))) (mul-le-mul_right (2 ^ (xa + xb)) lo)

  M_hi : p * 2 ^ (xa + xb) < 2 ^ suc (104 + b + (xa + xb))
  M_hi =
      lt_of_lt_of_le (mul-lt-mul_of_pos_right hi (pow_pos (xa + xb)))
      (le_of_eq (sym (pow-add 2 (suc (104 + b)) (xa + xb)) ∙ ap (λ (z : ℕ). 2 ^ z) (suc-add (104 + b) (xa + xb))))

  pub under : suc xa + suc xb + b < 1024 → mag_bits 1126 (p * 2 ^ (xa + xb)) ≡ 0
  under h = bits_under 1126 (p * 2 ^ (xa + xb)) (104 + b + (xa + xb)) (omega arith) M_lo M_hi (omega arith)

  pub over : 1024 ≤ suc xa + suc xb + b → mag_bits 1126 (p * 2 ^ (xa + xb)) ≡ packed (suc xa + suc xb + b - 1024) (round_ne p (52 + b))
  over h =
      let c = 104 + b + (xa + xb) in
      let e₁ : c - 1126 ≡ suc xa + suc xb + b - 1024 = omega arith in
      let e₂ : c - 52 ≡ 52 + b + (xa + xb) = omega arith in
      bits_over 1126 (p * 2 ^ (xa + xb)) c (omega arith) M_lo M_hi (omega arith)
      ∙ ap₂ packed e₁ (ap (round_ne (p * 2 ^ (xa + xb))) e₂ ∙ round_scale p (xa + xb) (52 + b))

pub regroup : (F G xa xb : ℕ) → (2 ^ 52 + F) * (2 ^ 52 + G) * 2 ^ (xa + xb) ≡ magnitude_of (suc xa) F * magnitude_of (suc xb) G
regroup F G xa xb =
    ap (λ (z : ℕ). (2 ^ 52 + F) * (2 ^ 52 + G) * z) (pow-add 2 xa xb) ∙ mul-mul-mul_comm (2 ^ 52 + F) (2 ^ 52 + G) (2 ^ xa) (2 ^ xb)
