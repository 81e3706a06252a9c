-- Floor, truncation and nearest are IEEE 754's roundToIntegralTowardNegative, -TowardZero and -TiesToEven: the three theorems of specs/Ieee on them, as instances
-- of one over the rule that chooses the whole number. Rests on WholeMeaning and FloorMeaning, and on Ieee for how the library reads an operand and writes a rounded number.
use mathlib.Core.Path.{◌≡◌, sym, ap, ◌∙◌}
use mathlib.Core.Logic.{inl, inr}
use mathlib.Core.Bool.{Bool}
use Prim.Native.Nat.{ℕ, zero, suc, ◌+◌, ◌*◌, ◌^◌, ◌≤◌, ◌<◌}
use native.Mathlib.Nat.{mul-one, zero-mul}
use native.Mathlib.Omega.{arith}
use lib.Pow.{pow_pos}
use lib.Ieee.{Float, nan, inf, fin, binary64, low, up, down, round, to_bits, of_bits}
use lib.Ieee.Exact.{HasValue}
use lib.Ieee.Fits.{down_pos}
use lib.Ieee.Scale.{round_same}
use Rattle.binary64.specs.Number.{sign, expo, frac, magnitude_of, magnitude, signed}
use Rattle.binary64.specs.Rounding.{mag_bits}
use Rattle.binary64.specs.Whole.{whole_number}
use Rattle.binary64.specs.Truncate.{truncate}
use Rattle.binary64.specs.Nearest.{nearest}
use Rattle.binary64.specs.Ieee.{ZeroOrNormal, ZeroOrLarge, round_to_integral, toward_negative, toward_zero, ties_to_even, FloorIsIeee, TruncateIsIeee, NearestIsIeee}
use Rattle.binary64.proofs.Cases.{lt_or_ge}
use Rattle.binary64.proofs.Round.{bits_exact}
use Rattle.binary64.proofs.WholeMeaning.{multiple_ge, WholeRule, toward_zero_is, ties_to_even_is, rounded_by, rounded_large, rounded_below, rule_large}
use Rattle.binary64.proofs.FloorMeaning.{toward_negative_is, floor_rounded}
use Rattle.binary64.proofs.Ieee.{bit, negative, value, negative_is, round_52}

-- ---- a normal number rounds to itself
pub normal_word : (a : ℕ) → 1 ≤ expo a → expo a ≤ 2046 → signed (sign a) (mag_bits 52 (magnitude a)) ≡ a
unfolding magnitude
normal_word a lo hi = ap (signed (sign a)) (go (expo a) (frac a) lo hi (omega arith)) ∙ fields_join a
  where
    go : (E F : ℕ) → 1 ≤ E → E ≤ 2046 → F < 2 ^ 52 → mag_bits 52 (magnitude_of E F) ≡ E * 2 ^ 52 + F
    go zero F l h f = absurd (omega arith)
    go (suc e) F l h f = bits_exact (2 ^ 52 + F) e (omega arith) (omega arith) ∙ omega arith

    fields_join : (a : ℕ) → signed (sign a) (expo a * 2 ^ 52 + frac a) ≡ a
    fields_join a = omega arith

-- ---- a whole number is zero or not below 2^-1022
zero_or_large : (n : ℕ) → ZeroOrLarge 52 (n * 2 ^ 1074)
zero_or_large zero = inl (zero-mul (2 ^ 1074))
zero_or_large (suc n) = inr (multiple_ge (suc n) 1074 (omega arith) (omega arith))

-- ---- one rule
module _ (rule : Bool → ℕ → ℕ → ℕ) (R : (s : Bool) → WholeRule (rule s)) where
  -- rounding to an integral value sees only the operand's value, over any denominator
  integral : (x : Float) (s : Bool) (M : ℕ) → HasValue x s M (2 ^ low binary64)
      → round_to_integral rule x ≡ round binary64 s (rule s M (2 ^ 1074) * 2 ^ 1074) (2 ^ low binary64)
  integral nan s M h = absurd h
  integral (inf t) s M h = absurd h
  integral (fin t m e) s M h =
      let n = rule s M (2 ^ 1074) in
      ap (λ (i : Bool). round binary64 i (rule i (m * up e) (down e)) 1) h.0 ∙ ap (λ (x : ℕ). round binary64 s x 1) ((R s).same (m * up e) (down e) M (2 ^ 1074) (down_pos e) (pow_pos 1074) h.1)
      ∙ round_same binary64 s n 1 (n * 2 ^ 1074) (2 ^ 1074) (omega arith) (pow_pos 1074) (sym (mul-one (n * 2 ^ 1074)))

  -- in document 01's terms, E from 1075 on included
  integral_word : (a : ℕ) → a < 2 ^ 64 → ZeroOrNormal a
      → to_bits binary64 (round_to_integral rule (of_bits binary64 a)) ≡ whole_number (sign a) (rule (negative a) (magnitude a) (2 ^ 1074))
  integral_word a ha z =
      let M = rule (negative a) (magnitude a) (2 ^ 1074) * 2 ^ 1074 in
      ap (to_bits binary64) (integral (of_bits binary64 a) (negative a) (magnitude a) (value a z))
      ∙ round_52 (negative a) M (zero_or_large (rule (negative a) (magnitude a) (2 ^ 1074)))
      ∙ ap (λ (s : ℕ). signed s (mag_bits 52 M)) (sym (negative_is a ha))

  pub rounded_is_ieee : (a : ℕ) → a < 2 ^ 64 → ZeroOrNormal a → rounded_by (rule (negative a)) a ≡ to_bits binary64 (round_to_integral rule (of_bits binary64 a))
  rounded_is_ieee a ha z =
      elim (lt_or_ge (expo a) 1075) [
        | inl l ↦ rounded_below (rule (negative a)) a l
        | inr h ↦
            rounded_large (rule (negative a)) a h
            ∙ sym (ap (λ (m : ℕ). signed (sign a) (mag_bits 52 m)) (rule_large (rule (negative a)) (R (negative a)) a h) ∙ normal_word a (omega arith) (normal z h))
      ]
      ∙ sym (integral_word a ha z)
    where
      normal : ZeroOrNormal a → 1075 ≤ expo a → expo a ≤ 2046
      normal (inl z) h = absurd (omega (arith, z.0))
      normal (inr z) h = z.1

pub floor_is_ieee : FloorIsIeee
unfolding bit
floor_is_ieee a ha z = floor_rounded a (negative a) (negative_is a ha) ∙ rounded_is_ieee toward_negative toward_negative_is a ha z

pub truncate_is_ieee : TruncateIsIeee
unfolding truncate
truncate_is_ieee = rounded_is_ieee toward_zero toward_zero_is

pub nearest_is_ieee : NearestIsIeee
unfolding nearest
nearest_is_ieee = rounded_is_ieee ties_to_even ties_to_even_is
