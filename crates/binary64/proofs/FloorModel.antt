-- Floor on the word itself, by the ranges of E. Between E = 1023 and 1074 it clears the k = 1075 - E fraction bits of the word, and adds 2^k to a negative one that
-- had a fraction.
-- Rests on Dropping.
use mathlib.Core.Path.{◌≡◌, sym, ap, ◌∙◌}
use mathlib.Core.Logic.{inl, inr}
use mathlib.Core.Bool.{cond}
use Prim.Native.Nat.{ℕ, zero, suc, ◌+◌, ◌-◌, ◌*◌, ◌/◌, ◌%◌, ◌^◌, ◌≤◌, ◌<◌, min}
use native.Mathlib.Nat.{mul-pos, zero-mul, eq-zero-or-pos}
use native.Mathlib.Omega.{arith}
use lib.Dec.{eqb}
use lib.Pow.{pow_pos}
use Rattle.bits.proofs.Digits.{digit}
use Rattle.binary64.specs.Number.{sign, expo, magnitude, signed}
use Rattle.binary64.specs.Whole.{whole_number}
use Rattle.binary64.specs.Floor.{whole_of, floor}
use Rattle.binary64.proofs.Cases.{if_lt, if_not_lt, if_le, if_not_le, if_eq, if_not_eq}
use Rattle.binary64.proofs.Dropping.{bit_times, fraction_dropped}

-- a number of units is zero where their count is
pub some_units : (v p : ℕ) → 0 < p → min (v * p) 1 ≡ min v 1
some_units zero p h = ap (λ (z : ℕ). min z 1) (zero-mul p)
some_units (suc v) p h = let m : 1 ≤ suc v * p = mul-pos (omega arith) h in omega arith

-- ---- over the operand: its ranges
module _ (a : ℕ) where
  pub floor_zero : expo a ≡ 0 → floor a ≡ signed (sign a) 0
  unfolding floor
  floor_zero h = if_eq (expo a) 0 _ _ h

  pub floor_large : 1075 ≤ expo a → floor a ≡ a
  unfolding floor
  floor_large h = if_not_eq (expo a) 0 _ _ (λ e. omega arith) ∙ if_le 1075 (expo a) _ _ h

  small : 1 ≤ expo a → expo a < 1023 → floor a ≡ cond (eqb (sign a) 0) 0 0xBFF0000000000000
  unfolding floor
  small o h = if_not_eq (expo a) 0 _ _ (λ e. omega arith) ∙ if_not_le 1075 (expo a) _ _ (omega arith) ∙ if_lt (expo a) 1023 _ _ h

  pub floor_small_plus : expo a < 1023 → sign a ≡ 0 → floor a ≡ 0
  floor_small_plus h s =
      elim (eq-zero-or-pos (expo a)) [
        | inl z ↦ floor_zero z ∙ ap (λ (s : ℕ). signed s 0) s
        | inr o ↦ small o h ∙ if_eq (sign a) 0 _ _ s
      ]

  pub floor_small_minus : 1 ≤ expo a → expo a < 1023 → (sign a ≡ 0 → ⊥) → floor a ≡ 0xBFF0000000000000
  floor_small_minus o h s = small o h ∙ if_not_eq (sign a) 0 _ _ s

  module _ (lo : 1023 ≤ expo a) (hi : expo a < 1075) where
    pub floor_between : floor a ≡ whole_number (sign a) (whole_of 1074 (sign a) (magnitude a))
    unfolding floor
    floor_between = if_not_eq (expo a) 0 _ _ (λ e. omega arith) ∙ if_not_le 1075 (expo a) _ _ hi ∙ if_not_lt (expo a) 1023 _ _ lo

    -- 2^k is added to a negative number that has a fraction
    pub floor_word : a < 2 ^ 64 → floor a ≡ (a / 2 ^ (1075 - expo a) + sign a * min (a % 2 ^ (1075 - expo a)) 1) * 2 ^ (1075 - expo a)
    floor_word ha =
        let k = 1075 - expo a in
        let raised : min (magnitude a % 2 ^ 1074) 1 ≡ min (a % 2 ^ k) 1 =
        ap (λ (r : ℕ). min r 1) (fraction_dropped a lo hi).rest ∙ some_units (a % 2 ^ k) (2 ^ (expo a - 1)) (pow_pos (expo a - 1)) in
        let up : whole_of 1074 (sign a) (magnitude a) ≡ magnitude a / 2 ^ 1074 + sign a * min (a % 2 ^ k) 1 =
        by_sign (sign a) (magnitude a / 2 ^ 1074) (min (magnitude a % 2 ^ 1074) 1) (omega arith) ∙ ap (λ (c : ℕ). magnitude a / 2 ^ 1074 + sign a * c) raised in
        floor_between ∙ ap (whole_number (sign a)) up
        ∙ sym ((fraction_dropped a lo hi).word (sign a * min (a % 2 ^ k) 1) (bit_times (sign a) (a % 2 ^ k) (omega arith)))
      where
        by_sign : (s q c : ℕ) → s < 2 → cond (eqb s 0) q (q + c) ≡ q + s * c
        by_sign s q c h = digit (λ s. cond (eqb s 0) q (q + c) ≡ q + s * c) (omega arith) (omega arith) s h
