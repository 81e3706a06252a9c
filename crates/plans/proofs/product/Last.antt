-- The product's tail against the definition: where S + C and low hold q = m_x · m_y - 1 and the exponents, a word that is as Ended says is the product.
-- Rests on Ended, Rounding (q's bits rounded), Gap (where q's top bit stands) and Bits (the definition's bits).
use mathlib.Core.Path.{◌≡◌, refl, sym, ap, ap₂, ◌∙◌, subst}
use mathlib.Core.Logic.{inl, inr}
use mathlib.Core.Bool.{cond}
use Prim.Native.Nat.{ℕ, zero, suc, ◌+◌, ◌-◌, ◌*◌, ◌/◌, ◌%◌, ◌^◌, ◌≤◌, ◌<◌, min}
use native.Mathlib.Nat.{add_assoc, one-mul, zero-mul, mul-zero, eq-or-lt_of_le}
use native.Mathlib.Omega.{arith}
use lib.Dec.{ltb}
use Rattle.bits.proofs.Digits.{digit, bit_lt}
use Rattle.binary64.specs.Number.{expo, frac, signed, magnitude_of, magnitude}
use Rattle.binary64.specs.Rounding.{mag_bits}
use Rattle.binary64.specs.Product.{product}
use Rattle.binary64.specs.inner.Steps.{round_ne, packed}
use Rattle.binary64.proofs.Cases.{lt_or_ge, if_lt, if_not_lt}
use Rattle.binary64.proofs.Round.{closest_up, closest_down}
use Rattle.plans.proofs.Lanes.{is_zero, not_zero}
use Rattle.plans.proofs.product.Operands.{signif}
use Rattle.plans.proofs.product.High.{product_ge, product_lt}
use Rattle.plans.proofs.product.Ended.{Ended, carry_in, rest_ones, carry_of, last_of, both_nonzero, sign_of}
use Rattle.plans.proofs.product.Rounding.{round_one, round_zero}
use Rattle.plans.proofs.product.Gap.{product_not}
use Rattle.plans.proofs.product.Bits.{zero_left, zero_right, under, over, regroup}

-- ---- where the top bit of p stands
record Top (p b : ℕ) : Type 0 where
  lo : 2 ^ (104 + b) ≤ p
  hi : p < 2 ^ suc (104 + b)

top : (q : ℕ) → 2 ^ 104 ≤ q + 1 → q + 1 < 2 ^ 106 → (q + 1 ≡ 2 ^ 105 → ⊥) → Top (q + 1) (q / 2 ^ 105)
top q lo hi not =
    elim (lt_or_ge (q + 1) (2 ^ 105)) [
      | inl l ↦ let e : 0 ≡ q / 2 ^ 105 = omega arith in subst (Top (q + 1)) e (record { lo = lo; hi = l })
      | inr g ↦
          elim (eq-or-lt_of_le g) [
            | inl same ↦ absurd (not (sym same))
            | inr l ↦ let e : 1 ≡ q / 2 ^ 105 = omega arith in subst (Top (q + 1)) e (record { lo = g; hi = hi })
          ]
    ]

-- rounded, it has 53 bits or is 2^53
record Kept (n : ℕ) : Type 0 where
  ge : 2 ^ 52 ≤ n
  le : n ≤ 2 ^ 53

kept : (p b : ℕ) → b < 2 → Top p b → Kept (round_ne p (52 + b))
unfolding round_ne
kept p =
    digit (λ b. Top p b → Kept (round_ne p (52 + b)))
    (λ t. let l = closest_down p (2 ^ 52) in let u = closest_up p (2 ^ 52) in let lo = t.lo in let hi = t.hi in record { ge = omega arith; le = omega arith })
    (λ t. let l = closest_down p (2 ^ 53) in let u = closest_up p (2 ^ 53) in let lo = t.lo in let hi = t.hi in record { ge = omega arith; le = omega arith })

-- ---- bits 62..0 by T, one more than the exponents' sum with b, and by the rounded significand n
abbrev bits_of : ℕ → ℕ → ℕ
bits_of T n = cond (ltb T 1025) 0 (packed (T - 1025) n)

beyond_bits : (T n : ℕ) → 3071 ≤ T → 2 ^ 52 ≤ n → 2047 * 2 ^ 52 ≡ packed (T - 1025) n
beyond_bits T n h l = omega arith

one_bits : (T k n : ℕ) → 1025 ≤ T → T ≤ 3070 → n ≡ 2 ^ 52 + k → n ≤ 2 ^ 53 → (T - 1024) * 2 ^ 52 + k ≡ packed (T - 1025) n
one_bits T k n lo hi e l = omega arith

zero_bits : (T k e n : ℕ) → 1025 ≤ T → T ≤ 3070 → n ≡ 2 * k + e → e < 2 → 2 ^ 52 ≤ n → n ≤ 2 ^ 53
    → (T - 1024 + k / 2 ^ 52) * 2 ^ 52 + (2 * (k % 2 ^ 52) + e) % 2 ^ 52 ≡ packed (T - 1025) n
zero_bits T k e n lo hi h he l u = halves (k / 2 ^ 52) (k % 2 ^ 52) (omega arith) (omega arith)
  where
    halves : (i j : ℕ) → n ≡ 2 * (i * 2 ^ 52 + j) + e → j < 2 ^ 52 → (T - 1024 + i) * 2 ^ 52 + (2 * j + e) % 2 ^ 52 ≡ packed (T - 1025) n
    halves i j h hj = omega arith

-- ---- p = q + 1 rounded as the plan does it: f is q from place 53 on, without the bit b
module _ (q f : ℕ) where
  parts : (h l : ℕ) → q / 2 ^ 53 ≡ h → q % 2 ^ 53 ≡ l → q ≡ (4 * h + 2 * (l / 2 ^ 52) + l / 2 ^ 51 % 2) * 2 ^ 51 + l % 2 ^ 51
  parts h l i j = omega arith

  rounded_one : q / 2 ^ 53 ≡ 2 ^ 52 + f → round_ne (q + 1) 53 ≡ 2 ^ 52 + (f + carry_of 1 (q % 2 ^ 53) f)
  rounded_one e =
      let l = q % 2 ^ 53 in
      let even : (2 ^ 52 + f) % 2 ≡ f % 2 = omega arith in
      round_one q (2 ^ 52 + f) (l / 2 ^ 52) (l / 2 ^ 51 % 2) (l % 2 ^ 51) (omega arith) (omega arith) (omega arith) (parts (2 ^ 52 + f) l e refl)
      ∙ ap (λ (h : ℕ). 2 ^ 52 + f + carry_in 1 (rest_ones l) (l / 2 ^ 52) (l / 2 ^ 51 % 2) h) even ∙ add_assoc (2 ^ 52) f (carry_of 1 l f)

  rounded_zero : q / 2 ^ 53 ≡ f → round_ne (q + 1) 52 ≡ 2 * (f + carry_of 0 (q % 2 ^ 53) f) + last_of (q % 2 ^ 53)
  rounded_zero e =
      let l = q % 2 ^ 53 in
      round_zero q f (l / 2 ^ 52) (l / 2 ^ 51 % 2) (l % 2 ^ 51) (omega arith) (omega arith) (omega arith) (parts f l e refl)

-- ---- the word by T and the rounded significand
abbrev chosen : ℕ → ℕ → ℕ → ℕ
chosen x y m = signed (sign_of x y) (both_nonzero x y * m)

module _ (x y q T f w : ℕ) where
  -- what is known of b
  record At (b : ℕ) : Type 0 where
    stands : Top (q + 1) b
    high : q / 2 ^ 53 ≡ b * 2 ^ 52 + f
    ended : Ended x y T f (q % 2 ^ 53) b w

  within : (b : ℕ) → b < 2 → 1025 ≤ T → T ≤ 3070 → At b → w ≡ chosen x y (packed (T - 1025) (round_ne (q + 1) (52 + b)))
  within b hb lo hi =
      let l = q % 2 ^ 53 in
      digit (λ b. At b → w ≡ chosen x y (packed (T - 1025) (round_ne (q + 1) (52 + b))))
      (λ a.
      let k = kept (q + 1) 0 (omega arith) a.stands in
      a.ended.within_zero refl lo hi
      ∙ ap (chosen x y) (zero_bits T (f + carry_of 0 l f) (last_of l) (round_ne (q + 1) 52) lo hi (rounded_zero q f (a.high ∙ omega arith)) (bit_lt _) k.ge k.le))
      (λ a.
      let k = kept (q + 1) 1 (omega arith) a.stands in
      a.ended.within_one refl lo hi ∙ ap (chosen x y) (one_bits T (f + carry_of 1 l f) (round_ne (q + 1) 53) lo hi (rounded_one q f (a.high ∙ omega arith)) k.le))
      b hb

  any : (b : ℕ) → b < 2 → At b → w ≡ chosen x y (bits_of T (round_ne (q + 1) (52 + b)))
  any b hb a =
      let n = round_ne (q + 1) (52 + b) in
      let m = packed (T - 1025) n in
      elim (lt_or_ge T 1025) [
        | inl u ↦ a.ended.below (omega arith) ∙ ap (signed (sign_of x y)) (sym (mul-zero (both_nonzero x y))) ∙ ap (chosen x y) (sym (if_lt T 1025 0 m u))
        | inr lo ↦
            elim (lt_or_ge T 3071) [
              | inl hi ↦ within b hb lo (omega arith) a ∙ ap (chosen x y) (sym (if_not_lt T 1025 0 m lo))
              | inr hi ↦ a.ended.beyond hi ∙ ap (chosen x y) (beyond_bits T n hi (kept (q + 1) b hb a.stands).ge ∙ sym (if_not_lt T 1025 0 m lo))
            ]
      ]

-- ---- the definition's bits
defined : (p b xa xb T : ℕ) → Top p b → T ≡ suc xa + suc xb + 1 + b → bits_of T (round_ne p (52 + b)) ≡ mag_bits 1126 (p * 2 ^ (xa + xb))
defined p b xa xb T t e =
    let n = round_ne p (52 + b) in
    elim (lt_or_ge T 1025) [
      | inl u ↦ if_lt T 1025 0 (packed (T - 1025) n) u ∙ sym (under p b xa xb t.lo t.hi (omega arith))
      | inr l ↦
          let i : T - 1025 ≡ suc xa + suc xb + b - 1024 = omega arith in
          if_not_lt T 1025 0 (packed (T - 1025) n) l ∙ ap (λ (z : ℕ). packed z n) i ∙ sym (over p b xa xb t.lo t.hi (omega arith))
    ]

none : (n m : ℕ) → n ≡ 0 → n * m ≡ 0
none n m e = ap (λ (z : ℕ). z * m) e ∙ zero-mul m

by_zeros : (p b T E H F G : ℕ) → p ≡ (2 ^ 52 + F) * (2 ^ 52 + G) → Top p b → T ≡ E + H + 1 + b
    → min (1 - is_zero E) (1 - is_zero H) * bits_of T (round_ne p (52 + b)) ≡ mag_bits 1126 (magnitude_of E F * magnitude_of H G)
by_zeros p b T zero H F G ep t e = none (min (1 - is_zero 0) (1 - is_zero H)) (bits_of T (round_ne p (52 + b))) (omega arith) ∙ sym (zero_left H F G)
by_zeros p b T (suc xa) zero F G ep t e = none (min (1 - is_zero (suc xa)) (1 - is_zero 0)) (bits_of T (round_ne p (52 + b))) (omega arith) ∙ sym (zero_right (suc xa) F G)
by_zeros p b T (suc xa) (suc xb) F G ep t e =
    ap₂ (λ (i j : ℕ). min (1 - i) (1 - j) * bits_of T (round_ne p (52 + b))) (not_zero (suc xa) (omega arith)) (not_zero (suc xb) (omega arith))
    ∙ one-mul (bits_of T (round_ne p (52 + b))) ∙ defined p b xa xb T t e ∙ ap (λ (z : ℕ). mag_bits 1126 (z * 2 ^ (xa + xb))) ep ∙ ap (mag_bits 1126) (regroup F G xa xb)

-- ---- over the operands
abbrev pub less_one : ℕ → ℕ → ℕ
less_one x y = signif x * signif y - 1

abbrev pub top_bit : ℕ → ℕ → ℕ
top_bit x y = less_one x y / 2 ^ 105

pub top_bit_is : (x y : ℕ) → top_bit x y < 2
top_bit_is x y = small (signif x * signif y) (product_lt x y)
  where
    small : (p : ℕ) → p < 2 ^ 106 → (p - 1) / 2 ^ 105 < 2
    small p h = omega arith

-- t = S + C
module _ (x y t : ℕ) (h : t ≡ (expo x + expo y + 1) * 2 ^ 52 + less_one x y / 2 ^ 53) where
  pub sum_high : t / 2 ^ 52 ≡ expo x + expo y + 1 + top_bit x y
  sum_high = from (expo x + expo y + 1) (less_one x y) h
    where
      from : (e q : ℕ) → t ≡ e * 2 ^ 52 + q / 2 ^ 53 → t / 2 ^ 52 ≡ e + q / 2 ^ 105
      from e q h = omega arith

  sum_low : less_one x y / 2 ^ 53 ≡ top_bit x y * 2 ^ 52 + t % 2 ^ 52
  sum_low = from (expo x + expo y + 1) (less_one x y) h
    where
      from : (e q : ℕ) → t ≡ e * 2 ^ 52 + q / 2 ^ 53 → q / 2 ^ 53 ≡ q / 2 ^ 105 * 2 ^ 52 + t % 2 ^ 52
      from e q h = omega arith

  pub ended_product : (w : ℕ) → Ended x y (t / 2 ^ 52) (t % 2 ^ 52) (less_one x y % 2 ^ 53) (top_bit x y) w → w ≡ product x y
  unfolding product magnitude
  ended_product w e =
      let q = less_one x y in
      let b = top_bit x y in
      let ge = product_ge x y in
      let p : q + 1 ≡ signif x * signif y = one_more (signif x * signif y) ge in
      let st : Top (q + 1) b = top q (subst (λ (z : ℕ). 2 ^ 104 ≤ z) (sym p) ge) (subst (λ (z : ℕ). z < 2 ^ 106) (sym p) (product_lt x y)) (λ i. product_not x y (sym p ∙ i)) in
      any x y q (t / 2 ^ 52) (t % 2 ^ 52) w b (top_bit_is x y) (record { stands = st; high = sum_low; ended = e })
      ∙ ap (signed (sign_of x y)) (by_zeros (q + 1) b (t / 2 ^ 52) (expo x) (expo y) (frac x) (frac y) p st sum_high)
    where
      one_more : (p : ℕ) → 2 ^ 104 ≤ p → p - 1 + 1 ≡ p
      one_more p h = omega arith
