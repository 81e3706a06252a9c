-- Floor is the greatest whole number not above the operand: the theorem of specs/Meaning on it. Floor goes by a rule that sees the sign, and what holds of every rule
-- is proved in WholeMeaning. Rests on that, on FloorModel for the ranges of E, and on WholeModel for the words of 0 and 1.
use mathlib.Core.Path.{◌≡◌, sym, ap, ap₂, ◌∙◌, subst}
use mathlib.Core.Logic.{inl, inr}
use mathlib.Core.Bool.{Bool, true, false, cond}
use Prim.Native.Nat.{ℕ, zero, suc, ◌+◌, ◌-◌, ◌*◌, ◌/◌, ◌%◌, ◌^◌, ◌≤◌, ◌<◌, min}
use native.Mathlib.Nat.{add-zero, zero-add, add-mul, div-add-mod', div-eq_of_lt, div-one, mod-lt, mod-eq_of_lt, mod-one, eq-zero-or-pos, mul-pos, one-mul}
use native.Mathlib.Omega.{arith}
use lib.Pow.{pow_pos}
use lib.Ieee.Nearest.{div_same}
use Rattle.binary64.specs.Number.{sign, expo, frac, magnitude, signed}
use Rattle.binary64.specs.Whole.{whole_number}
use Rattle.binary64.specs.Floor.{whole_of, floor}
use Rattle.binary64.specs.Ieee.{toward_negative}
use Rattle.binary64.specs.Meaning.{GreatestWhole, FloorMeans}
use Rattle.binary64.proofs.Cases.{lt_or_ge, zero_one, if_eq, if_not_eq}
use Rattle.binary64.proofs.Words.{sign_cases, magnitude_zero, magnitude_is, magnitude_below}
use Rattle.binary64.proofs.FloorModel.{some_units, floor_zero, floor_large, floor_small_plus, floor_small_minus, floor_between}
use Rattle.binary64.proofs.WholeModel.{whole_zero, one_bits}
use Rattle.binary64.proofs.WholeMeaning.{floor_bounds, WholeRule, rounded_by, rounded_large, rounded_below, rounded_reads, rounded_sign}

-- ---- floor's rule
-- a quotient rounded up sees only the fraction's value
up_same : (a b c d : ℕ) → 0 < b → 0 < d → a * d ≡ c * b → a / b + min (a % b) 1 ≡ c / d + min (c % d) 1
up_same a b c d B D e =
    let q : a / b ≡ c / d = div_same a b c d B D e in
    let r : a % b * d ≡ c % d * b =
    rests (a / b) (a % b) (c % d) b d (a * d) (c * b) (ap (λ (z : ℕ). z * d) (div-add-mod' a b)) (ap (λ (z : ℕ). (z * d + c % d) * b) q ∙ ap (λ (z : ℕ). z * b) (div-add-mod' c d)) e in
    ap₂ ◌+◌ q (sym (some_units (a % b) d D) ∙ ap (λ (z : ℕ). min z 1) r ∙ some_units (c % d) b B)
  where
    rests : (q r s b d x y : ℕ) → (q * b + r) * d ≡ x → (q * d + s) * b ≡ y → x ≡ y → r * d ≡ s * b
    rests q r s b d x y f g h = omega arith

pub toward_negative_is : (s : Bool) → WholeRule (toward_negative s)
toward_negative_is true = record {
  same = up_same;
  whole = λ n. ap₂ (λ (q r : ℕ). q + min r 1) (div-one n) (mod-one n) ∙ add-zero n;
  next = λ a b. omega arith;
}
toward_negative_is false = record { same = div_same; whole = div-one; next = λ a b. omega arith }

-- ---- below 1: 0, or 1 for a negative number that is no zero
below_one : (s : Bool) (M P : ℕ) → M < P → toward_negative s M P ≡ cond s (min M 1) 0
below_one true M P h = ap₂ (λ (q r : ℕ). q + min r 1) (div-eq_of_lt h) (mod-eq_of_lt h) ∙ zero-add (min M 1)
below_one false M P h = div-eq_of_lt h

module _ (a : ℕ) where
  -- floor is what its rule gives, in every range of E
  pub floor_rounded : (s : Bool) → sign a ≡ cond s 1 0 → floor a ≡ rounded_by (toward_negative s) a
  floor_rounded s h =
      elim (lt_or_ge (expo a) 1075) [
        | inr g ↦ floor_large a g ∙ sym (rounded_large (toward_negative s) a g)
        | inl l ↦
            elim (lt_or_ge (expo a) 1023) [
              | inr g ↦ floor_between a g l ∙ ap (whole_number (sign a)) (by s h)
              | inl k ↦
                  small s h k
                  ∙ ap (whole_number (sign a)) (sym (below_one s (magnitude a) (2 ^ 1074) (magnitude_below a 1023 k)))
            ]
            ∙ sym (rounded_below (toward_negative s) a l)
      ]
    where
      by : (s : Bool) → sign a ≡ cond s 1 0 → whole_of 1074 (sign a) (magnitude a) ≡ toward_negative s (magnitude a) (2 ^ 1074)
      by true e = if_not_eq (sign a) 0 _ _ (λ z. zero_one z e)
      by false e = if_eq (sign a) 0 _ _ e

      positive : 1 ≤ expo a → min (magnitude a) 1 ≡ 1
      positive o =
          let m : magnitude a ≡ (2 ^ 52 + frac a) * 2 ^ (expo a - 1) = magnitude_is a (expo a - 1) (omega arith) in
          let p : 0 < (2 ^ 52 + frac a) * 2 ^ (expo a - 1) = mul-pos (omega arith) (pow_pos (expo a - 1)) in
          omega arith

      none : expo a ≡ 0 → min (magnitude a) 1 ≡ 0
      none z = ap (λ (m : ℕ). min m 1) (magnitude_zero a z)

      small : (s : Bool) → sign a ≡ cond s 1 0 → expo a < 1023 → floor a ≡ whole_number (sign a) (cond s (min (magnitude a) 1) 0)
      small false e k = floor_small_plus a k e ∙ sym (whole_zero (sign a) ∙ ap (λ (s : ℕ). signed s 0) e)
      small true e k =
          elim (eq-zero-or-pos (expo a)) [
            | inl z ↦ floor_zero a z ∙ sym (ap (whole_number (sign a)) (none z) ∙ whole_zero (sign a))
            | inr o ↦ floor_small_minus a o k (λ z. zero_one z e) ∙ sym (ap (whole_number (sign a)) (positive o) ∙ ap₂ signed e one_bits)
          ]

-- ---- the theorem
ceiling_bounds : (m P : ℕ) → 0 < P → (m ≤ (m / P + min (m % P) 1) * P) × ((m / P + min (m % P) 1) * P < m + P)
ceiling_bounds m P h = go (m / P) (m % P) (div-add-mod' m P) (mod-lt m h)
  where
    go : (q r : ℕ) → q * P + r ≡ m → r < P → (m ≤ (q + min r 1) * P) × ((q + min r 1) * P < m + P)
    go q zero e l = let c : (q + min 0 1) * P ≡ q * P = ap (λ (x : ℕ). x * P) (omega arith) in (omega arith, omega arith)
    go q (suc r) e l = let c : (q + min (suc r) 1) * P ≡ q * P + P = ap (λ (x : ℕ). x * P) (omega arith) ∙ add-mul q 1 P ∙ ap (λ (x : ℕ). q * P + x) (one-mul P) in (omega arith, omega arith)

pub floor_means : FloorMeans
floor_means a ha =
    let m = magnitude a in
    let P = 2 ^ 1074 in
    elim (sign_cases a ha) [
      | inl s ↦
          subst (GreatestWhole a) (sym (floor_rounded a false s))
          (record {
            whole = m / P;
            reads = rounded_reads (toward_negative false) (toward_negative_is false) a;
            sign_kept = rounded_sign (toward_negative false) (toward_negative_is false) a;
            plus = λ t. floor_bounds m P (pow_pos 1074);
            minus = λ t. absurd (zero_one s t);
          })
      | inr s ↦
          subst (GreatestWhole a) (sym (floor_rounded a true s))
          (record {
            whole = m / P + min (m % P) 1;
            reads = rounded_reads (toward_negative true) (toward_negative_is true) a;
            sign_kept = rounded_sign (toward_negative true) (toward_negative_is true) a;
            plus = λ t. absurd (zero_one t s);
            minus = λ t. ceiling_bounds m P (pow_pos 1074);
          })
    ]
