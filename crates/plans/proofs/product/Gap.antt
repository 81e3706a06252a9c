-- No two significands have the product 2^105: it alone would have its top bit a place above that of the number before it.
-- Rests on Operands.
use mathlib.Core.Path.{◌≡◌, refl, sym, ap, ap₂, ◌∙◌}
use mathlib.Core.Logic.{inl, inr}
use Prim.Native.Nat.{ℕ, zero, suc, ◌+◌, ◌-◌, ◌*◌, ◌/◌, ◌%◌, ◌^◌, ◌≤◌, ◌<◌}
use native.Mathlib.Nat.{mul_comm, mul-le-mul}
use native.Mathlib.Omega.{arith}
use lib.Pow.{pow_pos}
use Rattle.bits.proofs.Digits.{digit, bit_lt}
use Rattle.binary64.proofs.Cases.{lt_or_ge}
use Rattle.binary64.proofs.ProductModel.{frac_lt}
use Rattle.plans.proofs.product.Operands.{signif}

-- an even factor halved
halve : (a b P : ℕ) → a % 2 ≡ 0 → a * b ≡ 2 * P → a / 2 * b ≡ P
halve a b P h e = let d : a ≡ 2 * (a / 2) = omega arith in omega (arith, ap (λ (z : ℕ). z * b) d)

both_odd : (a b P : ℕ) → a % 2 ≡ 1 → b % 2 ≡ 1 → a * b ≡ 2 * P → ⊥
both_odd a b P h k e =
    let c : a ≡ 2 * (a / 2) + 1 = omega arith in
    let d : b ≡ 2 * (b / 2) + 1 = omega arith in
    product (a / 2) (b / 2) (ap₂ (λ (i j : ℕ). i * j) (sym c) (sym d) ∙ e)
  where
    product : (u v : ℕ) → (2 * u + 1) * (2 * v + 1) ≡ 2 * P → ⊥
    product u v e = omega arith

-- a factor of a power of two that is above 2^k is at least 2^(k+1)
gap : (n k a b : ℕ) → a * b ≡ 2 ^ n → 2 ^ k < a → 2 ^ suc k ≤ a
gap n zero a b e h = omega arith
gap zero (suc k) a zero e h = absurd (omega arith)
gap zero (suc k) a (suc b) e h = let l = pow_pos k in absurd (omega arith)
gap (suc n) (suc k) a b e h =
    let d : a * b ≡ 2 * 2 ^ n = omega arith in
    digit (λ i. a % 2 ≡ i → 2 ^ suc (suc k) ≤ a)
    (λ even. let l : 2 ^ suc k ≤ a / 2 = gap n k (a / 2) b (halve a b (2 ^ n) even d) (omega arith) in omega arith)
    (λ odd.
    digit (λ j. b % 2 ≡ j → 2 ^ suc (suc k) ≤ a)
    (λ even. gap n (suc k) a (b / 2) (mul_comm a (b / 2) ∙ halve b a (2 ^ n) even (mul_comm b a ∙ d)) h)
    (λ odd'. absurd (both_odd a b (2 ^ n) odd odd' d)) (b % 2) (bit_lt b) refl)
    (a % 2) (bit_lt a) refl

pub product_not : (x y : ℕ) → signif x * signif y ≡ 2 ^ 105 → ⊥
product_not x y e =
    let fx = frac_lt x in
    let fy = frac_lt y in
    elim (lt_or_ge (2 ^ 52) (signif x)) [
      | inl l ↦ let g : 2 ^ 53 ≤ signif x = gap 105 52 (signif x) (signif y) e l in omega arith
      | inr l ↦
          let r : signif y ≤ 2 ^ 53 - 1 = omega arith in
          let m : signif x * signif y ≤ 2 ^ 52 * (2 ^ 53 - 1) = mul-le-mul l r in
          apart (signif x * signif y) m e
    ]
  where
    apart : (p : ℕ) → p ≤ 2 ^ 52 * (2 ^ 53 - 1) → p ≡ 2 ^ 105 → ⊥
    apart p l e = omega arith
