-- Rounding from q, one less than the product p of the significands: what the first two of the bits dropped, and whether the others are all ones, add to the bits kept.
-- Rests on RoundTie and Ended, which has the sums of products that the plan makes.
use mathlib.Core.Path.{◌≡◌, ap, ◌∙◌, subst₂}
use mathlib.Core.Logic.{inl, inr}
use Prim.Native.Nat.{ℕ, suc, ◌+◌, ◌-◌, ◌*◌, ◌%◌, ◌^◌, ◌<◌}
use native.Mathlib.Omega.{arith}
use Rattle.bits.proofs.Digits.{digit}
use Rattle.binary64.specs.inner.Steps.{round_ne}
use Rattle.binary64.proofs.Cases.{lt_or_ge}
use Rattle.plans.proofs.Lanes.{is_zero}
use Rattle.plans.proofs.RoundTie.{round_tie}
use Rattle.plans.proofs.product.Ended.{carry_in, last_bit}

-- ---- N whole units of 2^53, two bits r and e, and the rest u, rounded at either place
module _ (N r e u : ℕ) (hr : r < 2) (he : e < 2) (hu : u < 2 ^ 51) where
  at_53 : round_ne ((4 * N + 2 * r + e) * 2 ^ 51 + u) 53 ≡ N + r * (1 - is_zero (N % 2 + (e * 2 ^ 51 + u)))
  at_53 =
      let i : (4 * N + 2 * r + e) * 2 ^ 51 + u ≡ N * 2 ^ 53 + (r * 2 ^ 52 + (e * 2 ^ 51 + u)) = omega arith in
      ap (λ (z : ℕ). round_ne z 53) i ∙ round_tie 52 N r (e * 2 ^ 51 + u) hr (omega arith)

  at_52 : round_ne ((4 * N + 2 * r + e) * 2 ^ 51 + u) 52 ≡ 2 * N + r + e * (1 - is_zero ((2 * N + r) % 2 + u))
  at_52 =
      let i : (4 * N + 2 * r + e) * 2 ^ 51 + u ≡ (2 * N + r) * 2 ^ 52 + (e * 2 ^ 51 + u) = omega arith in
      ap (λ (z : ℕ). round_ne z 52) i ∙ round_tie 51 (2 * N + r) e u he hu

-- a statement about two bits holds where it holds of 0 and 1
bits2 : (P : ℕ → ℕ → Type 0) → P 0 0 → P 0 1 → P 1 0 → P 1 1 → (i j : ℕ) → i < 2 → j < 2 → P i j
bits2 P a b c d i j hi hj = digit (λ x. P x j) (digit (P 0) a b j hj) (digit (P 1) c d j hj) i hi

-- ---- p as the plan's sums of products round it, by the two bits l1 and l0 of q
record Rounded (p t A l1 l0 : ℕ) : Type 0 where
  one : round_ne p 53 ≡ t + carry_in 1 A l1 l0 (t % 2)
  nought : round_ne p 52 ≡ 2 * (t + carry_in 0 A l1 l0 (t % 2)) + last_bit A l1 l0

-- q's rest is not all ones: p has the same two bits, and a rest u that is not 0
some : (t u l1 l0 : ℕ) → l1 < 2 → l0 < 2 → 0 < u → u < 2 ^ 51 → Rounded ((4 * t + 2 * l1 + l0) * 2 ^ 51 + u) t 0 l1 l0
some t u l1 l0 h1 h0 pos hu =
    record {
      one =
          at_53 t l1 l0 u h1 h0 hu
          ∙ bits2 (λ i j. t + i * (1 - is_zero (t % 2 + (j * 2 ^ 51 + u))) ≡ t + carry_in 1 0 i j (t % 2)) (omega arith) (omega arith) (omega arith) (omega arith) l1 l0 h1 h0;
      nought =
          at_52 t l1 l0 u h1 h0 hu
          ∙ bits2 (λ i j. 2 * t + i + j * (1 - is_zero ((2 * t + i) % 2 + u)) ≡ 2 * (t + carry_in 0 0 i j (t % 2)) + last_bit 0 i j)
          (omega arith) (omega arith) (omega arith) (omega arith) l1 l0 h1 h0;
    }

-- q's rest is all ones: p is the next multiple of 2^51
none : (t l1 l0 : ℕ) → l1 < 2 → l0 < 2 → Rounded ((4 * t + 2 * l1 + l0 + 1) * 2 ^ 51 + 0) t 1 l1 l0
none t =
    bits2 (λ i j. Rounded ((4 * t + 2 * i + j + 1) * 2 ^ 51 + 0) t 1 i j)
    (next t 0 1 (omega arith) (omega arith) 0 0 (omega arith) (omega arith) (omega arith))
    (next t 1 0 (omega arith) (omega arith) 0 1 (omega arith) (omega arith) (omega arith))
    (next t 1 1 (omega arith) (omega arith) 1 0 (omega arith) (omega arith) (omega arith))
    (next (suc t) 0 0 (omega arith) (omega arith) 1 1 (omega arith) (omega arith) (omega arith))
  where
    next : (N r e : ℕ) → r < 2 → e < 2 → (i j : ℕ) → 4 * t + 2 * i + j + 1 ≡ 4 * N + 2 * r + e
        → N + r * (1 - is_zero (N % 2 + (e * 2 ^ 51 + 0))) ≡ t + carry_in 1 1 i j (t % 2)
        → 2 * N + r + e * (1 - is_zero ((2 * N + r) % 2 + 0)) ≡ 2 * (t + carry_in 0 1 i j (t % 2)) + last_bit 1 i j
        → Rounded ((4 * t + 2 * i + j + 1) * 2 ^ 51 + 0) t 1 i j
    next N r e hr he i j h a b =
        record {
          one = ap (λ (z : ℕ). round_ne (z * 2 ^ 51 + 0) 53) h ∙ at_53 N r e 0 hr he (omega arith) ∙ a;
          nought = ap (λ (z : ℕ). round_ne (z * 2 ^ 51 + 0) 52) h ∙ at_52 N r e 0 hr he (omega arith) ∙ b;
        }

-- ---- q from t, l1, l0 and its rest s
module _ (q t l1 l0 s : ℕ) (h1 : l1 < 2) (h0 : l0 < 2) (hs : s < 2 ^ 51) (e : q ≡ (4 * t + 2 * l1 + l0) * 2 ^ 51 + s) where
  rounded : Rounded (q + 1) t (is_zero (2 ^ 51 - 1 - s)) l1 l0
  rounded =
      elim (lt_or_ge s (2 ^ 51 - 1)) [
        | inl l ↦
            let p : (4 * t + 2 * l1 + l0) * 2 ^ 51 + (s + 1) ≡ q + 1 = omega arith in
            let A : 0 ≡ is_zero (2 ^ 51 - 1 - s) = omega arith in
            subst₂ (λ p A. Rounded p t A l1 l0) p A (some t (s + 1) l1 l0 h1 h0 (omega arith) (omega arith))
        | inr g ↦
            let p : (4 * t + 2 * l1 + l0 + 1) * 2 ^ 51 + 0 ≡ q + 1 = omega arith in
            let A : 1 ≡ is_zero (2 ^ 51 - 1 - s) = omega arith in
            subst₂ (λ p A. Rounded p t A l1 l0) p A (none t l1 l0 h1 h0)
      ]

  pub round_one : round_ne (q + 1) 53 ≡ t + carry_in 1 (is_zero (2 ^ 51 - 1 - s)) l1 l0 (t % 2)
  round_one = rounded.one

  pub round_zero : round_ne (q + 1) 52 ≡ 2 * (t + carry_in 0 (is_zero (2 ^ 51 - 1 - s)) l1 l0 (t % 2)) + last_bit (is_zero (2 ^ 51 - 1 - s)) l1 l0
  round_zero = rounded.nought
