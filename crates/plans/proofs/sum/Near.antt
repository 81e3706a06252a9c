-- The sum's plan, a number next to a significand in its place: A ± 1 is rounded to A, so that an operand far below the other, and what is lost of it, do not matter. Rests on RoundTie and
-- binary64's Steps.
use mathlib.Core.Path.{◌≡◌, sym, ap, ◌∙◌}
use mathlib.Core.Logic.{inl, inr}
use Prim.Native.Nat.{ℕ, suc, ◌+◌, ◌-◌, ◌*◌, ◌%◌, ◌^◌, ◌≤◌, ◌<◌, min}
use native.Mathlib.Nat.{lt_of_le_of_lt}
use native.Mathlib.Omega.{arith}
use lib.Count.{count_leading_zeros, leading_top}
use Rattle.binary64.specs.inner.Steps.{round_ne, packed, encoded_at, encoded}
use Rattle.binary64.proofs.Cases.{lt_or_ge, if_not_lt, pow_lt_back}
use Rattle.plans.proofs.Lanes.{not_zero}
use Rattle.plans.proofs.RoundTie.{round_tie}

-- numbers with one and with two leading zeros
pub one_zero : (z : ℕ) → 2 ^ 62 ≤ z → z < 2 ^ 63 → count_leading_zeros 64 z ≡ 1
one_zero z lo hi =
    let t = leading_top 64 z (omega arith) (omega arith) in
    let j : t.0 < 63 = pow_lt_back t.0 63 (lt_of_le_of_lt t.2 hi) in
    let k : 62 < suc t.0 = pow_lt_back 62 (suc t.0) (lt_of_le_of_lt lo t.3) in
    omega (arith, t.1)

two_zeros : count_leading_zeros 64 (2 ^ 62 - 1) ≡ 2
two_zeros =
    let t = leading_top 64 (2 ^ 62 - 1) (omega arith) (omega arith) in
    let j : t.0 < 62 = pow_lt_back t.0 62 (lt_of_le_of_lt t.2 (omega arith)) in
    let l : 2 ^ 61 ≤ 2 ^ 62 - 1 = omega arith in
    let k : 61 < suc t.0 = pow_lt_back 61 (suc t.0) (lt_of_le_of_lt l t.3) in
    omega (arith, t.1)

-- m kept, r the first bit dropped and s the others
bits_are : (z s e m : ℕ) → count_leading_zeros 64 z ≡ s → s ≤ e → round_ne (z * 2 ^ s) 11 ≡ m → encoded z e ≡ packed (e - s) m
unfolding encoded_at
bits_are z s e m l h r =
    ap (λ (k : ℕ). encoded_at k z e) l ∙ if_not_lt e s 0 (packed (e - s) (round_ne (z * 2 ^ s) 11)) h ∙ ap (packed (e - s)) r

-- rounded down, and up
down : (z m s : ℕ) → z ≡ m * 2 ^ 11 + (0 * 2 ^ 10 + s) → s < 2 ^ 10 → round_ne z 11 ≡ m
down z m s e h = ap (λ (x : ℕ). round_ne x 11) e ∙ round_tie 10 m 0 s (omega arith) h ∙ omega arith

up : (z m s : ℕ) → z ≡ m * 2 ^ 11 + (1 * 2 ^ 10 + s) → s < 2 ^ 10 → 0 < s → round_ne z 11 ≡ m + 1
up z m s e h p =
    ap (λ (x : ℕ). round_ne x 11) e ∙ round_tie 10 m 1 s (omega arith) h ∙ ap (λ (x : ℕ). m + 1 * (1 - x)) (not_zero (m % 2 + s) (omega arith))

module _ (m e : ℕ) (lo : 2 ^ 52 ≤ m) (hi : m < 2 ^ 53) (he : 2 ≤ e) where
  itself : encoded (m * 2 ^ 10) e ≡ packed (e - 1) m
  itself = bits_are (m * 2 ^ 10) 1 e m (one_zero (m * 2 ^ 10) (omega arith) (omega arith)) (omega arith) (down (m * 2 ^ 10 * 2 ^ 1) m 0 (omega arith) (omega arith))

  above : encoded (m * 2 ^ 10 + 1) e ≡ packed (e - 1) m
  above = bits_are (m * 2 ^ 10 + 1) 1 e m (one_zero (m * 2 ^ 10 + 1) (omega arith) (omega arith)) (omega arith) (down ((m * 2 ^ 10 + 1) * 2 ^ 1) m 2 (omega arith) (omega arith))

  below : encoded (m * 2 ^ 10 - 1) e ≡ packed (e - 1) m
  below =
      elim (lt_or_ge (2 ^ 52) m) [
        | inl l ↦
            let q : m - 1 + 1 ≡ m = omega arith in
            bits_are (m * 2 ^ 10 - 1) 1 e m (one_zero (m * 2 ^ 10 - 1) (omega arith) (omega arith)) (omega arith)
            (up ((m * 2 ^ 10 - 1) * 2 ^ 1) (m - 1) (2 ^ 10 - 2) (omega arith) (omega arith) (omega arith) ∙ q)
        | inr l ↦
            let q : m ≡ 2 ^ 52 = omega arith in
            let z : m * 2 ^ 10 - 1 ≡ 2 ^ 62 - 1 = ap (λ (x : ℕ). x * 2 ^ 10 - 1) q in
            ap (λ (x : ℕ). encoded x e) z
            ∙ bits_are (2 ^ 62 - 1) 2 e (2 ^ 53) two_zeros he (up ((2 ^ 62 - 1) * 2 ^ 2) (2 ^ 53 - 1) (2 ^ 10 - 4) (omega arith) (omega arith) (omega arith))
            ∙ same e he ∙ ap (packed (e - 1)) (sym q)
      ]
    where
      same : (e : ℕ) → 2 ≤ e → packed (e - 2) (2 ^ 53) ≡ packed (e - 1) (2 ^ 52)
      same e h = let d : (e - 2) * 2 ^ 52 + 2 ^ 53 ≡ (e - 1) * 2 ^ 52 + 2 ^ 52 = omega arith in ap (λ (x : ℕ). min x (2047 * 2 ^ 52)) d

  -- 0 or 1 added or taken
  pub near_sum : (t : ℕ) → t ≤ 1 → encoded (m * 2 ^ 10 + t) e ≡ packed (e - 1) m
  near_sum t h =
      elim (lt_or_ge t 1) [
        | inl l ↦ let z : m * 2 ^ 10 + t ≡ m * 2 ^ 10 = omega arith in ap (λ (x : ℕ). encoded x e) z ∙ itself
        | inr l ↦ let z : m * 2 ^ 10 + t ≡ m * 2 ^ 10 + 1 = omega arith in ap (λ (x : ℕ). encoded x e) z ∙ above
      ]

  pub near_difference : (t : ℕ) → t ≤ 1 → encoded (m * 2 ^ 10 - t) e ≡ packed (e - 1) m
  near_difference t h =
      elim (lt_or_ge t 1) [
        | inl l ↦ let z : m * 2 ^ 10 - t ≡ m * 2 ^ 10 = omega arith in ap (λ (x : ℕ). encoded x e) z ∙ itself
        | inr l ↦ let z : m * 2 ^ 10 - t ≡ m * 2 ^ 10 - 1 = omega arith in ap (λ (x : ℕ). encoded x e) z ∙ below
      ]
