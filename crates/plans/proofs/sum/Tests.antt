-- The sum's plan, the two tests that ride beside the exponent, for a number with `lz` leading zeros: whether E ≥ 2047, which is E_a ≥ lz + 2046, and whether E_a = 0 and the signs differ.
-- Rests on Exponent and Lanes.
use mathlib.Core.Path.{◌≡◌, refl, sym, ap, ap₂, ◌∙◌, subst}
use mathlib.Core.Logic.{inl, inr}
use Prim.Native.Nat.{ℕ, zero, suc, ◌+◌, ◌-◌, ◌*◌, ◌/◌, ◌%◌, ◌^◌, ◌≤◌, ◌<◌}
use native.Mathlib.Omega.{arith}
use Rattle.bits.specs.Ops.{xor_w, and_w, not_w, shl_w, shr_w}
use Rattle.bits.proofs.Digits.{digit, bit_lt, bit}
use Rattle.bits.proofs.Xor.{xor_zero, and_zero_l}
use Rattle.bits.proofs.Bound.{xor_lt}
use Rattle.bits.proofs.Sum.{xor_packed}
use Rattle.bits.proofs.Places.{shr_is, shl_exact, bit_zero}
use Rattle.binary64.proofs.Cases.{lt_or_ge}
use Rattle.plans.proofs.Fields.{low_bits, pack}
use Rattle.plans.proofs.Shifts.{not_is, xor_ones}
use Rattle.plans.proofs.Lanes.{is_zero, not_zero, zero_differ, and_down, zeros16, zeros16_lt, lane0, lane1}
use Rattle.plans.proofs.sum.Run.{few_w, result_lanes, exponent_run, Riding}
use Rattle.plans.proofs.sum.Normal.{top_not}
use Rattle.plans.proofs.sum.Exponent.{ends, first_low, run_is}

-- ---- no leading zero, or one and E_a odd
abbrev few : ℕ → ℕ → ℕ
few zero e = 1
few (suc zero) e = e % 2
few (suc (suc n)) e = 0

few_lt : (lz e : ℕ) → few lz e < 2
few_lt zero e = omega arith
few_lt (suc zero) e = omega arith
few_lt (suc (suc n)) e = omega arith

-- the first two places of a word of leading ones
pub record Leads (lz th : ℕ) : Type 0 where
  pub word : th < 2 ^ 64
  pub first : th / 2 ^ 63 ≡ 1 - is_zero lz
  pub second : bit th 62 ≡ 1 - is_zero (lz - 1)

few_word : (lz e : ℕ) → xor_w (and_w ((1 - is_zero (lz - 1) + (1 - is_zero lz) % 2) % 2) (e % 2)) (1 - (1 - is_zero lz)) ≡ few lz e
few_word zero e = ap (λ (x : ℕ). xor_w x 1) (and_zero_l (e % 2)) ∙ (unfold xor_w in refl)
few_word (suc zero) e = xor_zero (and_w 1 (e % 2)) ∙ digit (λ b. and_w 1 b ≡ b) (unfold and_w in refl) (unfold and_w in refl) (e % 2) (bit_lt e)
few_word (suc (suc n)) e =
    let a : is_zero (suc (suc n) - 1) ≡ 0 = omega arith in
    let b : is_zero (suc (suc n)) ≡ 0 = omega arith in
    ap₂ (λ (x y : ℕ). xor_w (and_w ((1 - x + (1 - y) % 2) % 2) (e % 2)) (1 - (1 - y))) a b ∙ xor_zero (and_w 0 (e % 2)) ∙ and_zero_l (e % 2)

-- ---- the lanes
beyond : ℕ → ℕ → ℕ
beyond lz e = (1 - few lz e) * 2 ^ 10 + xor_w (e / 2) 1023

unlike : ℕ → ℕ → ℕ
unlike e xy = (1 - xy / 2 ^ 63) * 2 ^ 11 + e

beyond_lt : (lz e : ℕ) → e < 2 ^ 11 → beyond lz e < 2 ^ 11
unfolding beyond
beyond_lt lz e h = let l : xor_w (e / 2) 1023 < 2 ^ 10 = xor_lt 10 (e / 2) 1023 (omega arith) (omega arith) in omega arith

unlike_lt : (e xy : ℕ) → e < 2 ^ 11 → unlike e xy < 2 ^ 12
unfolding unlike
unlike_lt e xy h = omega arith

module _ (e mu th xy lz : ℕ) (he : e < 2 ^ 11) (hm : mu < 2 ^ 16) (hx : xy < 2 ^ 64) (t : Leads lz th) where
  few_is : few_w e mu th ≡ few lz e
  unfolding few_w ends
  few_is =
      let b63 : bit th 63 ≡ (1 - is_zero lz) % 2 = ap (λ (x : ℕ). x % 2) t.first in
      ap₂ xor_w (first_low e mu th xy he hm t.word ∙ ap₂ (λ (x y : ℕ). and_w ((x + y) % 2) (e % 2)) t.second b63) (top_not th t.word ∙ ap (λ (x : ℕ). 1 - x) t.first)
      ∙ few_word lz e

  lanes_are : result_lanes e (few_w e mu th) xy ≡ (2 ^ 32 - 1) - (unlike e xy * 2 ^ 16 + beyond lz e)
  unfolding result_lanes beyond unlike
  lanes_are =
      let q : ℕ = few lz e in
      let n : ℕ = 1 - xy / 2 ^ 63 in
      let l : xor_w (e / 2) 1023 < 2 ^ 10 = xor_lt 10 (e / 2) 1023 (omega arith) (omega arith) in
      let a : xor_w (xor_w (shr_w e 1) 1023) (shl_w (xor_w 1 (few_w e mu th)) 10) ≡ (1 - q) * 2 ^ 10 + xor_w (e / 2) 1023 =
      ap₂ (λ (x y : ℕ). xor_w (xor_w x 1023) (shl_w (xor_w 1 y) 10)) (shr_is e 1) few_is ∙ ap (λ (x : ℕ). xor_w (xor_w (e / 2) 1023) (shl_w x 10)) (xor_ones 1 q (few_lt lz e))
      ∙ pack 1 10 (xor_w (e / 2) 1023) (1 - q) l (omega arith) (omega arith) in
      let b : xor_w (shl_w (shr_w (not_w xy) 63) 11) e ≡ n * 2 ^ 11 + e =
      ap (λ (x : ℕ). xor_w (shl_w x 11) e) (top_not xy hx) ∙ ap (λ (x : ℕ). xor_w x e) (shl_exact 1 11 n (omega arith) (omega arith)) ∙ xor_packed n 11 e he in
      let A : ℕ = beyond lz e in
      let B : ℕ = unlike e xy in
      let h_a : A < 2 ^ 16 = let h = beyond_lt lz e he in omega arith in
      let h_b : B < 2 ^ 12 = unlike_lt e xy he in
      low_bits _ 32 32 refl
      ∙ ap (λ (x : ℕ). not_w x % 2 ^ 32) (ap₂ (λ (x y : ℕ). xor_w x (shl_w y 16)) a b ∙ pack 12 16 A B h_a h_b (omega arith))
      ∙ ap (λ (x : ℕ). x % 2 ^ 32) (not_is (B * 2 ^ 16 + A)) ∙ low (B * 2 ^ 16 + A) (omega arith)
    where
      low : (x : ℕ) → x < 2 ^ 32 → ((2 ^ 64 - 1) - x) % 2 ^ 32 ≡ (2 ^ 32 - 1) - x
      low x h = omega arith

  abbrev r : Riding
  r = exponent_run e mu th xy

  -- they are zero tests of 64 bits, whose upper half is all ones
  zeros_are : r.lanes ≡ zeros16 ((2 ^ 16 - 1) * 2 ^ 48 + ((2 ^ 16 - 1) * 2 ^ 32 + (unlike e xy * 2 ^ 16 + beyond lz e)))
  unfolding zeros16
  zeros_are =
      let A : ℕ = beyond lz e in
      let B : ℕ = unlike e xy in
      let h_a : A < 2 ^ 11 = beyond_lt lz e he in
      let h_b : B < 2 ^ 12 = unlike_lt e xy he in
      let W : ℕ = (2 ^ 16 - 1) * 2 ^ 48 + ((2 ^ 16 - 1) * 2 ^ 32 + (B * 2 ^ 16 + A)) in
      let f : (2 ^ 32 - 1) - (B * 2 ^ 16 + A) ≡ not_w W = whole A B h_a h_b ∙ sym (not_is W) in
      ap (λ (x : Riding). x.lanes) (run_is e mu th xy he hm t.word) ∙ ap (λ (x : ℕ). and_down 1 (and_down 2 (and_down 4 (and_down 8 x)))) (lanes_are ∙ f)
    where
      whole : (A B : ℕ) → A < 2 ^ 11 → B < 2 ^ 12 → (2 ^ 32 - 1) - (B * 2 ^ 16 + A) ≡ (2 ^ 64 - 1) - ((2 ^ 16 - 1) * 2 ^ 48 + ((2 ^ 16 - 1) * 2 ^ 32 + (B * 2 ^ 16 + A)))
      whole A B h_a h_b = omega arith

  A_lt : beyond lz e < 2 ^ 16
  A_lt = let h = beyond_lt lz e he in omega arith

  B_lt : unlike e xy < 2 ^ 16
  B_lt = let h = unlike_lt e xy he in omega arith

  pub lanes_lt : (exponent_run e mu th xy).lanes < 2 ^ 64
  lanes_lt = subst (λ (x : ℕ). x < 2 ^ 64) (sym zeros_are) (zeros16_lt _)

  over_is : r.lanes % 2 ≡ is_zero (beyond lz e)
  over_is =
      ap (λ (x : ℕ). x % 2) zeros_are ∙ sym (bit_zero (zeros16 _))
      ∙ lane0 (beyond lz e) (unlike e xy) (2 ^ 16 - 1) (2 ^ 16 - 1) _ A_lt B_lt (omega arith) (omega arith) refl

  -- E_a = 0 and the signs differ
  pub unlike_zeros : bit (exponent_run e mu th xy).lanes 16 ≡ is_zero e * (xy / 2 ^ 63)
  unfolding unlike
  unlike_zeros =
      ap (λ (x : ℕ). bit x 16) zeros_are ∙ lane1 (beyond lz e) (unlike e xy) (2 ^ 16 - 1) (2 ^ 16 - 1) _ A_lt B_lt (omega arith) (omega arith) refl
      ∙ both e (xy / 2 ^ 63) (omega arith)
    where
      both : (e s : ℕ) → s < 2 → is_zero ((1 - s) * 2 ^ 11 + e) ≡ is_zero e * s
      both e s h = digit (λ s. is_zero ((1 - s) * 2 ^ 11 + e) ≡ is_zero e * s) (omega arith) (omega arith) s h

  -- E ≥ 2047
  pub over_some : lz + 2046 ≤ e → (exponent_run e mu th xy).lanes % 2 ≡ 1
  unfolding beyond
  over_some l = over_is ∙ ap₂ (λ (x y : ℕ). is_zero ((1 - x) * 2 ^ 10 + y)) (one lz l) (same l)
    where
      one : (lz : ℕ) → lz + 2046 ≤ e → few lz e ≡ 1
      one zero l = refl
      one (suc zero) l = omega arith
      one (suc (suc n)) l = absurd (omega arith)

      same : lz + 2046 ≤ e → xor_w (e / 2) 1023 ≡ 0
      same l = let q : e / 2 ≡ 1023 = omega arith in ap (λ (x : ℕ). xor_w x 1023) q ∙ (unfold xor_w in refl)

  pub over_none : e < lz + 2046 → (exponent_run e mu th xy).lanes % 2 ≡ 0
  unfolding beyond
  over_none l =
      over_is
      ∙ elim (lt_or_ge e 2046) [
        | inl g ↦ positive ((1 - few lz e) * 2 ^ 10) (xor_w (e / 2) 1023) (zero_differ (e / 2) 1023 (λ q. absurd (omega arith)))
        | inr g ↦ ap (λ (x : ℕ). is_zero ((1 - x) * 2 ^ 10 + xor_w (e / 2) 1023)) (none lz l g) ∙ not_zero (1 * 2 ^ 10 + xor_w (e / 2) 1023) (omega arith)
      ]
    where
      positive : (x y : ℕ) → is_zero y ≡ 0 → is_zero (x + y) ≡ 0
      positive x y h = omega arith

      none : (lz : ℕ) → e < lz + 2046 → 2046 ≤ e → few lz e ≡ 0
      none zero l g = absurd (omega arith)
      none (suc zero) l g = let q : e ≡ 2046 = omega arith in ap (λ (x : ℕ). x % 2) q
      none (suc (suc n)) l g = refl
