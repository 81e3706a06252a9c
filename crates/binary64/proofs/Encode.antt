-- A number Z that stands for an exact magnitude M: brought to its top bit and rounded it gives M's bits.
-- Z stands for M where it is M at another scale (`stands_exact`), or a jammed number that keeps enough bits (`jam_top`).
-- Rests on Jam and Round.
use mathlib.Core.Path.{◌≡◌, sym, ap, ap₂, ◌∙◌, subst}
use mathlib.Core.Logic.{inl, inr}
use Prim.Native.Nat.{ℕ, suc, ◌+◌, ◌-◌, ◌*◌, ◌^◌, ◌≤◌, ◌<◌}
use native.Mathlib.Nat.{le_trans, le_of_eq, lt_of_lt_of_le, lt_of_le_of_lt, mul_right_comm, mul-le-mul_right, mul-lt-mul_of_pos_right, le_of_mul-le-mul_right, lt_of_mul-lt-mul_right}
use native.Mathlib.Omega.{arith}
use lib.Count.{count_leading_zeros, leading_top}
use lib.Pow.{pow_pos, pow-add, shl_lt}
use lib.Ieee.Nearest.{closest_same}
use Rattle.binary64.specs.Rounding.{mag_bits}
use Rattle.binary64.specs.inner.Steps.{round_ne, jam, packed, encoded_at, encoded}
use Rattle.binary64.proofs.Cases.{lt_or_ge, if_lt, if_not_lt, pow_lt_back}
use Rattle.binary64.proofs.Jam.{round_jam, jam_lt, jam_ge}
use Rattle.binary64.proofs.Round.{limit, bits_under, bits_over, round_scale}

-- M in units of which 2^u make 2^-1022; Z · 2^s has its top bit at 63, and that place is M's top bit, whose E is e - s + 1
pub record Placed (u M Z s e : ℕ) : Type 0 where
  -- the place of M's top bit
  pub c : ℕ
  pub lo : 2 ^ c ≤ M
  pub hi : M < 2 ^ suc c
  pub at : c + s ≡ u + e
  pub round : 52 ≤ c → round_ne M (c - 52) ≡ round_ne (Z * 2 ^ s) 11

pub placed_bits : (u M Z s e : ℕ) → 52 ≤ u → Placed u M Z s e → mag_bits u M ≡ encoded_at s Z e
unfolding encoded_at
placed_bits u M Z s e h52 p =
    let c = p.c in
    let at = p.at in
    elim (lt_or_ge e s) [
      | inl l ↦ bits_under u M c h52 p.lo p.hi (omega arith) ∙ sym (if_lt e s 0 (packed (e - s) (round_ne (Z * 2 ^ s) 11)) l)
      | inr l ↦
          let d : c - u ≡ e - s = omega arith in
          bits_over u M c h52 p.lo p.hi (omega arith)
          ∙ ap₂ packed d (p.round (omega arith))
          ∙ sym (if_not_lt e s 0 (packed (e - s) (round_ne (Z * 2 ^ s) 11)) l)
    ]

pub encoded_lt : (s Z e : ℕ) → encoded_at s Z e < 2 ^ 63
unfolding encoded_at
encoded_lt s Z e =
    elim (lt_or_ge e s) [
      | inl l ↦ subst (λ (x : ℕ). x < 2 ^ 63) (sym (if_lt e s 0 (packed (e - s) (round_ne (Z * 2 ^ s) 11)) l)) (pow_pos 63)
      | inr l ↦ subst (λ (x : ℕ). x < 2 ^ 63) (sym (if_not_lt e s 0 (packed (e - s) (round_ne (Z * 2 ^ s) 11)) l)) (limit ((e - s) * 2 ^ 52 + round_ne (Z * 2 ^ s) 11))
    ]

-- wherever Z's top bit is
pub record Stands (u M Z e : ℕ) : Type 0 where
  pub pos : 0 < Z
  pub place : (s : ℕ) → 2 ^ 63 ≤ Z * 2 ^ s → Z * 2 ^ s < 2 ^ 64 → Placed u M Z s e

-- the count of leading zeros brings a word to its top bit
pub to_top : (Z : ℕ) → 0 < Z → Z < 2 ^ 64 → (2 ^ 63 ≤ Z * 2 ^ count_leading_zeros 64 Z) × (Z * 2 ^ count_leading_zeros 64 Z < 2 ^ 64)
to_top Z p h =
    let t = leading_top 64 Z p h in
    go t.0 (count_leading_zeros 64 Z) t.1 t.2 t.3
  where
    go : (k s : ℕ) → s + suc k ≡ 64 → 2 ^ k ≤ Z → Z < 2 ^ suc k → (2 ^ 63 ≤ Z * 2 ^ s) × (Z * 2 ^ s < 2 ^ 64)
    go k s e lo hi =
        let e₁ : k + s ≡ 63 = omega arith in
        let e₂ : suc k + s ≡ 64 = omega arith in (
          le_trans (le_of_eq (ap (λ (x : ℕ). 2 ^ x) (sym e₁) ∙ pow-add 2 k s)) (mul-le-mul_right (2 ^ s) lo),
          subst (λ (x : ℕ). Z * 2 ^ s < 2 ^ x) e₂ (shl_lt {a = Z} (suc k) s hi),
        )

pub stands_bits : (u M Z e : ℕ) → 52 ≤ u → Z < 2 ^ 64 → Stands u M Z e → mag_bits u M ≡ encoded Z e
stands_bits u M Z e h52 hz st =
    let t = to_top Z st.pos hz in
    placed_bits u M Z (count_leading_zeros 64 Z) e h52 (st.place (count_leading_zeros 64 Z) t.0 t.1)

-- ---- a jammed number: N has its top bit at n, j of its bits are dropped, and 54 or more are kept
pub record Top (N j n s : ℕ) : Type 0 where
  pub at : n + s ≡ 62 + j
  pub round : round_ne N (n - 52) ≡ round_ne (jam j N * 2 ^ s) 11

pub jam_top : (N j n s : ℕ) → 2 ^ n ≤ N → N < 2 ^ suc n → j + 53 ≤ n → 2 ^ 63 ≤ jam j N * 2 ^ s → jam j N * 2 ^ s < 2 ^ 64 → Top N j n s
jam_top N j n s lo hi kept l h =
    let Z = jam j N in
    let k = n - j in
    let kj : k + j ≡ n = omega arith in
    let kj' : suc k + j ≡ suc n = omega arith in
    let zl : 2 ^ suc k ≤ Z = jam_ge N j k (subst (λ (x : ℕ). 2 ^ x ≤ N) (sym kj) lo) in
    let zh : Z < 2 ^ suc (suc k) = jam_lt N j (suc k) (subst (λ (x : ℕ). N < 2 ^ x) (sym kj') hi) in
    let a : suc k + s < 64 = pow_lt_back (suc k + s) 64 (lt_of_le_of_lt (le_trans (le_of_eq (pow-add 2 (suc k) s)) (mul-le-mul_right (2 ^ s) zl)) h) in
    let b : 63 < suc (suc k) + s = pow_lt_back 63 (suc (suc k) + s) (lt_of_le_of_lt l (lt_of_lt_of_le (mul-lt-mul_of_pos_right zh (pow_pos s)) (le_of_eq (sym (pow-add 2 (suc (suc k)) s))))) in
    let m = k - 53 in
    let e₁ : n - 52 ≡ j + suc m = omega arith in
    let e₂ : suc (suc m) + s ≡ 11 = omega arith in
    record {
      at = omega arith;
      round = ap (round_ne N) e₁ ∙ round_jam N j m ∙ sym (round_scale Z s (suc (suc m))) ∙ ap (round_ne (Z * 2 ^ s)) e₂;
    }

-- ---- the same number at another scale: M · 2^g = Z · 2^e
exact_round : (M Z g s e k : ℕ) → M * 2 ^ g ≡ Z * 2 ^ e → e + 11 ≡ s + k + g → round_ne M k ≡ round_ne (Z * 2 ^ s) 11
unfolding round_ne
exact_round M Z g s e k h w =
    let p : 2 ^ e * 2 ^ 11 ≡ 2 ^ s * 2 ^ k * 2 ^ g = sym (pow-add 2 e 11) ∙ ap (λ (x : ℕ). 2 ^ x) w ∙ pow-add 2 (s + k) g ∙ ap (λ (x : ℕ). x * 2 ^ g) (pow-add 2 s k) in
    let z : M * 2 ^ 11 * 2 ^ g ≡ Z * 2 ^ s * 2 ^ k * 2 ^ g = mul_right_comm M (2 ^ 11) (2 ^ g) ∙ ap (λ (x : ℕ). x * 2 ^ 11) h ∙ shuffle Z (2 ^ e) (2 ^ 11) (2 ^ s) (2 ^ k) (2 ^ g) p in
    closest_same M (2 ^ k) (Z * 2 ^ s) (2 ^ 11) (pow_pos k) (pow_pos 11) (cancel (M * 2 ^ 11) (Z * 2 ^ s * 2 ^ k) (2 ^ g) (pow_pos g) z)
  where
    shuffle : (Z a b s k g : ℕ) → a * b ≡ s * k * g → Z * a * b ≡ Z * s * k * g
    shuffle Z a b s k g p = let q : Z * (a * b) ≡ Z * (s * k * g) = ap (λ (x : ℕ). Z * x) p in omega arith

    cancel : (x y g : ℕ) → 0 < g → x * g ≡ y * g → x ≡ y
    cancel x y g h e =
        native.Mathlib.Nat.le_antisymm (le_of_mul-le-mul_right (le_of_eq e) h) (le_of_mul-le-mul_right (le_of_eq (sym e)) h)

-- 2^g units of Z · 2^e make one of M's; the place 63 of Z · 2^s has the exponent e' - s + 1
pub stands_exact : (u M Z g e e' : ℕ) → 0 < M → 0 < Z → M * 2 ^ g ≡ Z * 2 ^ e → 63 + e ≡ u + e' + g → Stands u M Z e'
stands_exact u M Z g e e' M0 Z0 h w = record { pos = Z0; place = at_top }
  where
    at_top : (s : ℕ) → 2 ^ 63 ≤ Z * 2 ^ s → Z * 2 ^ s < 2 ^ 64 → Placed u M Z s e'
    at_top s lo hi =
        let eq : M * 2 ^ s * 2 ^ g ≡ Z * 2 ^ s * 2 ^ e = mul_right_comm M (2 ^ s) (2 ^ g) ∙ ap (λ (x : ℕ). x * 2 ^ s) h ∙ mul_right_comm Z (2 ^ e) (2 ^ s) in
        let l₁ : 2 ^ (63 + e) ≤ M * 2 ^ s * 2 ^ g = le_trans (le_of_eq (pow-add 2 63 e)) (le_trans (mul-le-mul_right (2 ^ e) lo) (le_of_eq (sym eq))) in
        let h₁ : M * 2 ^ s * 2 ^ g < 2 ^ (64 + e) = lt_of_le_of_lt (le_of_eq eq) (lt_of_lt_of_le (mul-lt-mul_of_pos_right hi (pow_pos e)) (le_of_eq (sym (pow-add 2 64 e)))) in
        let e₁ : 63 + e ≡ u + e' + g = w in
        let e₂ : 64 + e ≡ suc (u + e') + g = omega arith in
        let l₂ : 2 ^ (u + e') ≤ M * 2 ^ s = le_of_mul-le-mul_right (le_trans (le_of_eq (sym (pow-add 2 (u + e') g) ∙ ap (λ (x : ℕ). 2 ^ x) (sym e₁))) l₁) (pow_pos g) in
        let h₂ : M * 2 ^ s < 2 ^ suc (u + e') = lt_of_mul-lt-mul_right (2 ^ g) (lt_of_lt_of_le h₁ (le_of_eq (ap (λ (x : ℕ). 2 ^ x) e₂ ∙ pow-add 2 (suc (u + e')) g))) in
        let one : 1 * 2 ^ s ≤ M * 2 ^ s = mul-le-mul_right (2 ^ s) M0 in
        let sl : s < suc (u + e') = pow_lt_back s (suc (u + e')) (lt_of_le_of_lt (le_trans (le_of_eq (sym (native.Mathlib.Nat.one-mul (2 ^ s)))) one) h₂) in
        let c = u + e' - s in
        let cs : c + s ≡ u + e' = omega arith in
        let cs1 : suc c + s ≡ suc (u + e') = omega arith in
        record {
          c = c;
          lo = le_of_mul-le-mul_right (le_trans (le_of_eq (sym (pow-add 2 c s) ∙ ap (λ (x : ℕ). 2 ^ x) cs)) l₂) (pow_pos s);
          hi = lt_of_mul-lt-mul_right (2 ^ s) (lt_of_lt_of_le h₂ (le_of_eq (ap (λ (x : ℕ). 2 ^ x) (sym cs1) ∙ pow-add 2 (suc c) s)));
          at = cs;
          round = λ k. exact_round M Z g s e (c - 52) h (omega arith);
        }
