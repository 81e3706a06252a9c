-- Rounding means what document 01 says: the theorem of specs/Meaning on it, the limit at E = 2047 included. Rests on Round.
use mathlib.Core.Path.{◌≡◌, sym, ap, ap₂, ◌∙◌, subst}
use mathlib.Core.Logic.{inl, inr}
use Prim.Native.Nat.{ℕ, zero, suc, ◌+◌, ◌-◌, ◌*◌, ◌/◌, ◌%◌, ◌^◌, ◌≤◌, ◌<◌, compare, Ordering}
use native.Mathlib.Nat.{le_trans, le_of_eq, le_of_lt, lt_of_lt_of_le, lt_of_le_of_lt, not-le_of_lt, mul_assoc, mul-le-mul_right, div-add-mod', mod-lt, eq-or-lt_of_le, pow-suc}
use native.Mathlib.Omega.{arith}
use lib.Pow.{pow_pos, pow-add, pow_mono, pow-lt, shl_lt}
use lib.Ieee.{size, nearest}
use lib.Ieee.Digits.{size-lt, size_reaches}
use lib.Ieee.Nearest.{closest}
use Rattle.binary64.specs.Number.{expo, frac, magnitude_of, magnitude, signed}
use Rattle.binary64.specs.Rounding.{rounded_significand, mag_bits}
use Rattle.binary64.specs.Meaning.{distance, NearestEven, RoundingMeans}
use Rattle.binary64.specs.inner.Steps.{packed}
use Rattle.binary64.proofs.Cases.{Cmp, cmp, lt_or_ge, if_not_lt, size_gt}
use Rattle.binary64.proofs.Round.{significand_ge, significand_le, mag_bits_min}

-- ---- the nearest multiple of P: M = w · P + r
module _ (M w r P : ℕ) (split : w * P + r ≡ M) (hr : r < P) where
  -- a multiple up to w · P, and one above
  near_low : (k : ℕ) → k ≤ w → k * P ≤ w * P
  near_low k h = mul-le-mul_right P h

  near_high : (k : ℕ) → w < k → w * P + P ≤ k * P
  near_high k h = let m = mul-le-mul_right P h in omega arith

  pub keep : r * 2 ≤ P → (k : ℕ) → distance M (w * P) ≤ distance M (k * P)
  keep h k = elim (lt_or_ge w k) [ inl l ↦ let m = near_high k l in omega arith | inr l ↦ let m = near_low k l in omega arith ]

  pub raise : P ≤ r * 2 → (k : ℕ) → distance M (suc w * P) ≤ distance M (k * P)
  raise h k =
      let s : suc w * P ≡ w * P + P = omega arith in
      elim (lt_or_ge w k) [ inl l ↦ let m = near_high k l in omega arith | inr l ↦ let m = near_low k l in omega arith ]

  -- where twice the rest is not P no other multiple is as near
  pub only_low : r * 2 < P → (k : ℕ) → (k ≡ w → ⊥) → distance M (k * P) ≡ distance M (w * P) → ⊥
  only_low h k n e =
      elim (lt_or_ge w k) [
        | inl l ↦ let m = near_high k l in omega arith
        | inr l ↦
            elim (eq-or-lt_of_le l) [
              | inl q ↦ n q
              | inr g ↦ let m : suc k * P ≤ w * P = mul-le-mul_right P g in omega arith
            ]
      ]

  pub only_high : P < r * 2 → (k : ℕ) → (k ≡ suc w → ⊥) → distance M (k * P) ≡ distance M (suc w * P) → ⊥
  only_high h k n e =
      let s : suc w * P ≡ w * P + P = omega arith in
      elim (lt_or_ge w k) [
        | inr l ↦ let m = near_low k l in omega arith
        | inl l ↦
            elim (eq-or-lt_of_le l) [
              | inl q ↦ n (sym q)
              | inr g ↦ let m : suc (suc w) * P ≤ k * P = mul-le-mul_right P g in omega arith
            ]
      ]

  pub tie : r * 2 ≡ P → (k : ℕ) → distance M ((w + w % 2) * P) ≤ distance M (k * P)
  tie h k = go (w % 2) (mod-lt w (omega arith))
    where
      go : (b : ℕ) → b < 2 → distance M ((w + b) * P) ≤ distance M (k * P)
      go zero l = subst (λ (x : ℕ). distance M (x * P) ≤ distance M (k * P)) (sym (native.Mathlib.Nat.add-zero w)) (keep (le_of_eq h) k)
      go (suc zero) l = subst (λ (x : ℕ). distance M (x * P) ≤ distance M (k * P)) (sym (native.Mathlib.Numerals.add-one w)) (raise (le_of_eq (sym h)) k)
      go (suc (suc b)) l = absurd (omega arith)

pub closest_nearest : (M e : ℕ) → NearestEven M e (closest M (2 ^ e))
closest_nearest M e = go (compare (M % 2 ^ e * 2) (2 ^ e)) (cmp (M % 2 ^ e * 2) (2 ^ e))
  where
    split : M / 2 ^ e * 2 ^ e + M % 2 ^ e ≡ M
    split = div-add-mod' M (2 ^ e)

    low : M % 2 ^ e < 2 ^ e
    low = mod-lt M (pow_pos e)

    go : (o : Ordering) → Cmp o (M % 2 ^ e * 2) (2 ^ e) → NearestEven M e (nearest (M / 2 ^ e) o)
    go Ordering.lt h =
        record {
          nearest = keep M (M / 2 ^ e) (M % 2 ^ e) (2 ^ e) split low (le_of_lt h);
          even = λ k n d. absurd (only_low M (M / 2 ^ e) (M % 2 ^ e) (2 ^ e) split low h k n d);
        }
    go Ordering.eq h = record { nearest = tie M (M / 2 ^ e) (M % 2 ^ e) (2 ^ e) split low h; even = λ k n d. twice (M / 2 ^ e) }
      where
        twice : (x : ℕ) → (x + x % 2) % 2 ≡ 0
        twice x = omega arith
    go Ordering.gt h =
        record {
          nearest = raise M (M / 2 ^ e) (M % 2 ^ e) (2 ^ e) split low (le_of_lt h);
          even = λ k n d. absurd (only_high M (M / 2 ^ e) (M % 2 ^ e) (2 ^ e) split low h k n d);
        }

-- ---- what packed bits read as
pub packed_reads : (s e q : ℕ) → 2 ^ 52 ≤ q → q ≤ 2 ^ 53 → e * 2 ^ 52 + q < 2047 * 2 ^ 52 → magnitude (signed s (e * 2 ^ 52 + q)) ≡ q * 2 ^ e
unfolding magnitude
packed_reads s e q lo hi h =
    elim (eq-or-lt_of_le hi) [
      | inl z ↦
          let E : expo (signed s (e * 2 ^ 52 + q)) ≡ suc (suc e) = omega arith in
          let F : frac (signed s (e * 2 ^ 52 + q)) ≡ 0 = omega arith in
          ap₂ magnitude_of E F ∙ carried (2 ^ suc e) (2 ^ e) (pow-suc 2 e) ∙ ap (λ (x : ℕ). x * 2 ^ e) (sym z)
      | inr l ↦
          let E : expo (signed s (e * 2 ^ 52 + q)) ≡ suc e = omega arith in
          let F : 2 ^ 52 + frac (signed s (e * 2 ^ 52 + q)) ≡ q = omega arith in
          ap (λ (x : ℕ). magnitude_of x (frac (signed s (e * 2 ^ 52 + q)))) E ∙ ap (λ (x : ℕ). x * 2 ^ e) F
    ]
  where
    carried : (d p : ℕ) → d ≡ p * 2 → (2 ^ 52 + 0) * d ≡ 2 ^ 53 * p
    carried d p z = omega arith

-- ---- the limit: E - 1 = e and a significand q against the exponent 2047, over the unit 2^k
module _ (u e q k : ℕ) (unit : suc (e + u) ≡ 53 + k) (lo : 2 ^ 52 ≤ q) (hi : q ≤ 2 ^ 53) where
  under_limit : e * 2 ^ 52 + q < 2047 * 2 ^ 52 → q * 2 ^ k < 2 ^ (u + 2046)
  under_limit h =
      elim (eq-or-lt_of_le hi) [
        | inl z ↦
            lt_of_le_of_lt (le_of_eq (ap (λ (x : ℕ). x * 2 ^ k) z ∙ sym (pow-add 2 53 k))) (pow-lt {i = 53 + k} {j = u + 2046} (omega arith))
        | inr l ↦ lt_of_lt_of_le (shl_lt 53 k l) (pow_mono {i = 53 + k} {j = u + 2046} (omega arith))
      ]

  over_limit : 2047 * 2 ^ 52 ≤ e * 2 ^ 52 + q → 2 ^ (u + 2046) ≤ q * 2 ^ k
  over_limit h =
      elim (eq-or-lt_of_le hi) [
        | inl z ↦ le_trans (pow_mono {i = u + 2046} {j = 53 + k} (omega arith)) (le_of_eq (pow-add 2 53 k ∙ ap (λ (x : ℕ). x * 2 ^ k) (sym z)))
        | inr l ↦
            le_trans (pow_mono {i = u + 2046} {j = 52 + k} (omega arith)) (le_trans (le_of_eq (pow-add 2 52 k)) (mul-le-mul_right (2 ^ k) lo))
      ]

-- ---- rounding: z is the length of M
module _ (u z q r : ℕ) (h52 : 52 ≤ u) (g : u < z) (lo : 2 ^ 52 ≤ q) (hi : q ≤ 2 ^ 53) (b : r ≡ packed (z - suc u) q) where
  unit : suc (z - suc u + u) ≡ 53 + (z - 53)
  unit = omega arith

  limits : 2 ^ (u + 2046) ≤ q * 2 ^ (z - 53) → r ≡ 2047 * 2 ^ 52
  limits h =
      elim (lt_or_ge ((z - suc u) * 2 ^ 52 + q) (2047 * 2 ^ 52)) [
        | inl l ↦ absurd (not-le_of_lt (under_limit u (z - suc u) q (z - 53) unit lo hi l) h)
        | inr l ↦ omega arith
      ]

  readable : q * 2 ^ (z - 53) < 2 ^ (u + 2046) → (r < 2047 * 2 ^ 52) × (magnitude r * 2 ^ (u - 52) ≡ q * 2 ^ (z - 53))
  readable h =
      elim (lt_or_ge ((z - suc u) * 2 ^ 52 + q) (2047 * 2 ^ 52)) [
        | inl l ↦
            let e = z - suc u in
            let m : r ≡ signed 0 (e * 2 ^ 52 + q) = omega arith in
            let k : e + (u - 52) ≡ z - 53 = omega arith in (
              omega arith,
              ap (λ (x : ℕ). magnitude x * 2 ^ (u - 52)) m ∙ ap (λ (x : ℕ). x * 2 ^ (u - 52)) (packed_reads 0 e q lo hi l)
                  ∙ mul_assoc q (2 ^ e) (2 ^ (u - 52)) ∙ ap (λ (x : ℕ). q * x) (sym (pow-add 2 e (u - 52)) ∙ ap (λ (x : ℕ). 2 ^ x) k),
            )
        | inr l ↦ absurd (not-le_of_lt h (over_limit u (z - suc u) q (z - 53) unit lo hi l))
      ]

pub rounding_means : RoundingMeans
rounding_means u M h52 h =
    let g : u < size M = size_gt M u h in
    let big : 2 ^ 52 ≤ M = le_trans (pow_mono h52) h in
    let e₁ : size M - 1 < size M = omega arith in
    let e₂ : 52 + (size M - 53) ≡ size M - 1 = omega arith in
    let e₃ : 53 + (size M - 53) ≡ size M = omega arith in
    let lo : 2 ^ 52 ≤ rounded_significand M = significand_ge M big in
    let b : mag_bits u M ≡ packed (size M - suc u) (rounded_significand M) = mag_bits_min u M h52 ∙ if_not_lt M (2 ^ u) 0 (packed (size M - suc u) (rounded_significand M)) h in
    record {
      kept_low = le_trans (le_of_eq (sym (pow-add 2 52 (size M - 53)) ∙ ap (λ (x : ℕ). 2 ^ x) e₂)) (size_reaches M (size M - 1) e₁);
      kept_high = lt_of_lt_of_le (size-lt M) (le_of_eq (ap (λ (x : ℕ). 2 ^ x) (sym e₃) ∙ pow-add 2 53 (size M - 53)));
      nearest = closest_nearest M (size M - 53);
      limit = limits u (size M) (rounded_significand M) (mag_bits u M) h52 g lo (significand_le M) b;
      reads = readable u (size M) (rounded_significand M) (mag_bits u M) h52 g lo (significand_le M) b;
    }
