-- Truncation and nearest on the word itself, by the ranges of E. Between E = 1023 and 1074 truncation clears the k = 1075 - E fraction bits of the word;
-- nearest adds 2^k to that where it rounds up. Rests on Dropping, and on Round for the ties.
use mathlib.Core.Path.{◌≡◌, sym, ap, ap₂, ◌∙◌, subst}
use Prim.Native.Nat.{ℕ, zero, suc, ◌+◌, ◌-◌, ◌*◌, ◌/◌, ◌%◌, ◌^◌, ◌≤◌, ◌<◌, min}
use native.Mathlib.Nat.{mod-lt, div-eq_of_lt, div-add-mod', zero-mul}
use native.Mathlib.Omega.{arith}
use lib.Pow.{pow_pos, pow-add}
use Rattle.binary64.specs.Number.{sign, expo, frac, magnitude, signed}
use Rattle.binary64.specs.Rounding.{mag_bits}
use Rattle.binary64.specs.Whole.{whole_number, Dropped}
use Rattle.binary64.specs.Truncate.{truncate}
use Rattle.binary64.specs.Nearest.{nearest}
use Rattle.binary64.specs.inner.Steps.{round_ne}
use Rattle.binary64.proofs.Cases.{if_le, if_not_le}
use Rattle.binary64.proofs.Words.{magnitude_is, magnitude_below}
use Rattle.binary64.proofs.Round.{bits_zero, round_scale, round_tie, first_dropped}
use Rattle.binary64.proofs.Dropping.{exact_bits, bit_times, fraction_dropped, whole_odd, whole_part}

-- ---- the words of 0 and 1
pub whole_zero : (s : ℕ) → whole_number s 0 ≡ signed s 0
whole_zero s = ap (signed s) (ap (mag_bits 52) (zero-mul (2 ^ 1074)) ∙ bits_zero 52)

pub one_bits : mag_bits 52 (1 * 2 ^ 1074) ≡ 1023 * 2 ^ 52
one_bits = exact_bits (2 ^ 52) 1022 (omega arith) (omega arith) (omega arith)

-- ---- n units of 2^u and d of 2^e, where 2^(j+1) of these make one of those, rounded to whole units of 2^u
round_parts : (M u e j n d : ℕ) → suc j + e ≡ u → M ≡ n * 2 ^ u + d * 2 ^ e → round_ne M u ≡ round_ne (n * 2 ^ suc j + d) (suc j)
round_parts M u e j n d s h =
    ap₂ round_ne (h ∙ ap (λ (z : ℕ). n * z + d * 2 ^ e) (ap (λ (z : ℕ). 2 ^ z) (sym s) ∙ pow-add 2 (suc j) e) ∙ regroup n (2 ^ suc j) (2 ^ e) d) (sym s)
    ∙ round_scale (n * 2 ^ suc j + d) e (suc j)
  where
    regroup : (n p q d : ℕ) → n * (p * q) + d * q ≡ (n * p + d) * q
    regroup n p q d = omega arith

module _ (a : ℕ) where
  -- ---- truncation
  pub truncate_large : 1075 ≤ expo a → truncate a ≡ a
  unfolding truncate
  truncate_large h = if_le 1075 (expo a) _ _ h

  pub truncate_below : expo a < 1075 → truncate a ≡ whole_number (sign a) (magnitude a / 2 ^ 1074)
  unfolding truncate
  truncate_below h = if_not_le 1075 (expo a) _ _ h

  pub truncate_small : expo a < 1023 → truncate a ≡ signed (sign a) 0
  truncate_small h = truncate_below (omega arith) ∙ ap (whole_number (sign a)) (div-eq_of_lt (magnitude_below a 1023 h)) ∙ whole_zero (sign a)

  pub truncate_between : 1023 ≤ expo a → expo a < 1075 → truncate a ≡ a / 2 ^ (1075 - expo a) * 2 ^ (1075 - expo a)
  truncate_between lo hi = truncate_below hi ∙ sym (whole_part a lo hi)

  -- ---- nearest
  pub nearest_large : 1075 ≤ expo a → nearest a ≡ a
  unfolding nearest
  nearest_large h = if_le 1075 (expo a) _ _ h

  pub nearest_below : expo a < 1075 → nearest a ≡ whole_number (sign a) (round_ne (magnitude a) 1074)
  unfolding nearest round_ne
  nearest_below h = if_not_le 1075 (expo a) _ _ h

  pub nearest_small : expo a < 1022 → nearest a ≡ signed (sign a) 0
  nearest_small h = nearest_below (omega arith) ∙ ap (whole_number (sign a)) (nothing (magnitude a) 1073 (magnitude_below a 1022 h)) ∙ whole_zero (sign a)
    where
      -- less than half a unit
      nothing : (M k : ℕ) → M < 2 ^ k → round_ne M (suc k) ≡ 0
      nothing M k h = ap (λ (z : ℕ). round_ne z (suc k)) (parts M (2 ^ k) (2 ^ suc k)) ∙ round_tie k 0 0 M (omega arith) h ∙ omega arith
        where
          parts : (M p q : ℕ) → M ≡ 0 * q + (0 * p + M)
          parts M p q = omega arith

  pub nearest_half : expo a ≡ 1022 → nearest a ≡ signed (sign a) (min (frac a) 1 * (1023 * 2 ^ 52))
  nearest_half h =
      nearest_below (omega arith) ∙ ap (whole_number (sign a)) (ap (λ (M : ℕ). round_ne M 1074) (magnitude_is a 1021 h) ∙ round_scale (2 ^ 52 + frac a) 1021 53 ∙ half (frac a) (mod-lt a (pow_pos 52)))
      ∙ ap (signed (sign a)) (bits (min (frac a) 1) (omega arith))
    where
      half : (F : ℕ) → F < 2 ^ 52 → round_ne (2 ^ 52 + F) 53 ≡ min F 1
      half F l = ap (λ (z : ℕ). round_ne z 53) (omega arith) ∙ round_tie 52 0 1 F (omega arith) l ∙ omega arith

      bits : (c : ℕ) → c ≤ 1 → mag_bits 52 (c * 2 ^ 1074) ≡ c * (1023 * 2 ^ 52)
      bits zero l = bits_zero 52
      bits (suc zero) l = one_bits
      bits (suc (suc c)) l = absurd (omega arith)

  -- j + 1 bits are dropped: the first of them, and whether the last bit kept or one of the j after the first is set
  pub nearest_between : (j : ℕ) → 1023 ≤ expo a → expo a < 1075 → j ≡ 1074 - expo a
      → nearest a ≡ (a / 2 ^ suc j + a / 2 ^ j % 2 * min (a / 2 ^ suc j % 2 + a % 2 ^ j) 1) * 2 ^ suc j
  nearest_between j lo hi hj =
      let k : 1075 - expo a ≡ suc j = omega arith in
      let d : Dropped a (suc j) 1074 = subst (λ (k : ℕ). Dropped a k 1074) k (fraction_dropped a lo hi) in
      let o : magnitude a / 2 ^ 1074 % 2 ≡ a / 2 ^ suc j % 2 = whole_odd a lo hi ∙ ap (λ (k : ℕ). a / 2 ^ k % 2) k in
      let n = magnitude a / 2 ^ 1074 in
      let r = a / 2 ^ j % 2 in
      let s = a % 2 ^ j in
      let hr : a / 2 ^ j % 2 < 2 = mod-lt (a / 2 ^ j) (omega arith) in
      nearest_below hi
      ∙ ap (whole_number (sign a))
      (round_parts (magnitude a) 1074 (expo a - 1) j n (a % 2 ^ suc j) (omega arith) (sym (div-add-mod' (magnitude a) (2 ^ 1074)) ∙ ap (λ (z : ℕ). n * 2 ^ 1074 + z) d.rest)
      ∙ ap (λ (z : ℕ). round_ne (n * 2 ^ suc j + z) (suc j)) (first_dropped a j)
      ∙ round_tie j n r s hr (mod-lt a (pow_pos j)) ∙ ap (λ (l : ℕ). n + r * min (l + s) 1) o)
      ∙ sym (d.word (r * min (a / 2 ^ suc j % 2 + s) 1) (bit_times r (a / 2 ^ suc j % 2 + s) hr))
