-- Dropping the k low bits of a word, for any k up to 52, and what that does to it as a number: the theorem of specs/Whole.
-- The one fact that floor (FloorModel), truncation and nearest (WholeModel) go by. A carry out of F goes into E and leaves F = 0. Rests on Round.
use mathlib.Core.Path.{◌≡◌, refl, sym, ap, ap₂, ◌∙◌}
use mathlib.Core.Logic.{inl, inr}
use Prim.Native.Nat.{ℕ, zero, suc, ◌+◌, ◌-◌, ◌*◌, ◌/◌, ◌%◌, ◌^◌, ◌≤◌, ◌<◌, min}
use native.Mathlib.Nat.{le_trans, le_of_eq, lt_of_lt_of_le, mod-lt, mul_assoc, mul-le-mul_right, mul-lt-mul_of_pos_right, add-mul, add-zero, suc-add, div-add-mod', eq-or-lt_of_le, le-div_iff_mul-le, div-lt_iff_lt-mul, mul-add-div_right, mul-add-mod_self_right}
use native.Mathlib.Omega.{arith}
use lib.Arith.{digits_div, digits_mod}
use lib.Bits.{block_odd}
use lib.Pow.{pow_pos, pow-add}
use Rattle.bits.proofs.Digits.{digit}
use Rattle.binary64.specs.Number.{sign, expo, frac, magnitude, signed}
use Rattle.binary64.specs.Rounding.{mag_bits}
use Rattle.binary64.specs.Whole.{multiple_of, whole_number, Dropped, DroppingLowBits}
use Rattle.binary64.specs.inner.Steps.{round_ne, packed}
use Rattle.binary64.proofs.Words.{magnitude_is}
use Rattle.binary64.proofs.Round.{bits_over, bits_exact, round_scale}

-- ---- a number of 53 bits, or 2^53, times 2^e, has these bits
round_half : round_ne (2 ^ 53) 1 ≡ 2 ^ 52
unfolding round_ne
round_half = refl

pub exact_bits : (W e : ℕ) → 2 ^ 52 ≤ W → W ≤ 2 ^ 53 → e < 2046 → mag_bits 52 (W * 2 ^ e) ≡ e * 2 ^ 52 + W
exact_bits W e lo hi he =
    elim (eq-or-lt_of_le hi) [
      | inl q ↦
          let s : 53 + e - 52 ≡ 1 + e = omega arith in
          ap (λ (x : ℕ). mag_bits 52 (x * 2 ^ e)) q
          ∙ bits_over 52 (2 ^ 53 * 2 ^ e) (53 + e) (omega arith) (le_of_eq (pow-add 2 53 e)) top (omega arith)
          ∙ ap₂ (λ (x y : ℕ). packed x (round_ne (2 ^ 53 * 2 ^ e) y)) s s
          ∙ ap (packed (1 + e)) (round_scale (2 ^ 53) e 1 ∙ round_half) ∙ carry e W he q
      | inr l ↦ bits_exact W e lo l ∙ plain e W he l
    ]
  where
    top : 2 ^ 53 * 2 ^ e < 2 ^ suc (53 + e)
    top =
        let l : 2 ^ 53 < 2 ^ 54 = omega arith in
        lt_of_lt_of_le (mul-lt-mul_of_pos_right l (pow_pos e)) (le_of_eq (sym (pow-add 2 54 e) ∙ ap (λ (z : ℕ). 2 ^ z) (suc-add 53 e)))

    carry : (e W : ℕ) → e < 2046 → W ≡ 2 ^ 53 → packed (1 + e) (2 ^ 52) ≡ e * 2 ^ 52 + W
    carry e W h q = omega arith

    plain : (e W : ℕ) → e < 2046 → W < 2 ^ 53 → packed e W ≡ e * 2 ^ 52 + W
    plain e W h q = omega arith

-- ---- k bits of 52
back : (k : ℕ) → k ≤ 52 → 2 ^ (52 - k) * 2 ^ k ≡ 2 ^ 52
back k h = sym (pow-add 2 (52 - k) k) ∙ ap (λ (z : ℕ). 2 ^ z) (there k h)
  where
    there : (k : ℕ) → k ≤ 52 → 52 - k + k ≡ 52
    there k h = omega arith

-- ---- the significand: E = e + 1, x = 2^52 + F, k bits dropped; what is kept counts units of 2^u, u = k + e
module _ (x e k u : ℕ) (lx : 2 ^ 52 ≤ x) (hx : x < 2 ^ 53) (hk : k ≤ 52) (sum : k + e ≡ u) (he : e < 2046) where
  pu : 2 ^ u ≡ 2 ^ k * 2 ^ e
  pu = ap (λ (z : ℕ). 2 ^ z) (sym sum) ∙ pow-add 2 k e

  parts : x * 2 ^ e ≡ x / 2 ^ k * 2 ^ u + x % 2 ^ k * 2 ^ e
  parts =
      ap (λ (z : ℕ). z * 2 ^ e) (sym (div-add-mod' x (2 ^ k))) ∙ add-mul (x / 2 ^ k * 2 ^ k) (x % 2 ^ k) (2 ^ e)
      ∙ ap (λ (z : ℕ). z + x % 2 ^ k * 2 ^ e) (mul_assoc (x / 2 ^ k) (2 ^ k) (2 ^ e) ∙ ap (λ (z : ℕ). x / 2 ^ k * z) (sym pu))

  rest_lt : x % 2 ^ k * 2 ^ e < 2 ^ u
  rest_lt = lt_of_lt_of_le (mul-lt-mul_of_pos_right (mod-lt x (pow_pos k)) (pow_pos e)) (le_of_eq (sym pu))

  quotient : x * 2 ^ e / 2 ^ u ≡ x / 2 ^ k
  quotient = ap (λ (z : ℕ). z / 2 ^ u) parts ∙ digits_div (x / 2 ^ k) rest_lt

  remainder : x * 2 ^ e % 2 ^ u ≡ x % 2 ^ k * 2 ^ e
  remainder = ap (λ (z : ℕ). z % 2 ^ u) parts ∙ digits_mod (x / 2 ^ k) rest_lt

  -- the whole part, or one more, has 53 bits or is a power of two, and has the bits of a whole number
  kept_range : (n : ℕ) → x / 2 ^ k ≤ n → n ≤ suc (x / 2 ^ k) → (2 ^ 52 ≤ n * 2 ^ k) × (n * 2 ^ k ≤ 2 ^ 53)
  kept_range n nl nh =
      let b : 2 ^ (52 - k) * 2 ^ k ≡ 2 ^ 52 = back k hk in
      let lo : 2 ^ (52 - k) ≤ x / 2 ^ k = (le-div_iff_mul-le (pow_pos k)).1 (le_trans (le_of_eq b) lx) in
      let hi : x / 2 ^ k < 2 * 2 ^ (52 - k) = (div-lt_iff_lt-mul (pow_pos k)).1 (omega (arith, b, mul_assoc 2 (2 ^ (52 - k)) (2 ^ k))) in (
        le_trans (le_of_eq (sym b)) (mul-le-mul_right (2 ^ k) (le_trans lo nl)),
        le_trans (mul-le-mul_right (2 ^ k) (le_trans nh hi)) (le_of_eq (mul_assoc 2 (2 ^ (52 - k)) (2 ^ k) ∙ ap (λ (z : ℕ). 2 * z) b)),
      )

  whole_bits : (n : ℕ) → x / 2 ^ k ≤ n → n ≤ suc (x / 2 ^ k) → mag_bits 52 (n * 2 ^ u) ≡ e * 2 ^ 52 + n * 2 ^ k
  whole_bits n nl nh =
      let r = kept_range n nl nh in
      ap (mag_bits 52) (ap (λ (z : ℕ). n * z) pu ∙ sym (mul_assoc n (2 ^ k) (2 ^ e))) ∙ exact_bits (n * 2 ^ k) e r.0 r.1 he

-- ---- the word: T, its sign and e, stands above the significand
module _ (T x k : ℕ) (hk : k ≤ 52) where
  above : T * 2 ^ 52 + x ≡ T * 2 ^ (52 - k) * 2 ^ k + x
  above = ap (λ (z : ℕ). z + x) (ap (λ (z : ℕ). T * z) (sym (back k hk)) ∙ sym (mul_assoc T (2 ^ (52 - k)) (2 ^ k)))

  above_div : (T * 2 ^ 52 + x) / 2 ^ k ≡ T * 2 ^ (52 - k) + x / 2 ^ k
  above_div = ap (λ (z : ℕ). z / 2 ^ k) above ∙ mul-add-div_right (pow_pos k) (T * 2 ^ (52 - k)) x

  above_mod : (T * 2 ^ 52 + x) % 2 ^ k ≡ x % 2 ^ k
  above_mod = ap (λ (z : ℕ). z % 2 ^ k) above ∙ mul-add-mod_self_right (T * 2 ^ (52 - k)) (2 ^ k) x

  above_word : (c : ℕ) → ((T * 2 ^ 52 + x) / 2 ^ k + c) * 2 ^ k ≡ T * 2 ^ 52 + (x / 2 ^ k + c) * 2 ^ k
  above_word c =
      ap (λ (z : ℕ). (z + c) * 2 ^ k) above_div ∙ apart (T * 2 ^ (52 - k)) (x / 2 ^ k) c (2 ^ k)
      ∙ ap (λ (z : ℕ). z + (x / 2 ^ k + c) * 2 ^ k) (mul_assoc T (2 ^ (52 - k)) (2 ^ k) ∙ ap (λ (z : ℕ). T * z) (back k hk))
    where
      apart : (t q c p : ℕ) → (t + q + c) * p ≡ t * p + (q + c) * p
      apart t q c p = omega arith

  -- what stands above is even from the bit k on: so is 2^(52-k), or, where that is 1, T
  above_even : (k ≡ 52 → T % 2 ≡ 0) → (T * 2 ^ 52 + x) / 2 ^ k % 2 ≡ x / 2 ^ k % 2
  above_even ev = ap (λ (z : ℕ). z % 2) above_div ∙ go (52 - k) (λ h. ev (omega arith))
    where
      go : (j : ℕ) → (j ≡ 0 → T % 2 ≡ 0) → (T * 2 ^ j + x / 2 ^ k) % 2 ≡ x / 2 ^ k % 2
      go zero h = let t = h refl in omega arith
      go (suc j) h = block_odd T j (x / 2 ^ k)

-- ---- together
module _ (a e k u : ℕ) (hk : k ≤ 52) (he : e < 2046) (q : expo a ≡ suc e) (ke : k + e ≡ u) where
  fields : a ≡ (sign a * 2 ^ 11 + e) * 2 ^ 52 + (2 ^ 52 + frac a)
  fields = omega arith

  whole : magnitude a / 2 ^ u ≡ (2 ^ 52 + frac a) / 2 ^ k
  whole = ap (λ (M : ℕ). M / 2 ^ u) (magnitude_is a e q) ∙ quotient (2 ^ 52 + frac a) e k u (omega arith) (omega arith) hk ke he

  dropped : Dropped a k u
  dropped =
      let T = sign a * 2 ^ 11 + e in
      let x = 2 ^ 52 + frac a in
      record {
        word = λ c h.
            ap (λ (z : ℕ). (z / 2 ^ k + c) * 2 ^ k) fields ∙ above_word T x k hk c ∙ fields_apart (sign a) e ((x / 2 ^ k + c) * 2 ^ k)
            ∙ ap (signed (sign a)) (sym (whole_bits x e k u (omega arith) (omega arith) hk ke he (x / 2 ^ k + c) (omega arith) (omega arith)))
            ∙ ap (λ (n : ℕ). multiple_of u (sign a) (n + c)) (sym whole);
        rest =
            ap (λ (M : ℕ). M % 2 ^ u) (magnitude_is a e q) ∙ remainder x e k u (omega arith) (omega arith) hk ke he
            ∙ ap₂ (λ (r i : ℕ). r * 2 ^ i) (sym (ap (λ (z : ℕ). z % 2 ^ k) fields ∙ above_mod T x k hk)) (omega arith);
        last = λ odd. ap (λ (n : ℕ). n % 2) whole ∙ sym (ap (λ (z : ℕ). z / 2 ^ k % 2) fields ∙ above_even T x k hk (λ h. even (odd h)));
      }
    where
      fields_apart : (s e w : ℕ) → (s * 2 ^ 11 + e) * 2 ^ 52 + w ≡ s * 2 ^ 63 + (e * 2 ^ 52 + w)
      fields_apart s e w = omega arith

      even : expo a % 2 ≡ 1 → (sign a * 2 ^ 11 + e) % 2 ≡ 0
      even o = omega arith

pub dropping_low_bits : DroppingLowBits
dropping_low_bits a k u lo hi hk s = go (expo a) refl lo hi s
  where
    go : (E : ℕ) → expo a ≡ E → 1 ≤ E → E ≤ 2046 → E + k ≡ suc u → Dropped a k u
    go zero q l h s = absurd (omega arith)
    go (suc e) q l h s = dropped a e k u hk (omega arith) q (omega arith)

-- what a decision adds: r, where one bit of m is set
pub bit_times : (r m : ℕ) → r < 2 → r * min m 1 ≤ 1
bit_times r m h = digit (λ r. r * min m 1 ≤ 1) (omega arith) (omega arith) r h

-- ---- the fraction: 1023 ≤ E ≤ 1074
module _ (a : ℕ) (lo : 1023 ≤ expo a) (hi : expo a < 1075) where
  abbrev k : ℕ
  k = 1075 - expo a

  pub fraction_dropped : Dropped a k 1074
  fraction_dropped = dropping_low_bits a k 1074 (omega arith) (omega arith) (omega arith) (omega arith)

  -- all of F is dropped at E = 1023 alone
  pub whole_odd : magnitude a / 2 ^ 1074 % 2 ≡ a / 2 ^ k % 2
  whole_odd = fraction_dropped.last (λ h. omega arith)

  -- nothing added: the bits cleared give the whole part
  pub whole_part : a / 2 ^ k * 2 ^ k ≡ whole_number (sign a) (magnitude a / 2 ^ 1074)
  whole_part = ap (λ (n : ℕ). n * 2 ^ k) (sym (add-zero (a / 2 ^ k))) ∙ fraction_dropped.word 0 (omega arith) ∙ ap (whole_number (sign a)) (add-zero (magnitude a / 2 ^ 1074))
