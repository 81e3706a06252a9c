-- The sum's plan, the leading zeros of z: z smeared to the right has ones from its top bit down, and NOT leaves ones at its leading zeros.
-- Folded over 2^k, their bit 0 is bit k of their count, and twice them, folded so, have the bits of the count less 1. Rests on bits' Places and lib.Count.
use mathlib.Core.Path.{◌≡◌, refl, sym, ap, ap₂, ◌∙◌, subst}
use mathlib.Core.Logic.{◌⊎◌, inl, inr}
use Prim.Native.Nat.{ℕ, zero, suc, ◌+◌, ◌-◌, ◌*◌, ◌/◌, ◌%◌, ◌^◌, ◌≤◌, ◌<◌, min, max}
use native.Mathlib.Nat.{mod-eq_of_lt, add_comm, zero-mul, lt_of_le_of_lt, div-eq_of_lt, mul-pos, zero-lt-suc, div-div-eq-div-mul, le-div_iff_mul-le, one-mul, eq-zero-or-pos, add-mod, div-le_self, add-div_right}
use native.Mathlib.Numerals.{one-add}
use native.Mathlib.Omega.{arith}
use lib.Bits.{differ}
use lib.Count.{count_leading_zeros, leading_le, leading_of_zero, leading_top}
use lib.Pow.{pow_pos, shr-shr, mod-pow-add}
use Rattle.bits.specs.Ops.{xor_w, and_w, not_w, shl_w, shr_w}
use Rattle.bits.proofs.Digits.{digit, bit_lt, bit}
use Rattle.bits.proofs.Shift.{shl_zero}
use Rattle.bits.proofs.Bound.{xor_lt, and_lt, shr_lt, not_lt}
use Rattle.bits.proofs.Parity.{xor_bit}
use Rattle.bits.proofs.Places.{bit_xor, bit_and, bit_shr, bit_shl, bit_shl_low, bit_not}
use Rattle.binary64.proofs.Cases.{pow_lt_back, lt_or_ge}
use Rattle.plans.proofs.Lanes.{is_zero}
use Rattle.plans.proofs.sum.Run.{or_shr, leading_w, fold_w}

-- ---- OR by XOR, XOR and AND
or_bit : (s t i : ℕ) → bit (or_shr s t) i ≡ max (bit t i) (bit t (s + i))
unfolding or_shr
or_bit s t i =
    bit_xor t (xor_w (shr_w t s) (and_w t (shr_w t s))) i
    ∙ ap (differ (bit t i)) (bit_xor (shr_w t s) (and_w t (shr_w t s)) i ∙ ap (differ (bit (shr_w t s) i)) (bit_and t (shr_w t s) i))
    ∙ ap (λ (y : ℕ). differ (bit t i) (differ y (min (bit t i) y))) (bit_shr t s i)
    ∙ by (bit t i) (bit_lt (t / 2 ^ i)) (bit t (s + i)) (bit_lt (t / 2 ^ (s + i)))
  where
    by : (x : ℕ) → x < 2 → (y : ℕ) → y < 2 → differ x (differ y (min x y)) ≡ max x y
    by x hx y hy =
        digit (λ x. differ x (differ y (min x y)) ≡ max x y) (digit (λ y. differ 0 (differ y (min 0 y)) ≡ max 0 y) refl refl y hy)
        (digit (λ y. differ 1 (differ y (min 1 y)) ≡ max 1 y) refl refl y hy) x hx

or_lt : (s t : ℕ) → t < 2 ^ 64 → or_shr s t < 2 ^ 64
unfolding or_shr
or_lt s t h = xor_lt 64 t (xor_w (shr_w t s) (and_w t (shr_w t s))) h (xor_lt 64 (shr_w t s) (and_w t (shr_w t s)) (shr_lt 64 t s h) (and_lt 64 t (shr_w t s) h))

-- bit p of S tells whether one of the n bits of z from p on is set
abbrev SomeRuns : ℕ → ℕ → ℕ → Type 0
SomeRuns n S z = (p : ℕ) → bit S p ≡ min (z / 2 ^ p % 2 ^ n) 1

some_one : (z : ℕ) → SomeRuns 1 z z
some_one z p = one (z / 2 ^ p)
  where
    one : (x : ℕ) → x % 2 ≡ min (x % 2) 1
    one x = omega arith

some_double : (n S z : ℕ) → SomeRuns n S z → SomeRuns (n + n) (or_shr n S) z
some_double n S z r p =
    or_bit n S p ∙ ap₂ max (r p) (r (n + p) ∙ ap (λ (x : ℕ). min (x % 2 ^ n) 1) (ap (λ (x : ℕ). z / 2 ^ x) (add_comm n p) ∙ sym (shr-shr z p n)))
    ∙ both (z / 2 ^ p / 2 ^ n % 2 ^ n) (z / 2 ^ p % 2 ^ n) (2 ^ n) (pow_pos n) ∙ ap (λ (x : ℕ). min x 1) (sym (mod-pow-add (z / 2 ^ p) n n))
  where
    both : (hi lo m : ℕ) → 0 < m → max (min lo 1) (min hi 1) ≡ min (hi * m + lo) 1
    both zero lo m h = let e = zero-mul m in omega arith
    both (suc hi) lo m h = let e : 0 < suc hi * m = mul-pos (zero-lt-suc hi) h in omega arith

module _ (z : ℕ) (h : z < 2 ^ 64) where
  smeared : ℕ
  smeared = or_shr 32 (or_shr 16 (or_shr 8 (or_shr 4 (or_shr 2 (or_shr 1 z)))))

  smeared_runs : SomeRuns 64 smeared z
  unfolding smeared
  smeared_runs =
      some_double 32 (or_shr 16 (or_shr 8 (or_shr 4 (or_shr 2 (or_shr 1 z))))) z
      (some_double 16 (or_shr 8 (or_shr 4 (or_shr 2 (or_shr 1 z)))) z
      (some_double 8 (or_shr 4 (or_shr 2 (or_shr 1 z))) z
      (some_double 4 (or_shr 2 (or_shr 1 z)) z (some_double 2 (or_shr 1 z) z (some_double 1 z z (some_one z))))))

  smeared_lt : smeared < 2 ^ 64
  unfolding smeared
  smeared_lt = or_lt 32 _ (or_lt 16 _ (or_lt 8 _ (or_lt 4 _ (or_lt 2 _ (or_lt 1 z h)))))

  leading_is : leading_w z ≡ not_w smeared
  unfolding leading_w smeared
  leading_is = ap (λ (x : ℕ). not_w (or_shr 32 (or_shr 16 (or_shr 8 (or_shr 4 (or_shr 2 (or_shr 1 x))))))) (shl_zero z h)

  -- bit i of th is [z < 2^i]
  pub leading_bit : (i : ℕ) → i < 64 → bit (leading_w z) i ≡ is_zero (z / 2 ^ i)
  leading_bit i l =
      ap (λ (x : ℕ). bit x i) leading_is ∙ bit_not smeared i smeared_lt l
      ∙ ap (λ (x : ℕ). 1 - x) (smeared_runs i ∙ ap (λ (x : ℕ). min x 1) (mod-eq_of_lt (lt_of_le_of_lt (div-le_self z (2 ^ i)) h)))

pub leading_lt : (z : ℕ) → leading_w z < 2 ^ 64
unfolding leading_w
leading_lt z = not_lt (or_shr 32 (or_shr 16 (or_shr 8 (or_shr 4 (or_shr 2 (or_shr 1 (shl_w z 0)))))))

-- ---- the count
-- the ones of th folded over s: bit i, i < s, is the parity of the places of z's leading zeros that are i modulo s
abbrev pub Folds : ℕ → ℕ → ℕ → Type 0
Folds lz s y = (i : ℕ) → i < s → bit y i ≡ (lz + i) / s % 2

-- with q = n / s: q / 2 + (q + 1) / 2 = q
fold_half : (n s : ℕ) → 0 < s → (n / (s * 2) % 2 + (n + s) / (s * 2) % 2) % 2 ≡ n / s % 2
fold_half n s h =
    ap₂ (λ (x y : ℕ). (x % 2 + y % 2) % 2) (sym (div-div-eq-div-mul n s 2)) (sym (div-div-eq-div-mul (n + s) s 2) ∙ ap (λ (x : ℕ). x / 2) (add-div_right n h))
    ∙ halves (n / s)
  where
    halves : (q : ℕ) → (q / 2 % 2 + (q + 1) / 2 % 2) % 2 ≡ q % 2
    halves q = sym (add-mod (q / 2) ((q + 1) / 2) 2) ∙ ap (λ (x : ℕ). x % 2) (omega arith)

pub fold_step : (lz s y : ℕ) → 0 < s → Folds lz (s * 2) y → Folds lz s (fold_w s y)
unfolding fold_w
fold_step lz s y h f i l =
    xor_bit y (shr_w y s) i
    ∙ ap₂ (λ (p q : ℕ). (p + q) % 2) (f i (omega arith)) (bit_shr y s i ∙ f (s + i) (omega arith) ∙ ap (λ (x : ℕ). x / (s * 2) % 2) (omega arith))
    ∙ fold_half (lz + i) s h

-- the start: i is the place of a leading zero exactly where the count reaches it from above
pub fold_start : (z : ℕ) → z < 2 ^ 64 → Folds (count_leading_zeros 64 z) 64 (leading_w z)
fold_start z h i l = leading_bit z h i l ∙ go (eq-zero-or-pos z)
  where
    one : (n : ℕ) → 64 ≤ n → n < 128 → is_zero 0 ≡ n / 64 % 2
    one n a b = omega arith

    none : (q n : ℕ) → 0 < q → n < 64 → is_zero q ≡ n / 64 % 2
    none q n a b = omega arith

    go : (z ≡ 0) ⊎ (0 < z) → is_zero (z / 2 ^ i) ≡ (count_leading_zeros 64 z + i) / 64 % 2
    go (inl e) =
        ap (λ (x : ℕ). is_zero (x / 2 ^ i)) e ∙ ap is_zero (div-eq_of_lt (pow_pos i))
        ∙ one (64 + i) (omega arith) (omega arith) ∙ sym (ap (λ (x : ℕ). (x + i) / 64 % 2) (ap (count_leading_zeros 64) e ∙ leading_of_zero 64))
    go (inr p) =
        let t = leading_top 64 z p h in
        elim (lt_or_ge z (2 ^ i)) [
          | inl g ↦
              let j : t.0 < i = pow_lt_back t.0 i (lt_of_le_of_lt t.2 g) in
              ap is_zero (div-eq_of_lt g) ∙ one (count_leading_zeros 64 z + i) (omega (arith, t.1)) (omega (arith, t.1))
          | inr g ↦
              let j : i < suc t.0 = pow_lt_back i (suc t.0) (lt_of_le_of_lt g t.3) in
              none (z / 2 ^ i) (count_leading_zeros 64 z + i) ((le-div_iff_mul-le (pow_pos i)).1 (subst (λ (x : ℕ). x ≤ z) (sym (one-mul (2 ^ i))) g)) (omega (arith, t.1))
        ]

-- one place further up the count reaches it one later; where there are no leading zeros there is nothing to count
pub fold_twice : (z : ℕ) → z < 2 ^ 64 → Folds (count_leading_zeros 64 z - 1) 64 (shl_w (leading_w z) 1)
fold_twice z h zero l = bit_shl_low (leading_w z) 1 0 (omega arith) ∙ below (count_leading_zeros 64 z) (leading_le 64 z)
  where
    below : (n : ℕ) → n ≤ 64 → 0 ≡ (n - 1 + 0) / 64 % 2
    below n g = omega arith
fold_twice z h (suc i) l =
    ap (bit (shl_w (leading_w z) 1)) (sym (one-add i)) ∙ bit_shl (leading_w z) 1 i (omega arith) ∙ fold_start z h i (omega arith) ∙ later (count_leading_zeros 64 z) l
  where
    later : (n : ℕ) → suc i < 64 → (n + i) / 64 % 2 ≡ (n - 1 + suc i) / 64 % 2
    later n g = omega arith
