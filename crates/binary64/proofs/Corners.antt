-- The documents' sentences at the corners: the theorem of specs/Corners. Rests on Round, SumCases, FloorModel and WholeModel; the concrete words by
-- computation.
use mathlib.Core.Path.{◌≡◌, refl, sym, ap, ap₂, ◌∙◌}
use mathlib.Core.Logic.{inl, inr}
use Prim.Native.Nat.{ℕ, ◌+◌, ◌-◌, ◌*◌, ◌^◌, ◌≤◌, ◌<◌}
use native.Mathlib.Omega.{arith}
use lib.Arith.{digits_div}
use lib.Ieee.{size}
use Rattle.bits.specs.Ops.{xor_w}
use Rattle.binary64.specs.Number.{sign, expo, frac, magnitude, signed}
use Rattle.binary64.specs.Rounding.{rounded_e, rounded_f, mag_bits}
use Rattle.binary64.specs.Product.{product}
use Rattle.binary64.specs.Sum.{sum_of, sum}
use Rattle.binary64.specs.Corners.{Corners}
use Rattle.binary64.proofs.Cases.{zero_one}
use Rattle.binary64.proofs.Words.{sign_cases, magnitude_zero, magnitude_is}
use Rattle.binary64.proofs.Round.{bits_small, bits_lt, bits_zero}
use Rattle.binary64.proofs.SumCases.{sum_like, sum_greater, sum_equal, sum_comm}
use Rattle.binary64.proofs.FloorModel as F
use Rattle.binary64.proofs.WholeModel as W

-- ---- reading a word
reads_number : (a : ℕ) → 1 ≤ expo a → magnitude a ≡ (2 ^ 52 + frac a) * 2 ^ (expo a - 1)
reads_number a h = magnitude_is a (expo a - 1) (omega arith)

-- ---- underflow
product_sign : (a b : ℕ) → sign (product a b) ≡ xor_w (sign a) (sign b)
unfolding product
product_sign a b = digits_div (xor_w (sign a) (sign b)) (bits_lt 1126 (magnitude a * magnitude b) (omega arith))

product_underflow : (a b : ℕ) → magnitude a * magnitude b < 2 ^ 1126 → product a b ≡ signed (xor_w (sign a) (sign b)) 0
unfolding product
product_underflow a b h = ap (signed (xor_w (sign a) (sign b))) (bits_small 1126 (magnitude a * magnitude b) h)

sum_underflow : (a b : ℕ) → sign a ≡ sign b → magnitude a + magnitude b < 2 ^ 52 → sum a b ≡ signed (sign a) 0
unfolding sum
sum_underflow a b s h = sum_like (sign a) (sign b) (magnitude a) (magnitude b) s ∙ ap (signed (sign a)) (bits_small 52 (magnitude a + magnitude b) h)

difference_underflow : (a b : ℕ) → (sign a ≡ sign b → ⊥) → magnitude b < magnitude a → magnitude a - magnitude b < 2 ^ 52 → sum a b ≡ signed (sign a) 0
unfolding sum
difference_underflow a b n l h = sum_greater (sign a) (sign b) (magnitude a) (magnitude b) n l ∙ ap (signed (sign a)) (bits_small 52 (magnitude a - magnitude b) h)

-- ---- zeros
cancellation : (a b : ℕ) → (sign a ≡ sign b → ⊥) → magnitude a ≡ magnitude b → sum a b ≡ 0
unfolding sum
cancellation a b = sum_equal (sign a) (sign b) (magnitude a) (magnitude b)

zeros_like : (a b s : ℕ) → magnitude a ≡ 0 → magnitude b ≡ 0 → sign a ≡ s → sign b ≡ s → sum a b ≡ signed s 0
unfolding sum
zeros_like a b s za zb sa sb =
    sum_like (sign a) (sign b) (magnitude a) (magnitude b) (sa ∙ sym sb)
    ∙ ap₂ (λ (x y : ℕ). signed (sign a) (mag_bits 52 (x + y))) za zb
    ∙ ap₂ signed sa (bits_zero 52)

zeros_plus : (a b : ℕ) → a < 2 ^ 64 → b < 2 ^ 64 → magnitude a ≡ 0 → magnitude b ≡ 0 → ((sign a ≡ 1) × (sign b ≡ 1) → ⊥) → sum a b ≡ 0
zeros_plus a b ha hb za zb n =
    elim (sign_cases a ha) [
      | inl s ↦
          elim (sign_cases b hb) [
            | inl t ↦ zeros_like a b 0 za zb s t
            | inr t ↦ cancellation a b (λ e. zero_one (sym e ∙ s) t) (za ∙ sym zb)
          ]
      | inr s ↦
          elim (sign_cases b hb) [
            | inl t ↦ cancellation a b (λ e. zero_one (e ∙ t) s) (za ∙ sym zb)
            | inr t ↦ absurd (n (s, t))
          ]
    ]

-- ---- together
pub corners : Corners
corners =
    record {
      reads_zero = magnitude_zero;
      reads_number = reads_number;
      product_sign = product_sign;
      product_underflow = product_underflow;
      product_before_rounding = unfold size xor_w magnitude rounded_e rounded_f mag_bits product in refl;
      product_rounded_first = unfold size magnitude rounded_e rounded_f in refl;
      sum_underflow = sum_underflow;
      difference_underflow = λ a b n l h. (difference_underflow a b n l h, sum_comm b a ∙ difference_underflow a b n l h);
      zeros_minus = λ a b za zb s t. zeros_like a b 1 za zb s t;
      zeros_plus = zeros_plus;
      cancellation = cancellation;
      floor_large = F.floor_large;
      floor_zero = F.floor_zero;
      floor_small_plus = F.floor_small_plus;
      floor_small_minus = λ a o h s. F.floor_small_minus a o h (λ t. zero_one t s);
      minus_one = unfold magnitude in (refl, refl);
      truncate_large = W.truncate_large;
      nearest_large = W.nearest_large;
      truncate_small = W.truncate_small;
      nearest_small = W.nearest_small;
      nearest_half = W.nearest_half;
      no_nan = unfold size magnitude rounded_e rounded_f mag_bits sum_of sum in refl;
      no_infinity = unfold size magnitude rounded_e rounded_f mag_bits sum_of sum in refl;
      zero_times = unfold size xor_w magnitude rounded_e rounded_f mag_bits product in refl;
    }
