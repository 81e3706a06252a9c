-- Nearest's plan where the decoder leaves no place: E < 1023, and E from 1075 on. Rests on Parts and RoundUp.
use mathlib.Core.Path.{◌≡◌, refl, ap, ap₂, ◌∙◌}
use Prim.Native.Nat.{ℕ, ◌-◌, ◌*◌, ◌/◌, ◌%◌, ◌^◌, ◌<◌, min}
use native.Mathlib.Nat.{one-mul, zero-mul}
use native.Mathlib.Omega.{arith}
use Rattle.bits.specs.Ops.{xor_w, and_w, shl_w}
use Rattle.bits.proofs.Xor.{xor_zero, xor_zero_l, and_zero, and_zero_l}
use Rattle.bits.proofs.Places.{and_low}
use Rattle.binary64.specs.Number.{sign, frac, signed}
use Rattle.plans.proofs.Fields.{low_bits}
use Rattle.plans.proofs.RoundUp.{rounded_up, stays, next_below}
use Rattle.plans.proofs.decoder.Decoded.{fold}
use Rattle.plans.proofs.nearest.Parts.{first_of, others_of, rounded_to, fold_none}

-- ---- no place is decoded: the first bit dropped is h, and U decides what is dropped
module _ (x k : ℕ) where
  first_is : (h : ℕ) → first_of x 0 h ≡ h
  unfolding first_of
  first_is h = ap (λ (w : ℕ). xor_w w h) (ap fold (and_zero x) ∙ fold_none) ∙ xor_zero_l h

  others_are : others_of x 0 (x % 2 ^ k) ≡ x % 2 ^ k % 2 ^ 52
  unfolding others_of shl_w
  others_are = ap₂ xor_w (ap₂ xor_w (low_bits (x % 2 ^ k) 12 52 refl) (and_zero x) ∙ xor_zero (x % 2 ^ k % 2 ^ 52)) (and_zero_l x) ∙ xor_zero (x % 2 ^ k % 2 ^ 52)

  -- what decides is F
  outside : (h : ℕ) → rounded_to x 0 0 (2 ^ k - 1) h ≡ rounded_up x 0 (x % 2 ^ k) h (x % 2 ^ k % 2 ^ 52) h
  unfolding rounded_to
  outside h =
      ap (λ (f : ℕ). rounded_up x 0 f h (others_of x 0 f) (first_of x 0 h)) (ap (and_w x) (xor_zero_l (2 ^ k - 1)) ∙ and_low x k)
      ∙ ap₂ (rounded_up x 0 (x % 2 ^ k) h) others_are (first_is h)

  -- h = 0: nothing is added
  pub none_first : rounded_to x 0 0 (2 ^ k - 1) 0 ≡ x / 2 ^ k * 2 ^ k
  none_first = outside 0 ∙ stays x k 0 0 (x % 2 ^ k % 2 ^ 52) 0 (omega arith) (omega arith) (omega arith) (zero-mul (min (x % 2 ^ k % 2 ^ 52) 1))

-- E = 1022: the leading bit is the first bit dropped, and the next whole number is 1
pub half : (x : ℕ) → x < 2 ^ 64 → rounded_to x 0 0 (2 ^ 63 - 1) 1 ≡ signed (sign x) (min (frac x) 1 * (1023 * 2 ^ 52))
half x hx =
    let o : ℕ = x % 2 ^ 63 % 2 ^ 52 in
    let e : x % 2 ^ 63 % 2 ^ 52 ≡ frac x = omega arith in
    outside x 63 1 ∙ next_below x o 1 hx (omega arith) (omega arith)
    ∙ ap (λ (v : ℕ). signed (sign x) (v * (1023 * 2 ^ 52))) (one-mul (min o 1) ∙ ap (λ (v : ℕ). min v 1) e)
