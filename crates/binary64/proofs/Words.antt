-- A word's sign, and its magnitude by its exponent.
use mathlib.Core.Path.{◌≡◌, sym, ap}
use mathlib.Core.Logic.{◌⊎◌, inl, inr}
use Prim.Native.Nat.{ℕ, zero, suc, ◌+◌, ◌*◌, ◌^◌, ◌<◌}
use native.Mathlib.Nat.{le_trans, le_of_eq, lt_of_lt_of_le, mul-lt-mul_of_pos_right}
use native.Mathlib.Omega.{arith}
use lib.Pow.{pow_pos, pow-add, pow_mono}
use Rattle.binary64.specs.Number.{sign, expo, frac, magnitude_of, magnitude}

-- a word's sign is 0 or 1
pub sign_cases : (a : ℕ) → a < 2 ^ 64 → (sign a ≡ 0) ⊎ (sign a ≡ 1)
sign_cases a h = go (sign a) (omega arith)
  where
    go : (s : ℕ) → s < 2 → (s ≡ 0) ⊎ (s ≡ 1)
    go zero l = inl (omega arith)
    go (suc s) l = inr (omega arith)

-- the magnitude of a zero, and of a word that is none
pub magnitude_zero : (a : ℕ) → expo a ≡ 0 → magnitude a ≡ 0
unfolding magnitude
magnitude_zero a q = ap (λ (E : ℕ). magnitude_of E (frac a)) q

pub magnitude_is : (a e : ℕ) → expo a ≡ suc e → magnitude a ≡ (2 ^ 52 + frac a) * 2 ^ e
unfolding magnitude
magnitude_is a e q = ap (λ (E : ℕ). magnitude_of E (frac a)) q

-- a magnitude is below the power of two at which the next exponent begins, and so below those of all larger exponents
pub magnitude_below : (a p : ℕ) → expo a < p → magnitude a < 2 ^ (51 + p)
unfolding magnitude
magnitude_below a p h = go (expo a) h
  where
    go : (E : ℕ) → E < p → magnitude_of E (frac a) < 2 ^ (51 + p)
    go zero h = pow_pos (51 + p)
    go (suc e) h =
        let x : 2 ^ 52 + frac a < 2 ^ 53 = omega arith in
        lt_of_lt_of_le (mul-lt-mul_of_pos_right x (pow_pos e)) (le_trans (le_of_eq (sym (pow-add 2 53 e))) (pow_mono {i = 53 + e} {j = 51 + p} (omega arith)))
