-- Word operations digit by digit: the halves and lowest digits of XOR and AND, and that these two make a number.
-- Rests on lib.Bits's step laws.
use mathlib.Core.Path.{◌≡◌, refl, ap, ◌∙◌}
use Prim.Native.Nat.{ℕ, zero, suc, ◌-◌, ◌/◌, ◌%◌, ◌^◌, ◌<◌, min, max}
use native.Mathlib.Nat.{mod-lt, le_of_suc-le-suc, not-suc-le-zero, zero-lt-suc}
use native.Mathlib.Omega.{arith}
use lib.Arith.{digits_div, digits_mod}
use lib.Bits.{differ, xor_step, and_step}
use Rattle.bits.specs.Ops.{xor_w, and_w}

-- a digit is 0 or 1
pub digit {ℓ} : (P : ℕ → Type ℓ) → P 0 → P 1 → (x : ℕ) → x < 2 → P x
digit P p q zero h = p
digit P p q (suc zero) h = q
digit P p q (suc (suc x)) h = absurd (not-suc-le-zero (le_of_suc-le-suc (le_of_suc-le-suc h)))

pub bit_lt : (x : ℕ) → x % 2 < 2
bit_lt x = mod-lt x (zero-lt-suc 1)

-- an equation of three digits holds where it holds of 0 and 1
pub digits3 : (f g : ℕ → ℕ → ℕ → ℕ) → f 0 0 0 ≡ g 0 0 0 → f 0 0 1 ≡ g 0 0 1 → f 0 1 0 ≡ g 0 1 0 → f 0 1 1 ≡ g 0 1 1
    → f 1 0 0 ≡ g 1 0 0 → f 1 0 1 ≡ g 1 0 1 → f 1 1 0 ≡ g 1 1 0 → f 1 1 1 ≡ g 1 1 1
    → (a b c : ℕ) → f (a % 2) (b % 2) (c % 2) ≡ g (a % 2) (b % 2) (c % 2)
digits3 f g p₀ p₁ p₂ p₃ p₄ p₅ p₆ p₇ a b c =
    digit (λ x. f x (b % 2) (c % 2) ≡ g x (b % 2) (c % 2))
    (two 0 p₀ p₁ p₂ p₃) (two 1 p₄ p₅ p₆ p₇) _ (bit_lt a)
  where
    two : (x : ℕ) → f x 0 0 ≡ g x 0 0 → f x 0 1 ≡ g x 0 1 → f x 1 0 ≡ g x 1 0 → f x 1 1 ≡ g x 1 1 → f x (b % 2) (c % 2) ≡ g x (b % 2) (c % 2)
    two x q₀ q₁ q₂ q₃ =
        digit (λ y. f x y (c % 2) ≡ g x y (c % 2)) (digit (λ z. f x 0 z ≡ g x 0 z) q₀ q₁ _ (bit_lt c)) (digit (λ z. f x 1 z ≡ g x 1 z) q₂ q₃ _ (bit_lt c)) _ (bit_lt b)

-- and one of two digits likewise
pub digits2 : (f g : ℕ → ℕ → ℕ) → f 0 0 ≡ g 0 0 → f 0 1 ≡ g 0 1 → f 1 0 ≡ g 1 0 → f 1 1 ≡ g 1 1 → (a b : ℕ) → f (a % 2) (b % 2) ≡ g (a % 2) (b % 2)
digits2 f g p₀ p₁ p₂ p₃ a b = digits3 (λ x y z. f x y) (λ x y z. g x y) p₀ p₀ p₁ p₁ p₂ p₂ p₃ p₃ a b 0

pub differ_zero : (x : ℕ) → differ x 0 ≡ x
differ_zero zero = refl
differ_zero (suc x) = refl

-- XOR with what AND with NOT leaves is OR
pub or_digit : (a b : ℕ) → differ (a % 2) (min (1 - a % 2) (b % 2)) ≡ max (a % 2) (b % 2)
or_digit = digits2 (λ x y. differ x (min (1 - x) y)) max refl refl refl refl

differ_lt : (x y : ℕ) → differ (x % 2) (y % 2) < 2
differ_lt x y =
    digit (λ a. differ a (y % 2) < 2) (bit_lt y) (digit (λ b. differ 1 b < 2) (omega arith) (omega arith) (y % 2) (bit_lt y)) (x % 2) (bit_lt x)

pub xor_half : (a b : ℕ) → xor_w a b / 2 ≡ xor_w (a / 2) (b / 2)
unfolding xor_w
xor_half a b = ap (λ (x : ℕ). x / 2) (xor_step a b) ∙ digits_div _ (differ_lt a b)

pub xor_odd : (a b : ℕ) → xor_w a b % 2 ≡ differ (a % 2) (b % 2)
unfolding xor_w
xor_odd a b = ap (λ (x : ℕ). x % 2) (xor_step a b) ∙ digits_mod (xor_w (a / 2) (b / 2)) (differ_lt a b)

pub and_half : (a b : ℕ) → and_w a b / 2 ≡ and_w (a / 2) (b / 2)
unfolding and_w
and_half a b = ap (λ (x : ℕ). x / 2) (and_step a b) ∙ digits_div _ (omega (arith, bit_lt a))

pub and_odd : (a b : ℕ) → and_w a b % 2 ≡ min (a % 2) (b % 2)
unfolding and_w
and_odd a b = ap (λ (x : ℕ). x % 2) (and_step a b) ∙ digits_mod (and_w (a / 2) (b / 2)) (omega (arith, bit_lt a))

-- two numbers are equal when their halves and their lowest digits are
pub ext_half : (a b : ℕ) → a / 2 ≡ b / 2 → a % 2 ≡ b % 2 → a ≡ b
ext_half a b p q = omega arith

-- bit i of a
abbrev pub bit : ℕ → ℕ → ℕ
bit a i = a / 2 ^ i % 2
