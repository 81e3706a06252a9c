-- Shifts and spread go through XOR and AND share by share; shifts add up.
-- Rests on Digits and lib.Bits's block, shift and remainder laws; the left shift's laws hold at any width.
use mathlib.Core.Path.{◌≡◌, refl, sym, ap, ap₂, ◌∙◌}
use Prim.Native.Nat.{ℕ, ◌+◌, ◌-◌, ◌*◌, ◌/◌, ◌%◌, ◌^◌, ◌≤◌, ◌<◌}
use native.Mathlib.Nat.{add-zero, mul_assoc, mul_comm, mul_right_comm, add-mul, mul-one, mod-eq_of_lt, div-eq_of_lt, lt_of_lt_of_le, div-add-mod', mul-add-mod_self_right, mul-mod_left}
use lib.Bits as Bits
use lib.Bits.{bit_xor, bit_and, differ}
use lib.Pow.{pow_pos, pow-add, pow_mono, shr-shr}
use Rattle.bits.specs.Ops.{xor_w, and_w, shl_w, shr_w, spread_w}
use Rattle.bits.proofs.Digits.{digit, bit_lt, xor_odd}
use Rattle.bits.proofs.Xor.{xor_zero, xor_zero_l, xor_self}

-- an operation by blocks goes through a left shift at any width w
shl_through : (f : ℕ → ℕ → ℕ) → f 0 0 ≡ 0
    → ((k a b r s : ℕ) → r < 2 ^ k → s < 2 ^ k → f (a * 2 ^ k + r) (b * 2 ^ k + s) ≡ f a b * 2 ^ k + f r s)
    → ((a b w : ℕ) → f a b % 2 ^ w ≡ f (a % 2 ^ w) (b % 2 ^ w))
    → (w k a b : ℕ) → (f a b * 2 ^ k) % 2 ^ w ≡ f ((a * 2 ^ k) % 2 ^ w) ((b * 2 ^ k) % 2 ^ w)
shl_through f z block low w k a b = ap (λ (x : ℕ). x % 2 ^ w) up ∙ low (a * 2 ^ k) (b * 2 ^ k) w
  where
    up : f a b * 2 ^ k ≡ f (a * 2 ^ k) (b * 2 ^ k)
    up =
        sym (add-zero (f a b * 2 ^ k)) ∙ ap (λ (x : ℕ). f a b * 2 ^ k + x) (sym z) ∙ sym (block k a b 0 0 (pow_pos k) (pow_pos k))
        ∙ ap₂ f (add-zero (a * 2 ^ k)) (add-zero (b * 2 ^ k))

pub shl_xor : (a b k : ℕ) → shl_w (xor_w a b) k ≡ xor_w (shl_w a k) (shl_w b k)
unfolding shl_w xor_w
shl_xor a b k = shl_through bit_xor refl Bits.xor_block Bits.xor_mod 64 k a b

pub shl_and : (a b k : ℕ) → shl_w (and_w a b) k ≡ and_w (shl_w a k) (shl_w b k)
unfolding shl_w and_w
shl_and a b k = shl_through bit_and refl Bits.and_block Bits.and_mod 64 k a b

pub shr_xor : (a b k : ℕ) → shr_w (xor_w a b) k ≡ xor_w (shr_w a k) (shr_w b k)
unfolding shr_w xor_w
shr_xor a b k = Bits.xor_shr a b k

pub spread_xor : (a b : ℕ) → spread_w (xor_w a b) ≡ xor_w (spread_w a) (spread_w b)
unfolding spread_w
spread_xor a b = ap (λ (x : ℕ). x * (2 ^ 64 - 1)) (xor_odd a b) ∙ by (a % 2) (bit_lt a) (b % 2) (bit_lt b)
  where
    by : (x : ℕ) → x < 2 → (y : ℕ) → y < 2 → differ x y * (2 ^ 64 - 1) ≡ xor_w (x * (2 ^ 64 - 1)) (y * (2 ^ 64 - 1))
    by x hx y hy =
        digit (λ x. differ x y * (2 ^ 64 - 1) ≡ xor_w (x * (2 ^ 64 - 1)) (y * (2 ^ 64 - 1)))
        (sym (xor_zero_l (y * (2 ^ 64 - 1))))
        (digit (λ y. differ 1 y * (2 ^ 64 - 1) ≡ xor_w (2 ^ 64 - 1) (y * (2 ^ 64 - 1))) (sym (xor_zero (2 ^ 64 - 1))) (sym (xor_self (2 ^ 64 - 1))) y hy)
        x hx

pub shl_zero : (a : ℕ) → a < 2 ^ 64 → shl_w a 0 ≡ a
unfolding shl_w
shl_zero a h = ap (λ (x : ℕ). x % 2 ^ 64) (mul-one a) ∙ mod-eq_of_lt h

-- a factor's remainder will do
mod_times : (m x c : ℕ) → (x % m * c) % m ≡ (x * c) % m
mod_times m x c =
    sym (mul-add-mod_self_right (x / m * c) m (x % m * c))
    ∙ ap (λ (y : ℕ). (y + x % m * c) % m) (mul_right_comm (x / m) c m)
    ∙ ap (λ (y : ℕ). y % m) (sym (add-mul (x / m * m) (x % m) c))
    ∙ ap (λ (y : ℕ). (y * c) % m) (div-add-mod' x m)

pub shl_shl : (a i j : ℕ) → shl_w (shl_w a i) j ≡ shl_w a (i + j)
unfolding shl_w
shl_shl a i j = mod_times (2 ^ 64) (a * 2 ^ i) (2 ^ j) ∙ ap (λ (x : ℕ). x % 2 ^ 64) (mul_assoc a (2 ^ i) (2 ^ j) ∙ ap (λ (p : ℕ). a * p) (sym (pow-add 2 i j)))

-- a shift by the width or more leaves nothing
pub shl_width : (a k : ℕ) → shl_w a (64 + k) ≡ 0
unfolding shl_w
shl_width a k =
    ap (λ (p : ℕ). (a * p) % 2 ^ 64) (pow-add 2 64 k ∙ mul_comm (2 ^ 64) (2 ^ k))
    ∙ ap (λ (p : ℕ). p % 2 ^ 64) (sym (mul_assoc a (2 ^ k) (2 ^ 64))) ∙ mul-mod_left (a * 2 ^ k) (2 ^ 64)

pub shr_width : (a k : ℕ) → a < 2 ^ 64 → 64 ≤ k → shr_w a k ≡ 0
unfolding shr_w
shr_width a k h l = div-eq_of_lt (lt_of_lt_of_le h (pow_mono l))

pub shr_shr' : (a i j : ℕ) → shr_w (shr_w a i) j ≡ shr_w a (i + j)
unfolding shr_w
shr_shr' a i j = shr-shr a i j
