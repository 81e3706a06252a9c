-- What short runs of steps leave, in numbers: low bits and fields by two shifts, a bit spread at a place, runs of ones, packing by XOR,
-- a choice by a spread bit, shifts by a chosen amount, and clearing low bits. Every law is over the places and widths.
-- Rests on the laws of words (crate bits).
use mathlib.Core.Path.{◌≡◌, refl, sym, ap, ap₂, ◌∙◌, subst}
use Prim.Native.Nat.{ℕ, ◌+◌, ◌-◌, ◌*◌, ◌/◌, ◌%◌, ◌^◌, ◌≤◌, ◌<◌}
use native.Mathlib.Nat.{add-zero, zero-mul, one-mul, zero-div, div-one, mod-lt, lt_of_lt_of_le}
use native.Mathlib.Omega.{arith}
use lib.Pow as Pow
use lib.Pow.{pow_pos, pow_mono, shr-shr, shl-shr, ones_lt}
use Rattle.bits.specs.Ops.{xor_w, and_w, not_w, shl_w, shr_w, spread_w}
use Rattle.bits.proofs.Digits.{digit, bit_lt, bit}
use Rattle.bits.proofs.Xor.{xor_comm, xor_cancel_r, and_xor, not_xor}
use Rattle.bits.proofs.Shift.{shl_zero}
use Rattle.bits.proofs.Bound.{shr_lt, shl_lt}
use Rattle.bits.proofs.Choice.{and_ones, select}
use Rattle.bits.proofs.Places.{shr_is, shl_exact, and_low, ones_shr, bit_mod, bit_mod_above}
use Rattle.bits.proofs.Sum.{xor_packed}

-- ---- fields: SHL m, SHR m + l leaves the k bits from place l on
pub field : (a m l k : ℕ) → m + l + k ≡ 64 → shr_w (shl_w a m) (m + l) ≡ a / 2 ^ l % 2 ^ k
unfolding shr_w shl_w
field a m l k e =
    let w : 64 ≡ k + (m + l) = omega arith in
    ap (λ (n : ℕ). (a * 2 ^ m) % 2 ^ n / 2 ^ (m + l)) w ∙ Pow.field (a * 2 ^ m) k (m + l)
    ∙ ap (λ (x : ℕ). x % 2 ^ k) (sym (shr-shr (a * 2 ^ m) m l) ∙ ap (λ (x : ℕ). x / 2 ^ l) (shl-shr a m))

-- SHL m, SHR m leaves the k low bits
pub low_bits : (a m k : ℕ) → m + k ≡ 64 → shr_w (shl_w a m) m ≡ a % 2 ^ k
low_bits a m k e =
    ap (shr_w (shl_w a m)) (sym (add-zero m)) ∙ field a m 0 k (ap (λ (x : ℕ). x + k) (add-zero m) ∙ e) ∙ ap (λ (x : ℕ). x % 2 ^ k) (div-one a)

pub low_lt : (x k n : ℕ) → k ≤ n → x % 2 ^ k < 2 ^ n
low_lt x k n h = lt_of_lt_of_le (mod-lt x (pow_pos k)) (pow_mono {i = k} {j = n} h)

-- these by their places
pub low_in : (k a i : ℕ) → k ≤ 64 → i < k → bit (shr_w (shl_w a (64 - k)) (64 - k)) i ≡ bit a i
low_in k a i l h = ap (λ (x : ℕ). bit x i) (low_bits a (64 - k) k (omega arith)) ∙ bit_mod a k i h

pub low_out : (k a i : ℕ) → k ≤ 64 → k ≤ i → bit (shr_w (shl_w a (64 - k)) (64 - k)) i ≡ 0
low_out k a i l h = ap (λ (x : ℕ). bit x i) (low_bits a (64 - k) k (omega arith)) ∙ bit_mod_above a k i h

-- ---- SPREAD: all ones times a bit
pub spread_is : (y : ℕ) → spread_w y ≡ y % 2 * (2 ^ 64 - 1)
unfolding spread_w
spread_is y = refl

-- SPREAD, SHR m: the k low bits all equal to y's lowest
pub spread_run : (y m k : ℕ) → k + m ≡ 64 → shr_w (spread_w y) m ≡ y % 2 * (2 ^ k - 1)
unfolding shr_w spread_w
spread_run y m k e =
    digit (λ b. b * (2 ^ 64 - 1) / 2 ^ m ≡ b * (2 ^ k - 1))
    (ap (λ (x : ℕ). x / 2 ^ m) (zero-mul (2 ^ 64 - 1)) ∙ zero-div (2 ^ m) ∙ sym (zero-mul (2 ^ k - 1)))
    (ap (λ (x : ℕ). x / 2 ^ m) (one-mul (2 ^ 64 - 1)) ∙ ap (λ (w : ℕ). (2 ^ w - 1) / 2 ^ m) (sym e) ∙ ones_shr k m ∙ sym (one-mul (2 ^ k - 1)))
    (y % 2) (bit_lt y)

-- a bit's multiple is below what bounds its factor
pub bit_mul_lt : (y n w : ℕ) → n < 2 ^ w → y % 2 * n < 2 ^ w
bit_mul_lt y n w h =
    digit (λ b. b * n < 2 ^ w) (subst (λ (x : ℕ). x < 2 ^ w) (sym (zero-mul n)) (pow_pos w)) (subst (λ (x : ℕ). x < 2 ^ w) (sym (one-mul n)) h) (y % 2) (bit_lt y)

-- SPREAD, SHR m, SHL j: k of them from place j on
pub spread_run_at : (y m k j : ℕ) → k + m ≡ 64 → k + j ≤ 64 → shl_w (shr_w (spread_w y) m) j ≡ y % 2 * (2 ^ k - 1) * 2 ^ j
spread_run_at y m k j e l =
    ap (λ (x : ℕ). shl_w x j) (spread_run y m k e) ∙ shl_exact k j (y % 2 * (2 ^ k - 1)) (bit_mul_lt y (2 ^ k - 1) k (ones_lt k)) l

-- ---- packing: XOR with a word that was shifted above it
pub pack : (j k lo hi : ℕ) → lo < 2 ^ k → hi < 2 ^ j → j + k ≤ 64 → xor_w lo (shl_w hi k) ≡ hi * 2 ^ k + lo
pack j k lo hi hl hh w = ap (xor_w lo) (shl_exact j k hi hh w) ∙ xor_comm lo (hi * 2 ^ k) ∙ xor_packed hi k lo hl

-- ---- a choice: p where y is odd, else q
pub choose : (p q y : ℕ) → p < 2 ^ 64 → q < 2 ^ 64 → xor_w q (and_w (xor_w p q) (spread_w y)) ≡ p * (y % 2) + q * (1 - y % 2)
choose p q y hp hq = xor_comm q (and_w (xor_w p q) (spread_w y)) ∙ select p q y hp hq

-- a shift right by s where y is odd
pub stage_right : (w s y : ℕ) → w < 2 ^ 64 → xor_w w (and_w (xor_w (shr_w w s) w) (spread_w y)) ≡ w / 2 ^ (y % 2 * s)
stage_right w s y h =
    choose (shr_w w s) w y (shr_lt 64 w s h) h
    ∙ digit (λ b. shr_w w s * b + w * (1 - b) ≡ w / 2 ^ (b * s))
    (omega arith ∙ sym (div-one w) ∙ ap (λ (k : ℕ). w / 2 ^ k) (sym (zero-mul s)))
    (omega arith ∙ shr_is w s ∙ ap (λ (k : ℕ). w / 2 ^ k) (sym (one-mul s)))
    (y % 2) (bit_lt y)

-- a shift left by s where y is odd
pub stage_left : (w s y : ℕ) → w < 2 ^ 64 → xor_w w (and_w (xor_w (shl_w w s) w) (spread_w y)) ≡ shl_w w (y % 2 * s)
stage_left w s y h =
    choose (shl_w w s) w y (shl_lt w s) h
    ∙ digit (λ b. shl_w w s * b + w * (1 - b) ≡ shl_w w (b * s))
    (omega arith ∙ sym (shl_zero w h) ∙ ap (shl_w w) (sym (zero-mul s)))
    (omega arith ∙ ap (shl_w w) (sym (one-mul s)))
    (y % 2) (bit_lt y)

-- ---- clearing the k low bits: XOR with them, or AND with NOT (2^k - 1)
pub without_low : (x k : ℕ) → xor_w x (x % 2 ^ k) ≡ x / 2 ^ k * 2 ^ k
without_low x k =
    ap (λ (w : ℕ). xor_w w (x % 2 ^ k)) (sym (xor_packed (x / 2 ^ k) k (x % 2 ^ k) (mod-lt x (pow_pos k)) ∙ Pow.split x k))
    ∙ xor_cancel_r (x / 2 ^ k * 2 ^ k) (x % 2 ^ k)

pub clear_low : (x k : ℕ) → x < 2 ^ 64 → k ≤ 64 → and_w x (not_w (2 ^ k - 1)) ≡ x / 2 ^ k * 2 ^ k
clear_low x k h l =
    let o : 2 ^ k - 1 < 2 ^ 64 = lt_of_lt_of_le (ones_lt k) (pow_mono l) in
    ap (and_w x) (not_xor (2 ^ k - 1) o) ∙ and_xor x (2 ^ k - 1) (2 ^ 64 - 1) ∙ ap₂ xor_w (and_low x k) (and_ones x h)
    ∙ xor_comm (x % 2 ^ k) x ∙ without_low x k
