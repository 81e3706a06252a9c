-- More of what short runs of steps leave, in numbers: low bits moved to other places, the exponent field, NOT, what a shift changes, AND field by field, and the parity of an XOR.
-- Rests on Fields and bits (Digits, Xor, Places).
use mathlib.Core.Path.{◌≡◌, refl, sym, ap, ap₂, ◌∙◌}
use Prim.Native.Nat.{ℕ, ◌+◌, ◌-◌, ◌*◌, ◌/◌, ◌%◌, ◌^◌, ◌<◌}
use native.Mathlib.Nat.{add-zero, add_comm, mul_assoc, mod-eq_of_lt, mul-mod_left}
use native.Mathlib.Omega.{arith}
use lib.Bits as Bits
use lib.Bits.{differ}
use lib.Pow as Pow
use Rattle.bits.specs.Ops.{xor_w, and_w, not_w, shl_w, shr_w, add_w}
use Rattle.bits.proofs.Digits.{digit, bit_lt, xor_odd}
use Rattle.bits.proofs.Xor.{xor_self}
use Rattle.bits.proofs.Places.{shr_is, and_block, xor_block}
use Rattle.plans.proofs.Fields.{field, low_bits}

pub not_is : (a : ℕ) → not_w a ≡ (2 ^ 64 - 1) - a
unfolding not_w
not_is a = refl

pub add_is : (a b : ℕ) → add_w a b ≡ (a + b) % 2 ^ 64
unfolding add_w
add_is a b = refl

-- SHL j keeps the k low bits
pub shl_keeps : (k j a : ℕ) → k + j ≡ 64 → shl_w a j ≡ a % 2 ^ k * 2 ^ j
unfolding shl_w
shl_keeps k j a e =
    ap (λ (w : ℕ). (a * 2 ^ j) % 2 ^ w) (sym e) ∙ Pow.mod-pow-add (a * 2 ^ j) k j
    ∙ ap₂ (λ (x y : ℕ). x % 2 ^ k * 2 ^ j + y) (Pow.shl-shr a j) (mul-mod_left a (2 ^ j)) ∙ add-zero (a % 2 ^ k * 2 ^ j)

-- SHL r + k, SHR r: the s low bits at the places from k on
pub moved : (s k r a : ℕ) → s + (r + k) ≡ 64 → shr_w (shl_w a (r + k)) r ≡ a % 2 ^ s * 2 ^ k
moved s k r a e =
    shr_is (shl_w a (r + k)) r ∙ ap (λ (x : ℕ). x / 2 ^ r) (shl_keeps s (r + k) a e)
    ∙ ap (λ (x : ℕ). a % 2 ^ s * x / 2 ^ r) (ap (λ (x : ℕ). 2 ^ x) (add_comm r k) ∙ Pow.pow-add 2 k r)
    ∙ ap (λ (x : ℕ). x / 2 ^ r) (sym (mul_assoc (a % 2 ^ s) (2 ^ k) (2 ^ r))) ∙ Pow.shl-shr (a % 2 ^ s * 2 ^ k) r

-- the lowest bit, and the exponent field
abbrev pub lowest : ℕ → ℕ
lowest a = shr_w (shl_w a 63) 63

pub lowest_is : (a : ℕ) → lowest a ≡ a % 2
lowest_is a = low_bits a 63 1 refl

abbrev pub exponent_w : ℕ → ℕ
exponent_w a = shr_w (shl_w a 1) 53

pub exponent : (a : ℕ) → exponent_w a ≡ a / 2 ^ 52 % 2048
exponent a = field a 1 52 11 refl

-- NOT of a number of 16 bits, in the top places
pub not_top : (a : ℕ) → a < 2 ^ 16 → shl_w (not_w a) 48 ≡ ((2 ^ 16 - 1) - a) * 2 ^ 48
not_top a h = shl_keeps 16 48 (not_w a) refl ∙ ap (λ (x : ℕ). x % 2 ^ 16 * 2 ^ 48) (not_is a) ∙ ap (λ (x : ℕ). x * 2 ^ 48) (low a h)
  where
    low : (a : ℕ) → a < 2 ^ 16 → ((2 ^ 64 - 1) - a) % 2 ^ 16 ≡ (2 ^ 16 - 1) - a
    low a h = omega arith

-- what a shift right by s changes in a number with f + s zeros below it
pub changes : (s f q : ℕ) → xor_w (shr_w (q * 2 ^ (f + s)) s) (q * 2 ^ (f + s)) ≡ xor_w q (q * 2 ^ s) * 2 ^ f
changes s f q =
    ap₂ xor_w (shr_is (q * 2 ^ (f + s)) s ∙ ap (λ (x : ℕ). x / 2 ^ s) (split f s) ∙ Pow.shl-shr (q * 2 ^ f) s ∙ sym (add-zero (q * 2 ^ f)))
    (ap (λ (n : ℕ). q * 2 ^ n) (add_comm f s) ∙ split s f ∙ sym (add-zero (q * 2 ^ s * 2 ^ f)))
    ∙ xor_block f q (q * 2 ^ s) 0 0 (Pow.pow_pos f) (Pow.pow_pos f) ∙ ap (λ (x : ℕ). xor_w q (q * 2 ^ s) * 2 ^ f + x) (xor_self 0) ∙ add-zero (xor_w q (q * 2 ^ s) * 2 ^ f)
  where
    split : (i j : ℕ) → q * 2 ^ (i + j) ≡ q * 2 ^ i * 2 ^ j
    split i j = ap (λ (x : ℕ). q * x) (Pow.pow-add 2 i j) ∙ sym (mul_assoc q (2 ^ i) (2 ^ j))

-- AND of three fields, the lower ones of j and k places
pub and_fields : (j k a b c x y z : ℕ) → b < 2 ^ j → y < 2 ^ j → c < 2 ^ k → z < 2 ^ k
    → and_w ((a * 2 ^ j + b) * 2 ^ k + c) ((x * 2 ^ j + y) * 2 ^ k + z) ≡ (and_w a x * 2 ^ j + and_w b y) * 2 ^ k + and_w c z
and_fields j k a b c x y z hb hy hc hz =
    and_block k (a * 2 ^ j + b) (x * 2 ^ j + y) c z hc hz ∙ ap (λ (u : ℕ). u * 2 ^ k + and_w c z) (and_block j a x b y hb hy)

pub xor_parity : (a b : ℕ) → xor_w a b % 2 ≡ (a % 2 + b % 2) % 2
xor_parity a b =
    xor_odd a b
    ∙ digit (λ x. differ x (b % 2) ≡ (x + b % 2) % 2)
    (digit (λ y. differ 0 y ≡ (0 + y) % 2) refl refl (b % 2) (bit_lt b))
    (digit (λ y. differ 1 y ≡ (1 + y) % 2) refl refl (b % 2) (bit_lt b)) (a % 2) (bit_lt a)

-- XOR with k ones takes each of k bits from one
pub xor_ones : (k a : ℕ) → a < 2 ^ k → xor_w (2 ^ k - 1) a ≡ (2 ^ k - 1) - a
unfolding xor_w
xor_ones k a h =
    let m : Bits.bit_and a (2 ^ k - 1) ≡ a = Bits.and_mask a k ∙ mod-eq_of_lt h in
    Bits.xor_comm (2 ^ k - 1) a ∙ omega (arith, Bits.xor_add_and a (2 ^ k - 1), Pow.le_ones k h)
