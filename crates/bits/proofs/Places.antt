-- The bits of a word by their places, and the operations as plain arithmetic where no bit is lost.
-- A word is known by its bits, and has a lowest one unless it is 0. Rests on Digits, Xor, Shift and lib.Pow.
use mathlib.Core.Path.{◌≡◌, refl, sym, ap, ap₂, ◌∙◌}
use mathlib.Core.Logic.{◌⊎◌, inl, inr}
use Prim.Native.Nat.{ℕ, zero, suc, ◌+◌, ◌-◌, ◌*◌, ◌/◌, ◌%◌, ◌^◌, ◌≤◌, ◌<◌, min}
use native.Mathlib.Nat.{mod-eq_of_lt, mod-lt, div-eq_of_lt, div-one, mul_assoc, pow-suc, lt_of_lt_of_le, zero-lt-suc, eq-zero-or-pos}
use native.Mathlib.Numerals.{one-add}
use native.Mathlib.Omega.{arith}
use lib.Bits as Bits
use lib.Bits.{differ}
use lib.Pow as Pow
use lib.Pow.{pow_pos, pow-add, pow_mono, shr-shr, shl-shr, mod-mod-pow, ones_split, ones_lt}
use Rattle.bits.specs.Ops.{xor_w, and_w, not_w, shl_w, shr_w, add_w}
use Rattle.bits.proofs.Digits.{digit, bit_lt, bit, xor_odd, and_odd, ext_half}
use Rattle.bits.proofs.Xor.{xor_zero_l, xor_cancel_r, not_xor}
use Rattle.bits.proofs.Shift.{shr_xor}

-- ---- the operations as arithmetic
pub shr_is : (a k : ℕ) → shr_w a k ≡ a / 2 ^ k
unfolding shr_w
shr_is a k = refl

pub shl_exact : (j k a : ℕ) → a < 2 ^ j → j + k ≤ 64 → shl_w a k ≡ a * 2 ^ k
unfolding shl_w
shl_exact j k a h l = Pow.shl_exact {a = a} j k 64 h l

pub add_exact : (a b : ℕ) → a + b < 2 ^ 64 → add_w a b ≡ a + b
unfolding add_w
add_exact a b h = mod-eq_of_lt h

pub shr_and : (a b k : ℕ) → shr_w (and_w a b) k ≡ and_w (shr_w a k) (shr_w b k)
unfolding shr_w and_w
shr_and a b k = Bits.and_shr a b k

-- AND with the k low ones
pub and_low : (a k : ℕ) → and_w a (2 ^ k - 1) ≡ a % 2 ^ k
unfolding and_w
and_low a k = Bits.and_mask a k

-- ---- runs of ones
pub ones_shr : (m k : ℕ) → (2 ^ (m + k) - 1) / 2 ^ k ≡ 2 ^ m - 1
ones_shr m k = ap (λ (x : ℕ). x / 2 ^ k) (ones_split m k) ∙ Pow.high (2 ^ m - 1) k (ones_lt k)

ones_odd : (m : ℕ) → (2 ^ suc m - 1) % 2 ≡ 1
ones_odd m = let p : 2 ^ suc m ≡ 2 ^ m * 2 = pow-suc 2 m in let q : 0 < 2 ^ m = pow_pos m in omega arith

-- two words by their k low bits and the others
pub and_block : (k a b r s : ℕ) → r < 2 ^ k → s < 2 ^ k → and_w (a * 2 ^ k + r) (b * 2 ^ k + s) ≡ and_w a b * 2 ^ k + and_w r s
unfolding and_w
and_block = Bits.and_block

pub xor_block : (k a b r s : ℕ) → r < 2 ^ k → s < 2 ^ k → xor_w (a * 2 ^ k + r) (b * 2 ^ k + s) ≡ xor_w a b * 2 ^ k + xor_w r s
unfolding xor_w
xor_block = Bits.xor_block

pub ones_at : (w i : ℕ) → i < w → bit (2 ^ w - 1) i ≡ 1
ones_at w i h =
    let m : ℕ = w - suc i in
    let e : suc m + i ≡ w = omega arith in
    ap (λ (w : ℕ). (2 ^ w - 1) / 2 ^ i % 2) (sym e) ∙ ap (λ (x : ℕ). x % 2) (ones_shr (suc m) i) ∙ ones_odd m

pub ones_bit : (i : ℕ) → i < 64 → bit (2 ^ 64 - 1) i ≡ 1
ones_bit i h = ones_at 64 i h

-- ---- bits of low places
pub bit_above : (a w i : ℕ) → a < 2 ^ w → w ≤ i → bit a i ≡ 0
bit_above a w i h l = ap (λ (x : ℕ). x % 2) (div-eq_of_lt (lt_of_lt_of_le h (pow_mono l)))

pub bit_mod : (a w i : ℕ) → i < w → bit (a % 2 ^ w) i ≡ bit a i
bit_mod a w i h =
    let m : ℕ = w - suc i in
    let e : m + 1 + i ≡ w = omega arith in
    ap (λ (w : ℕ). a % 2 ^ w / 2 ^ i % 2) (sym e) ∙ ap (λ (x : ℕ). x % 2) (Pow.field a (m + 1) i) ∙ mod-mod-pow (a / 2 ^ i) m 1

pub bit_mod_above : (a w i : ℕ) → w ≤ i → bit (a % 2 ^ w) i ≡ 0
bit_mod_above a w i l = bit_above (a % 2 ^ w) w i (mod-lt a (pow_pos w)) l

-- ---- bits of the operations
pub bit_xor : (a b i : ℕ) → bit (xor_w a b) i ≡ differ (bit a i) (bit b i)
bit_xor a b i =
    ap (λ (x : ℕ). x % 2) (sym (shr_is (xor_w a b) i) ∙ shr_xor a b i) ∙ xor_odd (shr_w a i) (shr_w b i)
    ∙ ap₂ (λ (x y : ℕ). differ (x % 2) (y % 2)) (shr_is a i) (shr_is b i)

pub bit_and : (a b i : ℕ) → bit (and_w a b) i ≡ min (bit a i) (bit b i)
bit_and a b i =
    ap (λ (x : ℕ). x % 2) (sym (shr_is (and_w a b) i) ∙ shr_and a b i) ∙ and_odd (shr_w a i) (shr_w b i)
    ∙ ap₂ (λ (x y : ℕ). min (x % 2) (y % 2)) (shr_is a i) (shr_is b i)

pub bit_shr : (a k i : ℕ) → bit (shr_w a k) i ≡ bit a (k + i)
unfolding shr_w
bit_shr a k i = ap (λ (x : ℕ). x % 2) (shr-shr a k i)

-- a shift left: zeros below k, and from there on a's places
pub bit_shl_low : (a k i : ℕ) → i < k → bit (shl_w a k) i ≡ 0
unfolding shl_w
bit_shl_low a k i h =
    elim (eq-zero-or-pos (i - 63)) [
      | inl e ↦ bit_mod (a * 2 ^ k) 64 i (omega arith) ∙ multiple
      | inr e ↦ bit_mod_above (a * 2 ^ k) 64 i (omega arith)
    ]
  where
    multiple : bit (a * 2 ^ k) i ≡ 0
    multiple =
        let m : ℕ = k - suc i in
        let e : suc m + i ≡ k = omega arith in
        ap (λ (p : ℕ). a * p / 2 ^ i % 2) (ap (λ (n : ℕ). 2 ^ n) (sym e) ∙ pow-add 2 (suc m) i)
        ∙ ap (λ (x : ℕ). x / 2 ^ i % 2) (sym (mul_assoc a (2 ^ suc m) (2 ^ i)))
        ∙ ap (λ (x : ℕ). x % 2) (shl-shr (a * 2 ^ suc m) i) ∙ Bits.shifted_even a m

pub bit_shl : (a k j : ℕ) → k + j < 64 → bit (shl_w a k) (k + j) ≡ bit a j
unfolding shl_w
bit_shl a k j l =
    bit_mod (a * 2 ^ k) 64 (k + j) l
    ∙ ap (λ (x : ℕ). x % 2) (sym (shr-shr (a * 2 ^ k) k j) ∙ ap (λ (x : ℕ). x / 2 ^ j) (shl-shr a k))

pub bit_not : (a i : ℕ) → a < 2 ^ 64 → i < 64 → bit (not_w a) i ≡ 1 - bit a i
bit_not a i h l =
    ap (λ (x : ℕ). bit x i) (not_xor a h) ∙ bit_xor a (2 ^ 64 - 1) i ∙ ap (differ (bit a i)) (ones_bit i l)
    ∙ digit (λ b. differ b 1 ≡ 1 - b) refl refl (bit a i) (bit_lt (a / 2 ^ i))

-- ---- two words are equal where their XOR is 0
pub same_xor : (a b : ℕ) → xor_w a b ≡ 0 → a ≡ b
same_xor a b e = sym (xor_cancel_r a b) ∙ ap (λ (x : ℕ). xor_w x b) e ∙ xor_zero_l b

-- ---- a word by all its bits
pub bit_zero : (a : ℕ) → bit a 0 ≡ a % 2
bit_zero a = ap (λ (x : ℕ). x % 2) (div-one a)

bit_half : (a i : ℕ) → bit (a / 2) i ≡ bit a (suc i)
bit_half a i = ap (λ (x : ℕ). x % 2) (shr-shr a 1 i) ∙ ap (bit a) (one-add i)

half_lt : (w a : ℕ) → a < 2 ^ suc w → a / 2 < 2 ^ w
half_lt w a h = let p : 2 ^ suc w ≡ 2 ^ w * 2 = pow-suc 2 w in omega arith

pub ext_bits : (w a b : ℕ) → a < 2 ^ w → b < 2 ^ w → ((i : ℕ) → i < w → bit a i ≡ bit b i) → a ≡ b
ext_bits zero a b ha hb e = omega arith
ext_bits (suc w) a b ha hb e =
    ext_half a b
    (ext_bits w (a / 2) (b / 2) (half_lt w a ha) (half_lt w b hb) (λ i h. bit_half a i ∙ e (suc i) (omega arith) ∙ sym (bit_half b i)))
    (sym (bit_zero a) ∙ e 0 (zero-lt-suc w) ∙ bit_zero b)

-- ones at the m low places alone
pub ones_by_bits : (w m a : ℕ) → m ≤ w → a < 2 ^ w → ((i : ℕ) → i < m → bit a i ≡ 1) → ((i : ℕ) → m ≤ i → i < w → bit a i ≡ 0) → a ≡ 2 ^ m - 1
ones_by_bits w m a l h ones zeros = ext_bits w a (2 ^ m - 1) h (lt_of_lt_of_le (ones_lt m) (pow_mono l)) places
  where
    places : (i : ℕ) → i < w → bit a i ≡ bit (2 ^ m - 1) i
    places i g =
        elim (eq-zero-or-pos (suc i - m)) [
          | inl e ↦ ones i (omega arith) ∙ sym (ones_at m i (omega arith))
          | inr e ↦ zeros i (omega arith) g ∙ sym (bit_above (2 ^ m - 1) m i (ones_lt m) (omega arith))
        ]

-- the lowest one of a number that is not 0
abbrev pub Lowest : ℕ → ℕ → Type 0
Lowest a m = (bit a m ≡ 1) × ((i : ℕ) → i < m → bit a i ≡ 0)

pub lowest : (w a : ℕ) → 0 < a → a < 2 ^ w → (m : ℕ) × (m < w) × Lowest a m
lowest zero a p h = absurd (omega arith)
lowest (suc w) a p h = go (λ q. lowest w (a / 2) q (half_lt w a h)) (eq-zero-or-pos (a % 2))
  where
    -- an even number's is one place above its half's
    up : (m : ℕ) → a % 2 ≡ 0 → ((i : ℕ) → i < m → bit (a / 2) i ≡ 0) → (i : ℕ) → i < suc m → bit a i ≡ 0
    up m e z zero l = bit_zero a ∙ e
    up m e z (suc i) l = sym (bit_half a i) ∙ z i (omega arith)

    go : (0 < a / 2 → (m : ℕ) × (m < w) × Lowest (a / 2) m) → (a % 2 ≡ 0) ⊎ (0 < a % 2) → (m : ℕ) × (m < suc w) × Lowest a m
    go rest (inl e) = let r = rest (omega arith) in (suc r.0, omega (arith, r.1), (sym (bit_half a r.0) ∙ r.2.0, up r.0 e r.2.1))
    go rest (inr q) = (0, zero-lt-suc w, (bit_zero a ∙ omega arith, λ i l. absurd (omega arith)))
