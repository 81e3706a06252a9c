-- What the steps of specs/RoundUp leave, in numbers: one is added in the last place kept where a bit b is set and so is one of the bits of o, the others.
-- Rests on RunOfOnes for the run and the OR beside it, and on Fields.
use mathlib.Core.Path.{◌≡◌, refl, sym, ap, ap₂, ◌∙◌}
use Prim.Native.Nat.{ℕ, ◌+◌, ◌-◌, ◌*◌, ◌/◌, ◌%◌, ◌^◌, ◌≤◌, ◌<◌, min}
use native.Mathlib.Nat.{add-zero, mul-zero, mul-one, zero-mul, div-mul-le_self, le_of_eq, lt_of_le_of_lt}
use native.Mathlib.Omega.{arith}
use lib.Bits.{differ}
use lib.Pow.{pow_pos, pow_mono, ones_lt}
use Rattle.bits.specs.Ops.{xor_w, and_w, not_w, shl_w, shr_w, spread_w}
use Rattle.bits.proofs.Digits.{digit, bit_lt, xor_odd}
use Rattle.bits.proofs.Xor.{xor_zero, xor_comm, xor·ring}
use Rattle.bits.proofs.Bound.{xor_lt, not_lt, shl_lt, shr_lt, spread_lt}
use Rattle.bits.proofs.Choice.{and_spread}
use Rattle.bits.proofs.Places.{bit_zero, bit_not, xor_block}
use Rattle.bits.proofs.Sum.{xor_packed}
use Rattle.binary64.specs.Number.{sign, expo, signed}
use Rattle.plans.proofs.Fields.{without_low, bit_mul_lt}
use Rattle.plans.proofs.RunOfOnes.{run_of, or_of, raise, any, or_lt}

-- ---- what the steps compute
-- 3FF · 2^52 and 1, or nothing, by the lowest bit of h
unfoldable pub one_of : ℕ → ℕ
one_of h = let u : ℕ = spread_w h in xor_w (shl_w (shr_w u 54) 52) (shr_w u 63)

-- z the operand with the bits dropped cleared, y the same with those of W set, F and b what decides
unfoldable pub raised_where : ℕ → ℕ → ℕ → ℕ → ℕ → ℕ → ℕ
raised_where z W h y F b =
    xor_w z (and_w (xor_w (xor_w (not_w (shl_w (run_of (not_w y) F) 1)) W) (one_of h)) (spread_w (xor_w (not_w (or_of (not_w y) F)) b)))

-- x the operand, f its bits to drop, W those of them that are low bits of F, h whether the next whole number is 1, o and b what decides
unfoldable pub rounded_up : ℕ → ℕ → ℕ → ℕ → ℕ → ℕ → ℕ
rounded_up x W f h o b = raised_where (xor_w x f) W h (xor_w (xor_w x W) f) (xor_w o (shl_w (not_w b) 63)) b

one_none : one_of 0 ≡ 0
unfolding one_of xor_w shl_w shr_w spread_w
one_none = refl

one_some : one_of 1 ≡ 1023 * 2 ^ 52 + 1
unfolding one_of xor_w shl_w shr_w spread_w
one_some = refl

next_of_one : xor_w 1 (1023 * 2 ^ 52 + 1) ≡ 1023 * 2 ^ 52
next_of_one = unfold xor_w in refl

-- the lowest bit of NOT
pub not_odd : (w : ℕ) → w < 2 ^ 64 → not_w w % 2 ≡ 1 - w % 2
not_odd w h = sym (bit_zero (not_w w)) ∙ bit_not w 0 h (omega arith) ∙ ap (λ (v : ℕ). 1 - v) (bit_zero w)

-- ---- whether one is added: b and one of the bits of F; where b is 0 F holds a bit
pub added : (y F b : ℕ) → F < 2 ^ 64 → xor_w (not_w (or_of (not_w y) F)) b % 2 ≡ differ (1 - min F 1) (b % 2)
added y F b h =
    let O : ℕ = or_of (not_w y) F in
    xor_odd (not_w O) b ∙ ap (λ (v : ℕ). differ v (b % 2)) (not_odd O (or_lt (not_w y) F (not_lt y) h) ∙ ap (λ (w : ℕ). 1 - w) (any (not_w y) F (not_lt y) h))

one_lt : (h : ℕ) → one_of h < 2 ^ 64
unfolding one_of
one_lt h = xor_lt 64 (shl_w (shr_w (spread_w h) 54) 52) (shr_w (spread_w h) 63) (shl_lt (shr_w (spread_w h) 54) 52) (shr_lt 64 (spread_w h) 63 (spread_lt h))

module _ (z W h y F b : ℕ) (h_w : W < 2 ^ 64) (h_f : F < 2 ^ 64) where
  run : ℕ
  run = not_w (shl_w (run_of (not_w y) F) 1)

  chosen : (c : ℕ) → differ (1 - min F 1) (b % 2) ≡ c → raised_where z W h y F b ≡ xor_w z (xor_w (xor_w run W) (one_of h) * c)
  unfolding raised_where run
  chosen c e =
      ap (xor_w z)
      (and_spread (xor_w (xor_w (not_w (shl_w (run_of (not_w y) F) 1)) W) (one_of h)) (xor_w (not_w (or_of (not_w y) F)) b)
      (xor_lt 64 (xor_w (not_w (shl_w (run_of (not_w y) F) 1)) W) (one_of h) (xor_lt 64 (not_w (shl_w (run_of (not_w y) F) 1)) W (not_lt (shl_w (run_of (not_w y) F) 1)) h_w) (one_lt h))
      ∙ ap (λ (v : ℕ). xor_w (xor_w (not_w (shl_w (run_of (not_w y) F) 1)) W) (one_of h) * v) (added y F b h_f ∙ e))

  -- nothing is added
  kept : differ (1 - min F 1) (b % 2) ≡ 0 → raised_where z W h y F b ≡ z
  kept e = chosen 0 e ∙ ap (xor_w z) (mul-zero (xor_w (xor_w run W) (one_of h))) ∙ xor_zero z

  -- one is added in the place above W
  raised : differ (1 - min F 1) (b % 2) ≡ 1 → y < 2 ^ 64 - 1 → xor_w z W ≡ y → raised_where z W h y F b ≡ xor_w (y + 1) (one_of h)
  raised e hy zy =
      chosen 1 e ∙ ap (xor_w z) (mul-one (xor_w (xor_w run W) (one_of h))) ∙ regroup z run W (one_of h)
      ∙ ap (λ (v : ℕ). xor_w (xor_w v run) (one_of h)) zy ∙ ap (λ (v : ℕ). xor_w v (one_of h)) up
    where
      regroup : (z r W o : ℕ) → xor_w z (xor_w (xor_w r W) o) ≡ xor_w (xor_w (xor_w z W) r) o
      regroup z r W o = simp xor·ring

      up : xor_w y run ≡ y + 1
      up = unfold run in raise y F hy h_f

-- ---- from the bit and the others: F is the others, with the opposite of the bit in place 63
pub opposite : (b : ℕ) → b < 2 ^ 64 → shl_w (not_w b) 63 ≡ (1 - b % 2) * 2 ^ 63
unfolding shl_w
opposite b h = top (not_w b) ∙ ap (λ (v : ℕ). v * 2 ^ 63) (not_odd b h)
  where
    top : (w : ℕ) → shl_w w 63 ≡ w % 2 * 2 ^ 63
    top w = omega arith

pub decision : (r o : ℕ) → r < 2 → differ (1 - min ((1 - r) * 2 ^ 63 + o) 1) r ≡ r * min o 1
decision r o hr = digit (λ r. differ (1 - min ((1 - r) * 2 ^ 63 + o) 1) r ≡ r * min o 1) none some r hr
  where
    none : differ (1 - min (1 * 2 ^ 63 + o) 1) 0 ≡ 0 * min o 1
    none = let m : min (1 * 2 ^ 63 + o) 1 ≡ 1 = omega arith in ap (λ (v : ℕ). differ (1 - v) 0) m ∙ sym (zero-mul (min o 1))

    back : (m : ℕ) → m < 2 → differ (1 - m) 1 ≡ 1 * m
    back = digit (λ m. differ (1 - m) 1 ≡ 1 * m) refl refl

    some : differ (1 - min (0 * 2 ^ 63 + o) 1) 1 ≡ 1 * min o 1
    some = let m : min (0 * 2 ^ 63 + o) 1 ≡ min o 1 = omega arith in ap (λ (v : ℕ). differ (1 - v) 1) m ∙ back (min o 1) (omega arith)

-- k bits to drop
module _ (x k W h o b : ℕ) (h_w : W < 2 ^ 64) (ho : o < 2 ^ 63) (hb : b < 2 ^ 64) where
  abbrev z : ℕ
  z = x / 2 ^ k * 2 ^ k

  abbrev F : ℕ
  F = (1 - b % 2) * 2 ^ 63 + o

  parts : rounded_up x W (x % 2 ^ k) h o b ≡ raised_where z W h (xor_w z W) F b
  unfolding rounded_up
  parts =
      let ze : xor_w x (x % 2 ^ k) ≡ z = without_low x k in
      let ye : xor_w (xor_w x W) (x % 2 ^ k) ≡ xor_w z W = swapped x W (x % 2 ^ k) ∙ ap (λ (v : ℕ). xor_w v W) ze in
      let fe : xor_w o (shl_w (not_w b) 63) ≡ F = ap (xor_w o) (opposite b hb) ∙ xor_comm o ((1 - b % 2) * 2 ^ 63) ∙ xor_packed (1 - b % 2) 63 o ho in
      rw (ze, ye, fe) refl
    where
      swapped : (a b c : ℕ) → xor_w (xor_w a b) c ≡ xor_w (xor_w a c) b
      swapped a b c = simp xor·ring

  F_lt : F < 2 ^ 64
  F_lt = omega arith

  -- nothing is added
  pub stays : b % 2 * min o 1 ≡ 0 → rounded_up x W (x % 2 ^ k) h o b ≡ z
  stays e = parts ∙ kept z W h (xor_w z W) F b h_w F_lt (decision (b % 2) o (bit_lt b) ∙ e)

  goes_up : b % 2 * min o 1 ≡ 1 → xor_w z W < 2 ^ 64 - 1 → rounded_up x W (x % 2 ^ k) h o b ≡ xor_w (xor_w z W + 1) (one_of h)
  goes_up e room = parts ∙ raised z W h (xor_w z W) F b h_w F_lt (decision (b % 2) o (bit_lt b) ∙ e) room refl

-- the fraction of a number that is not below 1
pub next_above : (x k o b : ℕ) → x < 2 ^ 64 → expo x < 1075 → k ≤ 52 → o < 2 ^ 63 → b < 2 ^ 64
    → rounded_up x (2 ^ k - 1) (x % 2 ^ k) 0 o b ≡ (x / 2 ^ k + b % 2 * min o 1) * 2 ^ k
next_above x k o b hx e hk ho hb =
    let W : ℕ = 2 ^ k - 1 in
    let z : ℕ = x / 2 ^ k * 2 ^ k in
    let p : 0 < 2 ^ k = pow_pos k in
    let k52 : 2 ^ k ≤ 2 ^ 52 = pow_mono {i = k} {j = 52} hk in
    let h_w : W < 2 ^ 64 = omega arith in
    let zy : xor_w z W ≡ z + W = xor_packed (x / 2 ^ k) k W (ones_lt k) in
    digit (λ c. b % 2 * min o 1 ≡ c → rounded_up x W (x % 2 ^ k) 0 o b ≡ (x / 2 ^ k + c) * 2 ^ k)
    (λ q. stays x k W 0 o b h_w ho hb q ∙ ap (λ (v : ℕ). v * 2 ^ k) (sym (add-zero (x / 2 ^ k))))
    (λ q. goes_up x k W 0 o b h_w ho hb q (lt_of_le_of_lt (le_of_eq zy) (room x z (2 ^ k) hx e (div-mul-le_self x (2 ^ k)) k52 p))
    ∙ ap₂ xor_w (ap (λ (v : ℕ). v + 1) zy) one_none ∙ xor_zero (z + W + 1) ∙ next_multiple (x / 2 ^ k) (2 ^ k) p)
    (b % 2 * min o 1) (bit_mul_lt b (min o 1) 1 (omega arith)) refl
  where
    room : (x z K : ℕ) → x < 2 ^ 64 → expo x < 1075 → z ≤ x → K ≤ 2 ^ 52 → 0 < K → z + (K - 1) < 2 ^ 64 - 1
    room x z K h e q k p = omega arith

    next_multiple : (q K : ℕ) → 0 < K → q * K + (K - 1) + 1 ≡ (q + 1) * K
    next_multiple q K h = omega arith

-- all bits but the sign of a number below 1, where the next whole number is 1
pub next_below : (x o b : ℕ) → x < 2 ^ 64 → o < 2 ^ 63 → b < 2 ^ 64
    → rounded_up x 0 (x % 2 ^ 63) 1 o b ≡ signed (sign x) (b % 2 * min o 1 * (1023 * 2 ^ 52))
next_below x o b hx ho hb =
    let z : ℕ = x / 2 ^ 63 * 2 ^ 63 in
    digit (λ c. b % 2 * min o 1 ≡ c → rounded_up x 0 (x % 2 ^ 63) 1 o b ≡ signed (sign x) (c * (1023 * 2 ^ 52)))
    (λ q. stays x 63 0 1 o b (omega arith) ho hb q ∙ omega arith)
    (λ q. goes_up x 63 0 1 o b (omega arith) ho hb q (lt_of_le_of_lt (le_of_eq (xor_zero z)) (omega arith))
    ∙ ap (λ (v : ℕ). xor_w (v + 1) (one_of 1)) (xor_zero z) ∙ one_added (x / 2 ^ 63))
    (b % 2 * min o 1) (bit_mul_lt b (min o 1) 1 (omega arith)) refl
  where
    one_added : (s : ℕ) → xor_w (s * 2 ^ 63 + 1) (one_of 1) ≡ signed s (1 * (1023 * 2 ^ 52))
    one_added s =
        let e : one_of 1 ≡ 0 * 2 ^ 63 + (1023 * 2 ^ 52 + 1) = one_some in
        ap (xor_w (s * 2 ^ 63 + 1)) e ∙ xor_block 63 s 0 1 (1023 * 2 ^ 52 + 1) (omega arith) (omega arith) ∙ ap₂ (λ (a b : ℕ). a * 2 ^ 63 + b) (xor_zero s) next_of_one
