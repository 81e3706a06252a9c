-- Four zero tests for four ANDs: NOT, then AND with itself shifted right by 8, 4, 2 and 1. Bit p is then 1 exactly where the sixteen bits
-- from place p on were all 0, for every p up to 48; the plans put a test in each of the lanes 0, 16, 32 and 48.
-- Rests on bits' Bound and Places; the lanes are packed by Fields' `pack`.
use mathlib.Core.Path.{◌≡◌, refl, sym, ap, ap₂, ◌∙◌}
use Prim.Native.Nat.{ℕ, zero, suc, ◌+◌, ◌-◌, ◌*◌, ◌/◌, ◌%◌, ◌^◌, ◌≤◌, ◌<◌, min}
use native.Mathlib.Nat.{add_comm, div-one, min-zero, mul-pos, zero-lt-suc, zero-mul}
use native.Mathlib.Omega.{arith}
use lib.Pow.{pow_pos, shr-shr, mod-pow-add}
use Rattle.bits.specs.Ops.{xor_w, and_w, not_w, shr_w}
use Rattle.bits.proofs.Digits.{bit}
use Rattle.bits.proofs.Xor.{and_assoc, and_comm}
use Rattle.bits.proofs.Shift.{shr_shr'}
use Rattle.bits.proofs.Bound.{and_lt, not_lt}
use Rattle.bits.proofs.Places.{shr_and, bit_and, bit_shr, bit_not, same_xor}

-- 1 where v is 0, else 0
abbrev pub is_zero : ℕ → ℕ
is_zero v = 1 - min v 1

pub not_zero : (x : ℕ) → 0 < x → is_zero x ≡ 0
not_zero x h = omega arith

-- SHR k, AND
abbrev pub and_down : ℕ → ℕ → ℕ
and_down k z = and_w z (shr_w z k)

-- the nine steps
unfoldable pub zeros16 : ℕ → ℕ
zeros16 w = and_down 1 (and_down 2 (and_down 4 (and_down 8 (not_w w))))

pub zeros16_lt : (w : ℕ) → zeros16 w < 2 ^ 64
unfolding zeros16
zeros16_lt w = and_lt 64 _ _ (and_lt 64 _ _ (and_lt 64 _ _ (and_lt 64 _ _ (not_lt w))))

-- these ANDs may be done in any order
and_down_comm : (i j z : ℕ) → and_down i (and_down j z) ≡ and_down j (and_down i z)
and_down_comm i j z =
    ap (and_w (and_down j z)) (shr_and z (shr_w z j) i ∙ ap (and_w (shr_w z i)) (shr_shr' z j i ∙ ap (shr_w z) (add_comm j i)))
    ∙ swap z (shr_w z j) (shr_w z i) (shr_w z (i + j))
    ∙ ap (and_w (and_down i z)) (sym (shr_and z (shr_w z i) j ∙ ap (and_w (shr_w z j)) (shr_shr' z i j)))
  where
    swap : (a b c d : ℕ) → and_w (and_w a b) (and_w c d) ≡ and_w (and_w a c) (and_w b d)
    swap a b c d =
        and_assoc a b (and_w c d) ∙ ap (and_w a) (sym (and_assoc b c d) ∙ ap (λ (x : ℕ). and_w x d) (and_comm b c) ∙ and_assoc c b d)
        ∙ sym (and_assoc a c (and_w b d))

-- bit p of z tells whether the n bits of w from p on are all 0
abbrev ZeroRuns : ℕ → ℕ → ℕ → Type 0
ZeroRuns n z w = (p : ℕ) → p + n ≤ 64 → bit z p ≡ is_zero (w / 2 ^ p % 2 ^ n)

runs_one : (w : ℕ) → w < 2 ^ 64 → ZeroRuns 1 (not_w w) w
runs_one w h p l = bit_not w p h (omega arith) ∙ one (w / 2 ^ p)
  where
    one : (x : ℕ) → 1 - x % 2 ≡ is_zero (x % 2)
    one x = omega arith

-- runs of twice the length
runs_double : (n z w : ℕ) → ZeroRuns n z w → ZeroRuns (n + n) (and_down n z) w
runs_double n z w r p l =
    let hi : ℕ = w / 2 ^ (p + n) % 2 ^ n in
    let lo : ℕ = w / 2 ^ p % 2 ^ n in
    let whole : w / 2 ^ p % 2 ^ (n + n) ≡ hi * 2 ^ n + lo = mod-pow-add (w / 2 ^ p) n n ∙ ap (λ (x : ℕ). x % 2 ^ n * 2 ^ n + lo) (shr-shr w p n) in
    bit_and z (shr_w z n) p ∙ ap₂ min (r p (omega arith)) (bit_shr z n p ∙ ap (bit z) (add_comm n p) ∙ r (p + n) (omega arith))
    ∙ both hi lo (2 ^ n) (pow_pos n) ∙ ap is_zero (sym whole)
  where
    low : (lo : ℕ) → min (is_zero lo) (is_zero 0) ≡ is_zero (0 + lo)
    low lo = omega arith

    high : (x hi : ℕ) → min x (is_zero (suc hi)) ≡ 0
    high x hi = ap (min x) (not_zero (suc hi) (zero-lt-suc hi)) ∙ min-zero x

    both : (hi lo m : ℕ) → 0 < m → min (is_zero lo) (is_zero hi) ≡ is_zero (hi * m + lo)
    both zero lo m h = low lo ∙ ap (λ (x : ℕ). is_zero (x + lo)) (sym (zero-mul m))
    both (suc hi) lo m h = let e : 0 < suc hi * m = mul-pos (zero-lt-suc hi) h in high (is_zero lo) hi ∙ sym (not_zero (suc hi * m + lo) (omega arith))

pub zeros16_bit : (w p : ℕ) → w < 2 ^ 64 → p + 16 ≤ 64 → bit (zeros16 w) p ≡ is_zero (w / 2 ^ p % 2 ^ 16)
unfolding zeros16
zeros16_bit w p h l =
    let n = not_w w in
    let rising : and_down 1 (and_down 2 (and_down 4 (and_down 8 n))) ≡ and_down 8 (and_down 4 (and_down 2 (and_down 1 n))) =
    ap (λ (x : ℕ). and_down 1 (and_down 2 x)) (and_down_comm 4 8 n)
    ∙ ap (and_down 1) (and_down_comm 2 8 (and_down 4 n) ∙ ap (and_down 8) (and_down_comm 2 4 n))
    ∙ and_down_comm 1 8 (and_down 4 (and_down 2 n))
    ∙ ap (and_down 8) (and_down_comm 1 4 (and_down 2 n) ∙ ap (and_down 4) (and_down_comm 1 2 n)) in
    ap (λ (x : ℕ). bit x p) rising
    ∙ runs_double 8 (and_down 4 (and_down 2 (and_down 1 n))) w
    (runs_double 4 (and_down 2 (and_down 1 n)) w (runs_double 2 (and_down 1 n) w (runs_double 1 n w (runs_one w h)))) p l

-- ---- a test whether two numbers are the same: their XOR is zero
pub zero_differ : (a b : ℕ) → (a ≡ b → ⊥) → is_zero (xor_w a b) ≡ 0
zero_differ a b n = go (xor_w a b) (same_xor a b)
  where
    go : (x : ℕ) → (x ≡ 0 → a ≡ b) → is_zero x ≡ 0
    go zero h = absurd (n (h refl))
    go (suc x) h = omega arith

-- ---- four lanes: what stands in each of them
module _ (a b c d w : ℕ) (ha : a < 2 ^ 16) (hb : b < 2 ^ 16) (hc : c < 2 ^ 16) (hd : d < 2 ^ 16) (e : w ≡ d * 2 ^ 48 + (c * 2 ^ 32 + (b * 2 ^ 16 + a))) where
  lanes_lt : w < 2 ^ 64
  lanes_lt = omega arith

  pub lane0 : bit (zeros16 w) 0 ≡ is_zero a
  lane0 = zeros16_bit w 0 lanes_lt (omega arith) ∙ ap is_zero (ap (λ (x : ℕ). x % 2 ^ 16) (div-one w) ∙ omega arith)

  pub lane1 : bit (zeros16 w) 16 ≡ is_zero b
  lane1 = zeros16_bit w 16 lanes_lt (omega arith) ∙ ap is_zero (omega arith)

  pub lane2 : bit (zeros16 w) 32 ≡ is_zero c
  lane2 = zeros16_bit w 32 lanes_lt (omega arith) ∙ ap is_zero (omega arith)

  pub lane3 : bit (zeros16 w) 48 ≡ is_zero d
  lane3 = zeros16_bit w 48 lanes_lt (omega arith) ∙ ap is_zero (omega arith)
