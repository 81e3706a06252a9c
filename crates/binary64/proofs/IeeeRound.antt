-- The bits of what the library's `round` gives are `mag_bits`, for a magnitude that is zero or not below the least normal one.
-- Over the format, and over the unit 2^-(low + j): j = 0 for sums, j = low for products. Rests on Round and lib.Ieee.
use mathlib.Core.Path.{◌≡◌, refl, sym, ap, ap₂, ◌∙◌, subst}
use mathlib.Core.Logic.{inl, inr}
use mathlib.Core.Bool.{Bool, cond}
use Prim.Native.Nat.compare
use Prim.Native.Nat.{ℕ, zero, suc, ◌+◌, ◌-◌, ◌*◌, ◌/◌, ◌^◌, ◌≤◌, ◌<◌, min, compare}
use native.Mathlib.Nat.{le_trans, le_of_eq, le_of_lt, le_antisymm, lt_of_lt_of_le, lt_of_le_of_lt, lt_irrefl, mul_assoc, mul-le-mul_right, mul-lt-mul_of_pos_right, mul-pos, mul-div_cancel, zero-mul, zero-sub, add-zero, add_assoc, suc-add, pow-suc, pow-succ', eq-or-lt_of_le, le_of_mul-le-mul_right, div-eq_of_lt, mod-eq_of_lt, le-div_iff_mul-le, div-lt_iff_lt-mul, min-eq_left, min-eq_right}
use native.Mathlib.Omega.{arith}
use lib.Arith.{le→nltb}
use lib.Dec.{ltb}
use lib.Pow.{pow_pos, pow-add, pow_mono, shr-shr}
use lib.Ieee.{Float, nan, inf, fin, Format, binary32, binary64, prec, emax, low, up, down, size, nearest, odd, units, round, hid, ones, top, to_bits}
use lib.Ieee.Bits.{cond_no}
use lib.Ieee.Digits.{size-lt, size_reaches}
use lib.Ieee.Exact.{HasValue, units_val}
use lib.Ieee.Fits.{down_pos, kept-lt, round_is}
use lib.Ieee.Nearest.{closest, closest_same, div_same}
use Rattle.binary64.specs.Rounding.{rounded_significand, mag_bits}
use Rattle.binary64.specs.Ieee.{ZeroOrLarge}
use Rattle.binary64.specs.inner.Steps.{packed}
use Rattle.binary64.proofs.Cases.{lt_or_ge, if_not_lt, pow_lt_back, size_gt, size_is}
use Rattle.binary64.proofs.Round.{closest_up, closest_down, kept_ge, mag_bits_min, bits_zero}

-- ---- `to_bits` at a value of n units
to_bits_at : (f : Format) (x : Float) (s : Bool) (n : ℕ) → HasValue x s n (2 ^ low f)
    → to_bits f x ≡ cond s (top f) 0 + (size n - prec f) * hid f + n / 2 ^ (size n - prec f)
unfolding to_bits
to_bits_at f nan s n h = absurd h
to_bits_at f (inf t) s n h = absurd h
to_bits_at f (fin t m e) s n h =
    let v : m * up e * 2 ^ low f / down e ≡ n = ap (λ (x : ℕ). x / down e) h.1 ∙ mul-div_cancel n (down_pos e) in
    ap₂ (λ (b : Bool) (x : ℕ). cond b (top f) 0 + (size x - prec f) * hid f + x / 2 ^ (size x - prec f)) h.0 v

shift_two : (p k : ℕ) → 2 ^ suc p * 2 ^ k ≡ 2 ^ p * 2 ^ suc k
shift_two p k = ap (λ (w : ℕ). w * 2 ^ k) (pow-suc 2 p) ∙ mul_assoc (2 ^ p) 2 (2 ^ k) ∙ ap (λ (w : ℕ). 2 ^ p * w) (sym (pow-succ' 2 k))

-- ---- q · 2^k for a q of p + 1 bits, or 2^(p+1): its field and digits make k · 2^p + q
bits_of : (p q k : ℕ) → 2 ^ p ≤ q → q ≤ 2 ^ suc p → (size (q * 2 ^ k) - suc p) * 2 ^ p + q * 2 ^ k / 2 ^ (size (q * 2 ^ k) - suc p) ≡ k * 2 ^ p + q
bits_of p q k lo hi =
    elim (eq-or-lt_of_le hi) [
      | inl e ↦
          let n2 : q * 2 ^ k ≡ 2 ^ (suc p + k) = ap (λ (z : ℕ). z * 2 ^ k) e ∙ sym (pow-add 2 (suc p) k) in
          let z : size (2 ^ (suc p + k)) ≡ suc (suc p + k) = size_is (2 ^ (suc p + k)) (suc p + k) (le_of_eq refl) (omega (arith, pow_pos (suc p + k))) in
          let zk : size (q * 2 ^ k) - suc p ≡ suc k = ap (λ (w : ℕ). size w - suc p) n2 ∙ ap (λ (w : ℕ). w - suc p) z ∙ omega arith in
          let d : q * 2 ^ k ≡ 2 ^ p * 2 ^ suc k = ap (λ (w : ℕ). w * 2 ^ k) e ∙ shift_two p k in
          ap₂ (λ (x y : ℕ). x * 2 ^ p + y / 2 ^ x) zk d ∙ ap (λ (w : ℕ). suc k * 2 ^ p + w) (mul-div_cancel (2 ^ p) (pow_pos (suc k))) ∙ omega arith
      | inr l ↦
          let lo2 : 2 ^ (p + k) ≤ q * 2 ^ k = le_trans (le_of_eq (pow-add 2 p k)) (mul-le-mul_right (2 ^ k) lo) in
          let hi2 : q * 2 ^ k < 2 ^ suc (p + k) = lt_of_lt_of_le (mul-lt-mul_of_pos_right l (pow_pos k)) (le_of_eq (sym (pow-add 2 (suc p) k) ∙ ap (λ (w : ℕ). 2 ^ w) (suc-add p k))) in
          let zk : size (q * 2 ^ k) - suc p ≡ k = ap (λ (w : ℕ). w - suc p) (size_is (q * 2 ^ k) (p + k) lo2 hi2) ∙ omega arith in
          ap (λ (x : ℕ). x * 2 ^ p + q * 2 ^ k / 2 ^ x) zk ∙ ap (λ (w : ℕ). k * 2 ^ p + w) (mul-div_cancel q (pow_pos k))
    ]

-- ---- q · 2^k overflows, from 2^(p + 2m) on, exactly where k · 2^p + q reaches (2m + 1) · 2^p
over : (p m q k : ℕ) → 2 ^ p ≤ q → q ≤ 2 ^ suc p → 2 ^ (p + 2 * m) ≤ q * 2 ^ k → (2 * m + 1) * 2 ^ p ≤ k * 2 ^ p + q
over p m q k lo hi h =
    elim (lt_or_ge k (2 * m)) [
      | inl l ↦
          let b : 2 ^ (p + 2 * m) ≤ 2 ^ (suc p + k) = le_trans h (le_trans (mul-le-mul_right (2 ^ k) hi) (le_of_eq (sym (pow-add 2 (suc p) k)))) in
          let kk : suc k ≡ 2 * m = le_antisymm (omega arith) (reach b) in
          let d : 2 ^ suc p * 2 ^ k ≤ q * 2 ^ k = le_trans (le_of_eq (shift_two p k ∙ ap (λ (w : ℕ). 2 ^ p * 2 ^ w) kk ∙ sym (pow-add 2 p (2 * m)))) h in
          let e : 2 ^ suc p ≤ q = le_of_mul-le-mul_right d (pow_pos k) in
          let g : suc k * 2 ^ p ≡ 2 * m * 2 ^ p = ap (λ (w : ℕ). w * 2 ^ p) kk in
          omega arith
      | inr l ↦ omega (arith, mul-le-mul_right (2 ^ p) l)
    ]
  where
    reach : 2 ^ (p + 2 * m) ≤ 2 ^ (suc p + k) → 2 * m ≤ suc k
    reach b = let x : p + 2 * m < suc (suc p + k) = pow_lt_back (p + 2 * m) (suc (suc p + k)) (omega (arith, b, pow_pos (suc p + k))) in omega arith

under : (p m q k : ℕ) → 2 ^ p ≤ q → q ≤ 2 ^ suc p → q * 2 ^ k < 2 ^ (p + 2 * m) → k * 2 ^ p + q < (2 * m + 1) * 2 ^ p
under p m q k lo hi h =
    let a : p + k < p + 2 * m = pow_lt_back (p + k) (p + 2 * m) (lt_of_le_of_lt (le_trans (le_of_eq (pow-add 2 p k)) (mul-le-mul_right (2 ^ k) lo)) h) in
    let a' : suc k ≤ 2 * m = omega arith in
    elim (eq-or-lt_of_le hi) [
      | inl e ↦
          let b : suc p + k < p + 2 * m = pow_lt_back (suc p + k) (p + 2 * m) (lt_of_le_of_lt (le_of_eq (pow-add 2 (suc p) k ∙ ap (λ (w : ℕ). w * 2 ^ k) (sym e))) h) in
          let b' : suc (suc k) ≤ 2 * m = omega arith in
          omega (arith, mul-le-mul_right (2 ^ p) b', pow_pos p)
      | inr l ↦ omega (arith, mul-le-mul_right (2 ^ p) a')
    ]

-- ---- the bits of `units`, in the normal range
prec_is : (f : Format) → prec f ≡ suc (prec f - 1)
prec_is binary32 = refl
prec_is binary64 = refl

limit_is : (f : Format) → low f + suc (emax f) ≡ (prec f - 1) + 2 * emax f
limit_is binary32 = refl
limit_is binary64 = refl

units_over : (f : Format) (s : Bool) (q k : ℕ) → 2 ^ (low f + suc (emax f)) ≤ q * 2 ^ k → units f s q k ≡ inf s
unfolding units
units_over f s q k h = cond_no (ltb (q * 2 ^ k) (2 ^ (low f + suc (emax f)))) (odd (suc (prec f)) s q k (low f)) (inf s) (le→nltb (q * 2 ^ k) (2 ^ (low f + suc (emax f))) h)

bits_inf : (f : Format) (s : Bool) → to_bits f (inf s) ≡ cond s (top f) 0 + ones f * hid f
unfolding to_bits
bits_inf f s = refl

units_bits : (f : Format) (s : Bool) (q k : ℕ) → hid f ≤ q → q ≤ 2 ^ prec f → to_bits f (units f s q k) ≡ cond s (top f) 0 + min (k * hid f + q) (ones f * hid f)
units_bits f s q k lo hi =
    let hi' : q ≤ 2 ^ suc (prec f - 1) = subst (λ (z : ℕ). q ≤ 2 ^ z) (prec_is f) hi in
    elim (lt_or_ge (q * 2 ^ k) (2 ^ (low f + suc (emax f)))) [
      | inl h ↦
          let u : k * hid f + q < (2 * emax f + 1) * hid f = under (prec f - 1) (emax f) q k lo hi' (subst (λ (z : ℕ). q * 2 ^ k < 2 ^ z) (limit_is f) h) in
          to_bits_at f (units f s q k) s (q * 2 ^ k) (units_val f s q k h)
          ∙ add_assoc (cond s (top f) 0) ((size (q * 2 ^ k) - prec f) * hid f) (q * 2 ^ k / 2 ^ (size (q * 2 ^ k) - prec f))
          ∙ ap (λ (z : ℕ). cond s (top f) 0 + z)
          (ap (λ (z : ℕ). (size (q * 2 ^ k) - z) * hid f + q * 2 ^ k / 2 ^ (size (q * 2 ^ k) - z)) (prec_is f) ∙ bits_of (prec f - 1) q k lo hi' ∙ sym (min-eq_left (le_of_lt u)))
      | inr h ↦
          ap (to_bits f) (units_over f s q k h) ∙ bits_inf f s
          ∙ ap (λ (z : ℕ). cond s (top f) 0 + z) (sym (min-eq_right (over (prec f - 1) (emax f) q k lo hi' (subst (λ (z : ℕ). 2 ^ z ≤ q * 2 ^ k) (limit_is f) h))))
    ]

-- ---- the bits of `round`, M units of 2^-(low + j), not below the least normal number
abbrev dropped : Format → ℕ → ℕ → ℕ
dropped f j M = size (M / 2 ^ j) - prec f

round_bits : (f : Format) (s : Bool) (j M : ℕ) → hid f ≤ M / 2 ^ j
    → to_bits f (round f s M (2 ^ low f * 2 ^ j)) ≡ cond s (top f) 0 + min (dropped f j M * hid f + closest M (2 ^ (j + dropped f j M))) (ones f * hid f)
round_bits f s j M normal =
    let L = 2 ^ low f in
    let J = 2 ^ j in
    let W = M / 2 ^ j in
    let k = dropped f j M in
    let lp : 0 < L = pow_pos (low f) in
    let jp : 0 < J = pow_pos j in
    let pw : 2 ^ (j + k) ≡ J * 2 ^ k = pow-add 2 j k in
    let w : M * L / (L * J) ≡ M / J = div_same (M * L) (L * J) M J (mul-pos lp jp) jp (mul_assoc M L J) in
    let c : closest (M * L) (L * J * 2 ^ k) ≡ closest M (J * 2 ^ k) =
    closest_same (M * L) (L * J * 2 ^ k) M (J * 2 ^ k) (mul-pos (mul-pos lp jp) (pow_pos k)) (mul-pos jp (pow_pos k))
    (mul_assoc M L (J * 2 ^ k) ∙ ap (λ (z : ℕ). M * z) (sym (mul_assoc L J (2 ^ k)))) in
    let q = closest M (2 ^ (j + k)) in
    let wh : M / 2 ^ (j + k) ≡ W / 2 ^ k = sym (shr-shr M j k) in
    let hi : q ≤ 2 ^ prec f = le_trans (closest_up M (2 ^ (j + k))) (subst (λ (z : ℕ). z < 2 ^ prec f) (sym wh) (kept-lt (prec f) W)) in
    let lo : hid f ≤ q =
    le_trans (subst (λ (z : ℕ). hid f ≤ z) (sym wh) (subst (λ (z : ℕ). hid f ≤ W / 2 ^ (size W - z)) (sym (prec_is f)) (kept_ge (prec f - 1) W normal))) (closest_down M (2 ^ (j + k))) in
    ap (to_bits f)
    (round_is f s M (L * J) ∙ ap (λ (z : ℕ). units f s (closest (M * L) (L * J * 2 ^ (size z - prec f))) (size z - prec f)) w
    ∙ ap (λ (z : ℕ). units f s z k) (c ∙ ap (closest M) (sym pw)))
    ∙ units_bits f s q k lo hi

-- ---- in document 01's terms, at binary64
size_div : (M L : ℕ) → 2 ^ L ≤ M → size (M / 2 ^ L) ≡ size M - L
size_div M L h =
    let g : L < size M = size_gt M L h in
    let c = size M - suc L in
    let e₁ : size M - suc L + L < size M = omega arith in
    let e₂ : suc (size M - suc L) + L ≡ size M = omega arith in
    let lo : 2 ^ c ≤ M / 2 ^ L = (le-div_iff_mul-le (pow_pos L)).1 (le_trans (le_of_eq (sym (pow-add 2 c L))) (size_reaches M (c + L) e₁)) in
    let hi : M / 2 ^ L < 2 ^ suc c = (div-lt_iff_lt-mul (pow_pos L)).1 (lt_of_lt_of_le (size-lt M) (le_of_eq (ap (λ (z : ℕ). 2 ^ z) (sym e₂) ∙ pow-add 2 (suc c) L))) in
    size_is (M / 2 ^ L) c lo hi ∙ last (size M) L g
  where
    last : (z L : ℕ) → L < z → suc (z - suc L) ≡ z - L
    last z L g = omega arith

large : (M j : ℕ) → 2 ^ (52 + j) ≤ M → min ((size (M / 2 ^ j) - 53) * 2 ^ 52 + closest M (2 ^ (j + (size (M / 2 ^ j) - 53)))) (2047 * 2 ^ 52) ≡ mag_bits (52 + j) M
large M j h =
    let g : 52 + j < size M = size_gt M (52 + j) h in
    let hl : 2 ^ j ≤ M = le_trans (pow_mono {i = j} {j = 52 + j} (omega arith)) h in
    let d : size (M / 2 ^ j) - 53 ≡ size M - suc (52 + j) = ap (λ (z : ℕ). z - 53) (size_div M j hl) ∙ minus (size M) j in
    let k : j + (size (M / 2 ^ j) - 53) ≡ size M - 53 = ap (λ (z : ℕ). j + z) d ∙ plus (size M) j g in
    ap₂ (λ (x y : ℕ). packed x (closest M (2 ^ y))) d k
    ∙ sym (mag_bits_min (52 + j) M (omega arith) ∙ if_not_lt M (2 ^ (52 + j)) 0 (packed (size M - suc (52 + j)) (rounded_significand M)) h)
  where
    minus : (z j : ℕ) → z - j - 53 ≡ z - suc (52 + j)
    minus z j = omega arith

    plus : (z j : ℕ) → 52 + j < z → j + (z - suc (52 + j)) ≡ z - 53
    plus z j g = omega arith

closest_zero : (u : ℕ) → 0 < u → closest 0 u ≡ 0
closest_zero zero h = absurd (lt_irrefl 0 h)
closest_zero (suc u) h = ap₂ (λ (x y : ℕ). nearest x (compare (y * 2) (suc u))) (div-eq_of_lt h) (mod-eq_of_lt h) ∙ ap (nearest 0) (compare.zero-suc u)

size_zero : size 0 ≡ 0
unfolding size
size_zero = refl

round_zero : (f : Format) (s : Bool) (den : ℕ) → 0 < den → to_bits f (round f s 0 den) ≡ cond s (top f) 0
round_zero f s den h =
    let n0 : 0 * 2 ^ low f ≡ 0 = zero-mul (2 ^ low f) in
    let z0 : size 0 - prec f ≡ 0 = ap (λ (x : ℕ). x - prec f) size_zero ∙ zero-sub (prec f) in
    let k0 : size (0 * 2 ^ low f / den) - prec f ≡ 0 = ap (λ (x : ℕ). size (x / den) - prec f) n0 ∙ ap (λ (x : ℕ). size x - prec f) (div-eq_of_lt h) ∙ z0 in
    let q0 : closest 0 (den * 2 ^ 0) ≡ 0 = closest_zero (den * 2 ^ 0) (mul-pos h (pow_pos 0)) in
    let v : HasValue (units f s 0 0) s 0 (2 ^ low f) = units_val f s 0 0 (pow_pos (low f + suc (emax f))) in
    let t = cond s (top f) 0 in
    ap (to_bits f) (round_is f s 0 den ∙ ap₂ (λ (x y : ℕ). units f s (closest x (den * 2 ^ y)) y) n0 k0 ∙ ap (λ (x : ℕ). units f s x 0) q0)
    ∙ to_bits_at f (units f s 0 0) s 0 v
    ∙ ap (λ (x : ℕ). t + x * hid f + 0 / 2 ^ x) z0
    ∙ ap (λ (x : ℕ). x + 0) (ap (λ (x : ℕ). t + x) (zero-mul (hid f)) ∙ add-zero t) ∙ add-zero t

pub round_mag_bits : (s : Bool) (j M : ℕ) → ZeroOrLarge (52 + j) M → to_bits binary64 (round binary64 s M (2 ^ low binary64 * 2 ^ j)) ≡ cond s (top binary64) 0 + mag_bits (52 + j) M
round_mag_bits s j M (inl z) =
    ap (λ (m : ℕ). to_bits binary64 (round binary64 s m (2 ^ low binary64 * 2 ^ j))) z
    ∙ round_zero binary64 s (2 ^ low binary64 * 2 ^ j) (mul-pos (pow_pos (low binary64)) (pow_pos j))
    ∙ sym (ap (λ (x : ℕ). cond s (top binary64) 0 + x) (ap (mag_bits (52 + j)) z ∙ bits_zero (52 + j)) ∙ add-zero (cond s (top binary64) 0))
round_mag_bits s j M (inr h) =
    round_bits binary64 s j M ((le-div_iff_mul-le (pow_pos j)).1 (le_trans (le_of_eq (sym (pow-add 2 52 j))) h))
    ∙ ap (λ (x : ℕ). cond s (top binary64) 0 + x) (large M j h)
