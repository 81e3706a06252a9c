-- The rounding of a magnitude in one `min`, and at a given place of its top bit: what every proof about a result's bits goes by.
-- Rests on Cases, Jam and lib.Ieee's bounds on digits.
use mathlib.Core.Path.{◌≡◌, refl, sym, ap, ap₂, ◌∙◌, subst}
use mathlib.Core.Logic.{inl, inr}
use mathlib.Core.Bool.{cond}
use Prim.Native.Nat.{ℕ, zero, suc, ◌+◌, ◌-◌, ◌*◌, ◌/◌, ◌%◌, ◌^◌, ◌≤◌, ◌<◌, min, compare, Ordering}
use native.Mathlib.Nat.{mod-lt, div-add-mod', div-eq_of_lt, mul-add-div_right, add_assoc, le_trans, le_of_eq, lt_of_lt_of_le, mul_assoc, mul_right_comm, mul-le-mul_right, mul-lt-mul_of_pos_right, zero-add, suc-add, suc-sub-suc, eq-or-lt_of_le, le-div_iff_mul-le, div-one, mod-one}
use native.Mathlib.Omega.{arith}
use lib.Arith.{digits_lt, digits_div}
use lib.Dec.{ltb, eqb}
use lib.Pow.{pow_pos, pow-add, pow_mono, mod-pow-add}
use lib.Ieee.{size, nearest}
use lib.Ieee.Digits.{size_reaches}
use lib.Ieee.Fits.{kept-lt, nearest-le}
use lib.Ieee.Nearest.{closest, closest_same, nearest-ge}
use Rattle.binary64.specs.Rounding.{rounded_significand, rounded_e, rounded_f, limited, mag_bits}
use Rattle.binary64.specs.inner.Steps.{round_ne, packed}
use Rattle.binary64.proofs.Jam.{closest_by}
use Rattle.binary64.proofs.Cases.{Cmp, cmp, lt_or_ge, if_lt, if_not_lt, if_le, if_not_le, if_eq, if_not_eq, size_gt, size_is}

-- ---- the rounded significand has 53 bits, or is 2^53
pub closest_up : (a b : ℕ) → closest a b ≤ suc (a / b)
closest_up a b = nearest-le (a / b) (compare (a % b * 2) b)

pub closest_down : (a b : ℕ) → a / b ≤ closest a b
closest_down a b = nearest-ge (a / b) (compare (a % b * 2) b)

pub kept_ge : (p M : ℕ) → 2 ^ p ≤ M → 2 ^ p ≤ M / 2 ^ (size M - suc p)
kept_ge p M h =
    let k = size M - suc p in
    let g : p < size M = size_gt M p h in
    let l : p + k < size M = omega arith in
    (le-div_iff_mul-le (pow_pos k)).1 (le_trans (le_of_eq (sym (pow-add 2 p k))) (size_reaches M (p + k) l))

pub significand_ge : (M : ℕ) → 2 ^ 52 ≤ M → 2 ^ 52 ≤ rounded_significand M
significand_ge M h = le_trans (kept_ge 52 M h) (closest_down M (2 ^ (size M - 53)))

pub significand_le : (M : ℕ) → rounded_significand M ≤ 2 ^ 53
significand_le M = le_trans (closest_up M (2 ^ (size M - 53))) (kept-lt 53 M)

-- ---- E, F and the limit as one `min`; z is the length of the magnitude
module _ (z u q : ℕ) (hz : u < z) (lo : 2 ^ 52 ≤ q) where
  plain : q < 2 ^ 53 → limited (z - u + 0) (q % 2 ^ 52) ≡ packed (z - suc u) q
  plain h =
      elim (lt_or_ge (z - u + 0) 2047) [
        | inl l ↦ if_not_le 2047 (z - u + 0) (2047 * 2 ^ 52 + 0) ((z - u + 0) * 2 ^ 52 + q % 2 ^ 52) l ∙ omega arith
        | inr l ↦ if_le 2047 (z - u + 0) (2047 * 2 ^ 52 + 0) ((z - u + 0) * 2 ^ 52 + q % 2 ^ 52) l ∙ omega arith
      ]

  carried : q ≡ 2 ^ 53 → limited (z - u + 1) (q % 2 ^ 52) ≡ packed (z - suc u) q
  carried h =
      elim (lt_or_ge (z - u + 1) 2047) [
        | inl l ↦ if_not_le 2047 (z - u + 1) (2047 * 2 ^ 52 + 0) ((z - u + 1) * 2 ^ 52 + q % 2 ^ 52) l ∙ omega arith
        | inr l ↦ if_le 2047 (z - u + 1) (2047 * 2 ^ 52 + 0) ((z - u + 1) * 2 ^ 52 + q % 2 ^ 52) l ∙ omega arith
      ]

  fields_min : q ≤ 2 ^ 53 → limited (z - u + cond (eqb q (2 ^ 53)) 1 0) (q % 2 ^ 52) ≡ packed (z - suc u) q
  fields_min hi =
      elim (eq-or-lt_of_le hi) [
        | inl e ↦ ap (λ (x : ℕ). limited (z - u + x) (q % 2 ^ 52)) (if_eq q (2 ^ 53) 1 0 e) ∙ carried e
        | inr l ↦ ap (λ (x : ℕ). limited (z - u + x) (q % 2 ^ 52)) (if_not_eq q (2 ^ 53) 1 0 (λ e. apart q l e)) ∙ plain l
      ]
    where
      apart : (q : ℕ) → q < 2 ^ 53 → q ≡ 2 ^ 53 → ⊥
      apart q l e = omega arith

-- the compact form
pub mag_bits_min : (u M : ℕ) → 52 ≤ u
    → mag_bits u M ≡ cond (ltb M (2 ^ u)) 0 (min ((size M - suc u) * 2 ^ 52 + closest M (2 ^ (size M - 53))) (2047 * 2 ^ 52))
unfolding mag_bits rounded_e rounded_f
mag_bits_min u M h52 =
    elim (lt_or_ge M (2 ^ u)) [
      | inl l ↦
          if_lt M (2 ^ u) 0 (limited (size M - u + cond (eqb (rounded_significand M) (2 ^ 53)) 1 0) (rounded_significand M % 2 ^ 52)) l
          ∙ sym (if_lt M (2 ^ u) 0 (packed (size M - suc u) (rounded_significand M)) l)
      | inr l ↦
          if_not_lt M (2 ^ u) 0 (limited (size M - u + cond (eqb (rounded_significand M) (2 ^ 53)) 1 0) (rounded_significand M % 2 ^ 52)) l
          ∙ fields_min (size M) u (rounded_significand M) (size_gt M u l) (significand_ge M (le_trans (pow_mono h52) l)) (significand_le M)
          ∙ sym (if_not_lt M (2 ^ u) 0 (packed (size M - suc u) (rounded_significand M)) l)
    ]

-- below 2^u nothing is left, whatever it would be rounded to
pub bits_small : (u M : ℕ) → M < 2 ^ u → mag_bits u M ≡ 0
unfolding mag_bits
bits_small u M h = if_lt M (2 ^ u) 0 (limited (rounded_e u M) (rounded_f M)) h

pub bits_zero : (u : ℕ) → mag_bits u 0 ≡ 0
bits_zero u = bits_small u 0 (pow_pos u)

-- the limit leaves bit 63 free
pub limit : (x : ℕ) → min x (2047 * 2 ^ 52) < 2 ^ 63
limit x = omega arith

pub bits_lt : (u M : ℕ) → 52 ≤ u → mag_bits u M < 2 ^ 63
bits_lt u M h =
    subst (λ (x : ℕ). x < 2 ^ 63) (sym (mag_bits_min u M h))
    (elim (lt_or_ge M (2 ^ u)) [
      | inl l ↦ subst (λ (x : ℕ). x < 2 ^ 63) (sym (if_lt M (2 ^ u) 0 (packed (size M - suc u) (rounded_significand M)) l)) (pow_pos 63)
      | inr l ↦ subst (λ (x : ℕ). x < 2 ^ 63) (sym (if_not_lt M (2 ^ u) 0 (packed (size M - suc u) (rounded_significand M)) l)) (limit ((size M - suc u) * 2 ^ 52 + rounded_significand M))
    ])

-- ---- M's top bit has place c
module _ (u M c : ℕ) (h52 : 52 ≤ u) (lo : 2 ^ c ≤ M) (hi : M < 2 ^ suc c) where
  pub bits_under : c < u → mag_bits u M ≡ 0
  bits_under h = bits_small u M (lt_of_lt_of_le hi (pow_mono h))

  pub bits_over : u ≤ c → mag_bits u M ≡ packed (c - u) (round_ne M (c - 52))
  unfolding round_ne
  bits_over h =
      let z : size M ≡ suc c = size_is M c lo hi in
      mag_bits_min u M h52
      ∙ if_not_lt M (2 ^ u) 0 (packed (size M - suc u) (rounded_significand M)) (le_trans (pow_mono h) lo)
      ∙ ap (λ (x : ℕ). packed (x - suc u) (closest M (2 ^ (x - 53)))) z
      ∙ ap₂ (λ (x y : ℕ). packed x (closest M (2 ^ y))) (suc-sub-suc c u) (suc-sub-suc c 52)

-- ---- rounding looks at ratios only
pub round_scale : (N e k : ℕ) → round_ne (N * 2 ^ e) (k + e) ≡ round_ne N k
unfolding round_ne
round_scale N e k =
    closest_same (N * 2 ^ e) (2 ^ (k + e)) N (2 ^ k) (pow_pos (k + e)) (pow_pos k)
    (mul_right_comm N (2 ^ e) (2 ^ k) ∙ mul_assoc N (2 ^ k) (2 ^ e) ∙ ap (λ (z : ℕ). N * z) (sym (pow-add 2 k e)))

pub round_none : (N : ℕ) → round_ne N 0 ≡ N
unfolding round_ne
round_none N = ap₂ (λ (x y : ℕ). nearest x (compare (y * 2) 1)) (div-one N) (mod-one N)

-- so a number of 53 bits times 2^e is its own rounding
pub bits_exact : (W e : ℕ) → 2 ^ 52 ≤ W → W < 2 ^ 53 → mag_bits 52 (W * 2 ^ e) ≡ packed e W
bits_exact W e lo hi =
    let s : 52 + e - 52 ≡ 0 + e = omega arith in
    let top : W * 2 ^ e < 2 ^ suc (52 + e) = lt_of_lt_of_le (mul-lt-mul_of_pos_right hi (pow_pos e)) (le_of_eq (sym (pow-add 2 53 e) ∙ ap (λ (z : ℕ). 2 ^ z) (suc-add 52 e))) in
    bits_over 52 (W * 2 ^ e) (52 + e) (omega arith) (le_trans (le_of_eq (pow-add 2 52 e)) (mul-le-mul_right (2 ^ e) lo)) top (omega arith)
    ∙ ap₂ (λ (x y : ℕ). packed x (round_ne (W * 2 ^ e) y)) s s
    ∙ ap₂ packed (zero-add e) (round_scale W e 0 ∙ round_none W)

-- ---- ties: q whole units, the first bit b dropped and the rest t below it round up where b is set, and q is odd or t is not zero
tie : (q b t P : ℕ) → b < 2 → t < P → nearest q (compare ((b * P + t) * 2) (2 * P)) ≡ q + b * min (q % 2 + t) 1
tie q zero t P hb ht = go (compare ((0 * P + t) * 2) (2 * P)) (cmp ((0 * P + t) * 2) (2 * P))
  where
    go : (o : Ordering) → Cmp o ((0 * P + t) * 2) (2 * P) → nearest q o ≡ q + 0 * min (q % 2 + t) 1
    go Ordering.lt h = omega arith
    go Ordering.eq h = absurd (omega arith)
    go Ordering.gt h = absurd (omega arith)
tie q (suc zero) t P hb ht = go (compare ((1 * P + t) * 2) (2 * P)) (cmp ((1 * P + t) * 2) (2 * P))
  where
    go : (o : Ordering) → Cmp o ((1 * P + t) * 2) (2 * P) → nearest q o ≡ q + 1 * min (q % 2 + t) 1
    go Ordering.lt h = absurd (omega arith)
    go Ordering.eq h = omega arith
    go Ordering.gt h = omega arith
tie q (suc (suc b)) t P hb ht = absurd (omega arith)

-- N · 2^(k+1) + r · 2^k + s, with s below 2^k, rounded to a multiple of 2^(k+1)
pub round_tie : (k N r s : ℕ) → r < 2 → s < 2 ^ k → round_ne (N * 2 ^ suc k + (r * 2 ^ k + s)) (suc k) ≡ N + r * min (N % 2 + s) 1
unfolding round_ne
round_tie k N r s hr hs =
    let e : 2 ^ suc k ≡ 2 * 2 ^ k = omega arith in
    ap (λ (b : ℕ). closest (N * b + (r * 2 ^ k + s)) b) e ∙ closest_by N (r * 2 ^ k + s) (2 * 2 ^ k) (digits_lt hr hs) ∙ tie N r s (2 ^ k) hr hs

-- the first of k + 1 low bits
pub first_dropped : (N k : ℕ) → N % 2 ^ suc k ≡ N / 2 ^ k % 2 * 2 ^ k + N % 2 ^ k
first_dropped N k = let e : suc k ≡ 1 + k = omega arith in ap (λ (z : ℕ). N % 2 ^ z) e ∙ mod-pow-add N 1 k

-- the same by an addition, of half a unit less one and of l, the last bit kept: the carry out of the bits dropped
half_carry : (b t l P : ℕ) → b < 2 → t < P → l < 2 → (b * P + t + (P - 1 + l)) / (2 * P) ≡ b * min (l + t) 1
half_carry zero t l P hb ht hl = div-eq_of_lt (omega arith) ∙ omega arith
half_carry (suc zero) t l P hb ht hl = go (l + t) refl
  where
    go : (m : ℕ) → l + t ≡ m → (1 * P + t + (P - 1 + l)) / (2 * P) ≡ 1 * min m 1
    go zero e = div-eq_of_lt (omega arith)
    go (suc m) e =
        let s : 1 * P + t + (P - 1 + l) ≡ 1 * (2 * P) + m = omega arith in
        ap (λ (z : ℕ). z / (2 * P)) s ∙ digits_div 1 (omega arith) ∙ omega arith
half_carry (suc (suc b)) t l P hb ht hl = absurd (omega arith)

pub half_added : (N k l : ℕ) → l < 2 → (N + (2 ^ k - 1 + l)) / 2 ^ suc k ≡ N / 2 ^ suc k + N / 2 ^ k % 2 * min (l + N % 2 ^ k) 1
half_added N k l hl =
    let P = 2 ^ suc k in
    let h = 2 ^ k - 1 + l in
    let pw : 2 ^ suc k ≡ 2 * 2 ^ k = omega arith in
    let e : N + h ≡ N / P * P + (N % P + h) = ap (λ (z : ℕ). z + h) (sym (div-add-mod' N P)) ∙ add_assoc (N / P * P) (N % P) h in
    ap (λ (z : ℕ). z / P) e ∙ mul-add-div_right (pow_pos (suc k)) (N / P) (N % P + h)
    ∙ ap (λ (z : ℕ). N / P + z)
    (ap₂ (λ (r p : ℕ). (r + h) / p) (first_dropped N k) pw ∙ half_carry (N / 2 ^ k % 2) (N % 2 ^ k) l (2 ^ k) (mod-lt (N / 2 ^ k) (omega arith)) (mod-lt N (pow_pos k)) hl)

-- eleven bits at once
pub round_11 : (N : ℕ) → round_ne N 11 ≡ N / 2048 + (N % 2048 + 1023 + N / 2048 % 2) / 2048
round_11 N =
    let l = N / 2048 % 2 in
    let b = N / 1024 % 2 in
    let t = N % 1024 in
    ap (λ (z : ℕ). round_ne z 11) (parts N) ∙ round_tie 10 (N / 2048) b t (omega arith) (omega arith)
    ∙ ap (λ (z : ℕ). N / 2048 + z) (sym (half_carry b t l 1024 (omega arith) (omega arith) (omega arith)) ∙ ap (λ (z : ℕ). z / 2048) (sum N))
  where
    parts : (N : ℕ) → N ≡ N / 2048 * 2048 + (N / 1024 % 2 * 1024 + N % 1024)
    parts N = omega arith

    sum : (N : ℕ) → N / 1024 % 2 * 1024 + N % 1024 + (1023 + N / 2048 % 2) ≡ N % 2048 + 1023 + N / 2048 % 2
    sum N = omega arith

-- a number with its top bit at 63 keeps 53 bits, or rounds to 2^53
pub round_top : (N : ℕ) → 2 ^ 63 ≤ N → N < 2 ^ 64 → (2 ^ 52 ≤ round_ne N 11) × (round_ne N 11 ≤ 2 ^ 53)
round_top N lo hi = let e = round_11 N in (omega arith, omega arith)
