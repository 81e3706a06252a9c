-- What the product's tail leaves, by the range of T = (S + C) / 2^52 (Ended). T = 4096 happens: then U is 0, and the carry out of R tells that it is beyond.
-- Rests on Closing, Chosen and AddWithRun.
use mathlib.Core.Path.{◌≡◌, refl, sym, ap, ap₂, ◌∙◌, subst}
use mathlib.Core.Logic.{inl, inr}
use Prim.Native.Nat.{ℕ, ◌+◌, ◌-◌, ◌*◌, ◌/◌, ◌%◌, ◌^◌, ◌≤◌, ◌<◌, min}
use native.Mathlib.Nat.{mod-lt, mod-eq_of_lt, div-eq_of_lt, mul-zero, zero-mul, one-mul, mul_comm}
use native.Mathlib.Omega.{arith}
use lib.Pow.{pow_pos, mod-pow-add, shr-shr}
use Rattle.bits.specs.Ops.{xor_w, not_w, shl_w, add_w}
use Rattle.bits.proofs.Digits.{digit, bit_lt}
use Rattle.bits.proofs.Bound.{xor_lt, shr_lt}
use Rattle.binary64.specs.Number.{expo, signed}
use Rattle.binary64.proofs.Cases.{lt_or_ge}
use Rattle.plans.proofs.Lanes.{is_zero}
use Rattle.plans.proofs.Shifts.{add_is}
use Rattle.plans.proofs.AddWithRun.{Words, whole_run, Runs, whole_run_is}
use Rattle.plans.proofs.SmallBits.{mul_bit, bits4}
use Rattle.plans.proofs.product.Operands.{expo_lt}
use Rattle.plans.proofs.product.Ended.{Ended, first_bit, second_bit, rest_ones, carry_of, last_of, both_nonzero, sign_of}
use Rattle.plans.proofs.product.End.{parity_w, after_w, signed_w, chosen_w, end_w}
use Rattle.plans.proofs.product.Pairs.{low_of, high_of, parity_is}
use Rattle.plans.proofs.product.Tested.{in_of, over_of, in_is, over_is}
use Rattle.plans.proofs.product.Products.{carry_lt}
use Rattle.plans.proofs.product.Rounded.{changed, change_none, change_some}
use Rattle.plans.proofs.product.Chosen.{chosen_within, chosen_outside, signed_is}
use Rattle.plans.proofs.product.Closing.{after_is}

-- 1024 off the exponent of a word in range
lower : (a : ℕ) → 1025 * 2 ^ 52 ≤ a → a < 3072 * 2 ^ 52 → (a % 2 ^ 63 + 2 ^ 62) % 2 ^ 63 ≡ a - 2 ^ 62
lower a lo hi =
    elim (lt_or_ge a (2 ^ 63)) [
      | inl k ↦ ap (λ (z : ℕ). (z + 2 ^ 62) % 2 ^ 63) (mod-eq_of_lt k) ∙ omega arith
      | inr k ↦ let e : a % 2 ^ 63 ≡ a - 2 ^ 63 = omega arith in ap (λ (z : ℕ). (z + 2 ^ 62) % 2 ^ 63) e ∙ omega arith
    ]

min_bit : (u v : ℕ) → min (1 - u) v < 2
min_bit u v = omega arith

module _ (x y T f l b G N : ℕ) (hx : x < 2 ^ 64) (hy : y < 2 ^ 64) (h_t : T ≤ 4096) (hf : f < 2 ^ 52) (hl : l < 2 ^ 53) (hb : b < 2) (e_t : T ≡ expo x + expo y + 1 + b) (eg : G / 2 ^ 63 ≡ T / 4096)
    (plus : xor_w (high_of (T % 4096) f) (not_w (shl_w N 1)) ≡ (high_of (T % 4096) f + 1) % 2 ^ 64) where
  abbrev U : ℕ
  U = T % 4096

  abbrev R : ℕ
  R = high_of U f

  abbrev c : ℕ
  c = carry_of b l f

  abbrev d : ℕ
  d = last_of l

  abbrev k : ℕ
  k = both_nonzero x y

  -- the rounded word, with its fraction moved up where b is 0
  abbrev W : ℕ
  W = (R + c) % 2 ^ 64

  abbrev M : ℕ
  M = xor_w W (changed W d % 2 ^ 52 * (1 - b))

  abbrev w : ℕ
  w = after_w x y (low_of l) 1 R G N

  U_lt : U < 4096
  U_lt = mod-lt T (pow_pos 12)

  k_lt : k < 2
  k_lt = min_bit (is_zero (expo x)) (1 - is_zero (expo y))

  c_lt : c < 2
  c_lt =
      let a : first_bit l < 2 = omega arith in
      let A : rest_ones l < 2 = omega arith in
      carry_lt b (rest_ones l) (first_bit l) (second_bit l) (f % 2) hb A a (bit_lt (l / 2 ^ 51)) (bit_lt f)

  by_range : w ≡ signed_w x y (chosen_w M 1 (bits4 (in_of U * k) ((over_of U + T / 4096) % 2 * k) 0 0))
  by_range =
      let P : ℕ = parity_w x y R in
      let h_p : P < 2 ^ 64 = unfold parity_w in shr_lt 64 (xor_w (xor_w x y) R) 52 (xor_lt 64 (xor_w x y) R (xor_lt 64 x y hx hy) (omega (arith, U_lt))) in
      after_is x y U f l b (T / 4096) G N P U_lt hf hl hb (omega arith) eg h_p (parity_is x y T f b hf hb e_t) plus refl

  -- not in range, and whether beyond
  outside : (o : ℕ) → o < 2 → in_of U ≡ 0 → (over_of U + T / 4096) % 2 ≡ o → w ≡ signed (sign_of x y) (k * (o * (2047 * 2 ^ 52)))
  outside o ho ei eo =
      by_range
      ∙ ap₂ (λ (i j : ℕ). signed_w x y (chosen_w M 1 (bits4 (i * k) (j * k) 0 0))) ei eo
      ∙ ap (λ (i : ℕ). signed_w x y (chosen_w M 1 (bits4 i (o * k) 0 0))) (zero-mul k)
      ∙ ap (signed_w x y) (chosen_outside M (o * k) (mul_bit o k ho k_lt) ∙ turned o k (2047 * 2 ^ 52))
      ∙ signed_is x y (k * (o * (2047 * 2 ^ 52))) hx hy small
    where
      turned : (o k m : ℕ) → o * k * m ≡ k * (o * m)
      turned o k m = omega arith

      small : k * (o * (2047 * 2 ^ 52)) < 2 ^ 63
      small = digit (λ k. k * (o * (2047 * 2 ^ 52)) < 2 ^ 63) (omega arith) (omega arith) k k_lt

  -- in range, for the word m with its exponent before 1024 is off
  inside : (m : ℕ) → in_of U ≡ 1 → (over_of U + T / 4096) % 2 ≡ 0 → M ≡ m → 1025 * 2 ^ 52 ≤ m → m < 3072 * 2 ^ 52 → w ≡ signed (sign_of x y) (k * (m - 2 ^ 62))
  inside m ei eo em lo hi =
      by_range
      ∙ ap₂ (λ (i j : ℕ). signed_w x y (chosen_w M 1 (bits4 (i * k) (j * k) 0 0))) ei eo
      ∙ ap₂ (λ (i j : ℕ). signed_w x y (chosen_w M 1 (bits4 i j 0 0))) (one-mul k) (zero-mul k)
      ∙ ap (signed_w x y) (chosen_within M k k_lt ∙ ap (λ (z : ℕ). (z % 2 ^ 63 + 2 ^ 62) % 2 ^ 63 * k) em ∙ ap (λ (z : ℕ). z * k) (lower m lo hi) ∙ mul_comm (m - 2 ^ 62) k)
      ∙ signed_is x y (k * (m - 2 ^ 62)) hx hy small
    where
      small : k * (m - 2 ^ 62) < 2 ^ 63
      small = digit (λ k. k * (m - 2 ^ 62) < 2 ^ 63) (omega arith) (omega arith) k k_lt

  -- T itself where it is below 4096
  module _ (h : T < 4096) where
    U_is : U ≡ T
    U_is = mod-eq_of_lt h

    in_T : in_of U ≡ min (T - 1024) 1 - min (T - 3070) 1
    in_T = in_is U U_lt ∙ ap (λ (z : ℕ). min (z - 1024) 1 - min (z - 3070) 1) U_is

    over_T : (over_of U + T / 4096) % 2 ≡ min (T - 3070) 1
    over_T =
        ap (λ (z : ℕ). (z + T / 4096) % 2) (over_is U U_lt ∙ ap (λ (z : ℕ). min (z - 3070) 1) U_is)
        ∙ ap (λ (z : ℕ). (min (T - 3070) 1 + z) % 2) (div-eq_of_lt h) ∙ even (T - 3070)
      where
        even : (a : ℕ) → (min a 1 + 0) % 2 ≡ min a 1
        even a = omega arith

  -- the rounded word in range
  module _ (lo : 1025 ≤ T) (hi : T ≤ 3070) where
    T_lt : T < 4096
    T_lt = omega arith

    W_is : W ≡ T * 2 ^ 52 + (f + c)
    W_is = ap (λ (z : ℕ). (z * 2 ^ 52 + f + c) % 2 ^ 64) (U_is T_lt) ∙ wide c c_lt
      where
        wide : (e : ℕ) → e < 2 → (T * 2 ^ 52 + f + e) % 2 ^ 64 ≡ T * 2 ^ 52 + (f + e)
        wide e h = omega arith

    in_one : in_of U ≡ 1
    in_one = in_T T_lt ∙ omega arith

    over_zero : (over_of U + T / 4096) % 2 ≡ 0
    over_zero = over_T T_lt ∙ omega arith

  below : T ≤ 1024 → w ≡ signed (sign_of x y) 0
  below h =
      let t : T < 4096 = omega arith in
      outside 0 (omega arith) (in_T t ∙ omega arith) (over_T t ∙ omega arith) ∙ ap (signed (sign_of x y)) (mul-zero k)

  beyond : 3071 ≤ T → w ≡ signed (sign_of x y) (k * (2047 * 2 ^ 52))
  beyond h =
      elim (lt_or_ge T 4096) [
        | inl t ↦ outside 1 (omega arith) (in_T t ∙ omega arith) (over_T t ∙ omega arith)
        | inr t ↦
            let e : T ≡ 4096 = omega arith in
            outside 1 (omega arith) (ap (λ (z : ℕ). in_of (z % 4096)) e ∙ in_is 0 (omega arith))
            (ap (λ (z : ℕ). (over_of (z % 4096) + z / 4096) % 2) e ∙ ap (λ (z : ℕ). (z + 1) % 2) (over_is 0 (omega arith)))
      ]

  within_one : b ≡ 1 → 1025 ≤ T → T ≤ 3070 → w ≡ signed (sign_of x y) (k * ((T - 1024) * 2 ^ 52 + (f + c)))
  within_one e lo hi =
      let z : 1 - b ≡ 0 = omega arith in
      let h = c_lt in
      inside (T * 2 ^ 52 + (f + c)) (in_one lo hi) (over_zero lo hi) (ap (λ (p : ℕ). xor_w W (changed W d % 2 ^ 52 * p)) z ∙ change_none W d ∙ W_is lo hi) (least (f + c)) (most c h)
      ∙ ap (λ (z : ℕ). signed (sign_of x y) (k * z)) (off (f + c))
    where
      least : (s : ℕ) → 1025 * 2 ^ 52 ≤ T * 2 ^ 52 + s
      least s = omega arith

      most : (a : ℕ) → a < 2 → T * 2 ^ 52 + (f + a) < 3072 * 2 ^ 52
      most a h = omega arith

      off : (s : ℕ) → T * 2 ^ 52 + s - 2 ^ 62 ≡ (T - 1024) * 2 ^ 52 + s
      off s = omega arith

  within_zero : b ≡ 0 → 1025 ≤ T → T ≤ 3070 → w ≡ signed (sign_of x y) (k * ((T - 1024 + (f + c) / 2 ^ 52) * 2 ^ 52 + (2 * ((f + c) % 2 ^ 52) + d) % 2 ^ 52))
  within_zero e lo hi =
      let z : 1 - b ≡ 1 = omega arith in
      let s : ℕ = f + c in
      let q : ℕ = s / 2 ^ 52 in
      let F : ℕ = (2 * (s % 2 ^ 52) + d) % 2 ^ 52 in
      let h_f : F < 2 ^ 52 = mod-lt (2 * (s % 2 ^ 52) + d) (pow_pos 52) in
      let m : M ≡ (T + q) * 2 ^ 52 + F =
      ap (λ (p : ℕ). xor_w W (changed W d % 2 ^ 52 * p)) z ∙ change_some W d (bit_lt (first_bit l + second_bit l + rest_ones l * (first_bit l * (1 - second_bit l))))
      ∙ ap (λ (z : ℕ). z / 2 ^ 52 * 2 ^ 52 + (2 * (z % 2 ^ 52) + d) % 2 ^ 52) (W_is lo hi)
      ∙ ap₂ (λ (u v : ℕ). u * 2 ^ 52 + (2 * v + d) % 2 ^ 52) (above s) (under s) in
      inside ((T + q) * 2 ^ 52 + F) (in_one lo hi) (over_zero lo hi) m (least q F) (most q F (carried c c_lt) h_f)
      ∙ ap (λ (z : ℕ). signed (sign_of x y) (k * z)) (off q F)
    where
      above : (s : ℕ) → (T * 2 ^ 52 + s) / 2 ^ 52 ≡ T + s / 2 ^ 52
      above s = omega arith

      under : (s : ℕ) → (T * 2 ^ 52 + s) % 2 ^ 52 ≡ s % 2 ^ 52
      under s = omega arith

      carried : (a : ℕ) → a < 2 → (f + a) / 2 ^ 52 < 2
      carried a h = omega arith

      least : (q F : ℕ) → 1025 * 2 ^ 52 ≤ (T + q) * 2 ^ 52 + F
      least q F = omega arith

      most : (q F : ℕ) → q < 2 → F < 2 ^ 52 → (T + q) * 2 ^ 52 + F < 3072 * 2 ^ 52
      most q F hq h_f = omega arith

      off : (q F : ℕ) → (T + q) * 2 ^ 52 + F - 2 ^ 62 ≡ (T - 1024 + q) * 2 ^ 52 + F
      off q F = omega arith

  ended : Ended x y T f l b w
  ended = record { below = below; beyond = beyond; within_one = within_one; within_zero = within_zero }

-- with the high half's adder before them
pub end_is : (x y S C low l b : ℕ) → x < 2 ^ 64 → y < 2 ^ 64 → S < 2 ^ 64 → C < 2 ^ 64 → b < 2 → (S + C) / 2 ^ 52 ≡ expo x + expo y + 1 + b → l < 2 ^ 53 → low ≡ low_of l
    → Ended x y ((S + C) / 2 ^ 52) ((S + C) % 2 ^ 52) l b (end_w x y S C low 1)
end_is x y S C low l b hx hy hS h_c hb e_t hl el =
    let s : ℕ = S + C in
    let T : ℕ = s / 2 ^ 52 in
    let f : ℕ = s % 2 ^ 52 in
    let h : Words = whole_run S C in
    let v : Runs S C h = whole_run_is S C hS h_c in
    let ha = expo_lt x in
    let hc = expo_lt y in
    let h_t : T ≤ 4096 = most (expo x) (expo y) T b ha hc hb e_t in
    let e_r : add_w S C ≡ high_of (T % 4096) f = add_is S C ∙ mod-pow-add s 12 52 in
    let eg : h.G / 2 ^ 63 ≡ T / 4096 = v.out ∙ sym (shr-shr s 52 12) in
    let plus : xor_w (high_of (T % 4096) f) (not_w (shl_w h.N 1)) ≡ (high_of (T % 4096) f + 1) % 2 ^ 64 =
    ap (λ (z : ℕ). xor_w z (not_w (shl_w h.N 1))) (sym e_r) ∙ v.plus_one ∙ next s ∙ ap (λ (z : ℕ). (z + 1) % 2 ^ 64) (mod-pow-add s 12 52) in
    subst (Ended x y T f l b) (sym (ap₂ (λ (R q : ℕ). after_w x y q 1 R h.G h.N) (v.sum ∙ e_r) el))
    (ended x y T f l b h.G h.N hx hy h_t (mod-lt s (pow_pos 52)) hl hb e_t eg plus)
  where
    most : (E H T b : ℕ) → E < 2048 → H < 2048 → b < 2 → T ≡ E + H + 1 + b → T ≤ 4096
    most E H T b h_e h_h hb e = omega arith

    next : (s : ℕ) → (s + 1) % 2 ^ 64 ≡ (s % 2 ^ 64 + 1) % 2 ^ 64
    next s = omega arith
