-- A run of ones and an OR, found by six ANDs: what the stages of specs/RunOfOnes' `run_stage` leave in numbers. In each stage N takes N shifted left by k, by OR,
-- and the k low places, which have nothing to take, fold the OR of F from 2k places to k. Shifted by 32, 16, .., 1, N has ones from its lowest one on: the XOR
-- that adds 1 to y, for N = NOT y (`raise`). F's bit 0 is the OR of all its bits (`any`).
-- Rests on the laws of words by places (crate bits).
use mathlib.Core.Path.{◌≡◌, refl, sym, ap, ap₂, ◌∙◌}
use mathlib.Core.Logic.{inl, inr}
use Prim.Native.Nat.{ℕ, zero, suc, ◌+◌, ◌-◌, ◌*◌, ◌/◌, ◌%◌, ◌^◌, ◌≤◌, ◌<◌, min, max}
use native.Mathlib.Nat.{add-mul, mul_assoc, two-mul, div-add-mod', mod-lt, pow-suc, le-suc, eq-zero-or-pos}
use native.Mathlib.Numerals.{one-add}
use native.Mathlib.Omega.{arith}
use lib.Bits.{differ}
use lib.Pow.{pow_pos, shr-shr}
use Rattle.bits.specs.Ops.{xor_w, and_w, not_w, shl_w, shr_w}
use Rattle.bits.proofs.Digits.{digit, digits2, differ_zero, or_digit, bit_lt, bit}
use Rattle.bits.proofs.Bound.{xor_lt, and_lt, shr_lt, not_lt, shl_lt}
use Rattle.bits.proofs.Places.{bit_above, bit_mod, bit_mod_above, bit_xor, bit_and, bit_shl, bit_shl_low, bit_not, bit_zero, and_low, ones_by_bits, lowest}
use Rattle.bits.proofs.Sum.{xor_and_sum}
use Rattle.binary64.proofs.Cases.{lt_or_ge}
use Rattle.plans.proofs.Fields.{field, low_in, low_out}
use Rattle.plans.proofs.Shifts.{not_is}

-- the k low places
abbrev pub low_places : ℕ → ℕ → ℕ
low_places k w = shr_w (shl_w w (64 - k)) (64 - k)

-- the one AND of a stage: NOT N with N shifted, and in the k low places NOT F with F's next k places
unfoldable pub stage_and : ℕ → ℕ → ℕ → ℕ
stage_and k N F = and_w (not_w (xor_w N (low_places k (xor_w N F)))) (xor_w (shl_w N k) (shr_w (shl_w F (64 - 2 * k)) (64 - k)))

unfoldable pub next_f : ℕ → ℕ → ℕ → ℕ
next_f k N F = xor_w F (low_places k (stage_and k N F))

unfoldable pub next_n : ℕ → ℕ → ℕ → ℕ
next_n k N F = xor_w N (xor_w (stage_and k N F) (low_places k (stage_and k N F)))

-- the six stages, for any rest of the calculation
abbrev pub staged : (ℕ → ℕ → ℕ) → ℕ → ℕ → ℕ
staged rest N F =
    let N₁ : ℕ = next_n 32 N F in
    let F₁ : ℕ = next_f 32 N F in
    let N₂ : ℕ = next_n 16 N₁ F₁ in
    let F₂ : ℕ = next_f 16 N₁ F₁ in
    let N₃ : ℕ = next_n 8 N₂ F₂ in
    let F₃ : ℕ = next_f 8 N₂ F₂ in
    let N₄ : ℕ = next_n 4 N₃ F₃ in
    let F₄ : ℕ = next_f 4 N₃ F₃ in
    let N₅ : ℕ = next_n 2 N₄ F₄ in
    let F₅ : ℕ = next_f 2 N₄ F₄ in
    rest (next_n 1 N₅ F₅) (next_f 1 N₅ F₅)

unfoldable pub run_of : ℕ → ℕ → ℕ
run_of N F = staged (λ n f. n) N F

unfoldable pub or_of : ℕ → ℕ → ℕ
or_of N F = staged (λ n f. f) N F

-- ---- a stage by places
module _ (k N F : ℕ) (l : k + k ≤ 64) (h_n : N < 2 ^ 64) (h_f : F < 2 ^ 64) where
  low_lt : (w : ℕ) → low_places k w < 2 ^ 64
  low_lt w = shr_lt 64 (shl_w w (64 - k)) (64 - k) (shl_lt w (64 - k))

  stage_and_lt : stage_and k N F < 2 ^ 64
  unfolding stage_and
  stage_and_lt = and_lt 64 (not_w (xor_w N (low_places k (xor_w N F)))) _ (not_lt (xor_w N (low_places k (xor_w N F))))

  next_n_lt : next_n k N F < 2 ^ 64
  unfolding next_n
  next_n_lt = let R = stage_and k N F in xor_lt 64 N (xor_w R (low_places k R)) h_n (xor_lt 64 R (low_places k R) stage_and_lt (low_lt R))

  next_f_lt : next_f k N F < 2 ^ 64
  unfolding next_f
  next_f_lt = xor_lt 64 F (low_places k (stage_and k N F)) h_f (low_lt (stage_and k N F))

  stage_and_bit : (i : ℕ) → i < 64
      → bit (stage_and k N F) i ≡ min (1 - differ (bit N i) (bit (low_places k (xor_w N F)) i)) (differ (bit (shl_w N k) i) (bit (F / 2 ^ k % 2 ^ k) i))
  unfolding stage_and
  stage_and_bit i h =
      let low = low_places k (xor_w N F) in
      let above = shr_w (shl_w F (64 - 2 * k)) (64 - k) in
      let e : above ≡ F / 2 ^ k % 2 ^ k = ap (shr_w (shl_w F (64 - 2 * k))) (omega arith) ∙ field F (64 - 2 * k) k k (omega arith) in
      bit_and (not_w (xor_w N low)) (xor_w (shl_w N k) above) i
      ∙ ap₂ min (bit_not (xor_w N low) i (xor_lt 64 N low h_n (low_lt (xor_w N F))) h ∙ ap (λ (x : ℕ). 1 - x) (bit_xor N low i))
      (bit_xor (shl_w N k) above i ∙ ap (λ (x : ℕ). differ (bit (shl_w N k) i) (bit x i)) e)

  stage_and_low : (i : ℕ) → i < k → bit (stage_and k N F) i ≡ min (1 - bit F i) (bit F (k + i))
  stage_and_low i h =
      stage_and_bit i (omega arith)
      ∙ ap₂ (λ (x y : ℕ). min (1 - x) y)
      (ap (differ (bit N i)) (low_in k (xor_w N F) i (omega arith) h ∙ bit_xor N F i)
      ∙ digits2 (λ x y. differ x (differ x y)) (λ x y. y) refl refl refl refl (N / 2 ^ i) (F / 2 ^ i))
      (ap₂ differ (bit_shl_low N k i h) (bit_mod (F / 2 ^ k) k i h ∙ ap (λ (x : ℕ). x % 2) (shr-shr F k i)))

  stage_and_high : (i : ℕ) → k ≤ i → i < 64 → bit (stage_and k N F) i ≡ min (1 - bit N i) (bit (shl_w N k) i)
  stage_and_high i h w =
      stage_and_bit i w
      ∙ ap₂ (λ (x y : ℕ). min (1 - x) y) (ap (differ (bit N i)) (low_out k (xor_w N F) i (omega arith) h) ∙ differ_zero (bit N i))
      (ap (differ (bit (shl_w N k) i)) (bit_mod_above (F / 2 ^ k) k i h) ∙ differ_zero (bit (shl_w N k) i))

  next_f_low : (i : ℕ) → i < k → bit (next_f k N F) i ≡ max (bit F i) (bit F (k + i))
  unfolding next_f
  next_f_low i h =
      bit_xor F (low_places k (stage_and k N F)) i ∙ ap (differ (bit F i)) (low_in k (stage_and k N F) i (omega arith) h ∙ stage_and_low i h)
      ∙ or_digit (F / 2 ^ i) (F / 2 ^ (k + i))

  next_n_or : (i : ℕ) → i < 64 → bit (next_n k N F) i ≡ max (bit N i) (bit (shl_w N k) i)
  unfolding next_n
  next_n_or i w =
      let R = stage_and k N F in
      bit_xor N (xor_w R (low_places k R)) i ∙ ap (differ (bit N i)) (bit_xor R (low_places k R) i)
      ∙ elim (lt_or_ge i k) [
        | inl g ↦
            ap (λ (x : ℕ). differ (bit N i) (differ (bit R i) x)) (low_in k R i (omega arith) g)
            ∙ digits2 (λ x y. differ x (differ y y)) (λ x y. max x 0) refl refl refl refl (N / 2 ^ i) (R / 2 ^ i) ∙ ap (max (bit N i)) (sym (bit_shl_low N k i g))
        | inr g ↦
            ap (differ (bit N i)) (ap₂ differ (stage_and_high i g w) (low_out k R i (omega arith) g) ∙ differ_zero _) ∙ or_digit (N / 2 ^ i) (shl_w N k / 2 ^ i)
      ]

-- ---- what every stage carries over holds after all six
abbrev Carries : (ℕ → ℕ → ℕ → Type 0) → Type 0
Carries P = (k N F : ℕ) → k + k ≤ 64 → N < 2 ^ 64 → F < 2 ^ 64 → P (k + k) N F → P k (next_n k N F) (next_f k N F)

record Reached (P : ℕ → ℕ → ℕ → Type 0) (k N F : ℕ) : Type 0 where
  n_lt : N < 2 ^ 64
  f_lt : F < 2 ^ 64
  holds : P k N F

module _ (P : ℕ → ℕ → ℕ → Type 0) (c : Carries P) where
  stage : {N F : ℕ} (k : ℕ) → k + k ≤ 64 → Reached P (k + k) N F → Reached P k (next_n k N F) (next_f k N F)
  stage {N} {F} k l r =
      record { n_lt = next_n_lt k N F l r.n_lt r.f_lt; f_lt = next_f_lt k N F l r.n_lt r.f_lt; holds = c k N F l r.n_lt r.f_lt r.holds }

  six : (N F : ℕ) → N < 2 ^ 64 → F < 2 ^ 64 → P 64 N F → P 1 (run_of N F) (or_of N F)
  unfolding run_of or_of
  six N F h_n h_f p =
      let s : Reached P 64 N F = record { n_lt = h_n; f_lt = h_f; holds = p } in
      (stage 1 (omega arith) (stage 2 (omega arith) (stage 4 (omega arith) (stage 8 (omega arith) (stage 16 (omega arith) (stage 32 (omega arith) s)))))).holds

-- ---- N: zeros below m stay, and where every (2k)th place from m on is 1, every kth is after the stage
abbrev Run : ℕ → ℕ → ℕ → ℕ → Type 0
Run m k N F = ((i : ℕ) → i < m → bit N i ≡ 0) × ((a : ℕ) → m + a * k < 64 → bit N (m + a * k) ≡ 1)

run_carries : (m : ℕ) → m < 64 → Carries (Run m)
run_carries m hm k N F l h_n h_f (zs, os) = (λ i h. next_n_or k N F l h_n h_f i (omega arith) ∙ ap₂ max (zs i h) (shifted i h), ones)
  where
    shifted : (i : ℕ) → i < m → bit (shl_w N k) i ≡ 0
    shifted i h =
        elim (lt_or_ge i k) [
          | inl g ↦ bit_shl_low N k i g
          | inr g ↦ let e : k + (i - k) ≡ i = omega arith in ap (bit (shl_w N k)) (sym e) ∙ bit_shl N k (i - k) (omega arith) ∙ zs (i - k) (omega arith)
        ]

    -- a one stays, and moves
    kept : (i : ℕ) → i < 64 → bit N i ≡ 1 → bit (next_n k N F) i ≡ 1
    kept i h e = next_n_or k N F l h_n h_f i h ∙ omega arith

    moved : (i : ℕ) → k + i < 64 → bit N i ≡ 1 → bit (next_n k N F) (k + i) ≡ 1
    moved i h e = next_n_or k N F l h_n h_f (k + i) h ∙ omega (arith, bit_shl N k i h)

    times : (a : ℕ) → a * k ≡ a / 2 * (k + k) + a % 2 * k
    times a =
        ap (λ (x : ℕ). x * k) (sym (div-add-mod' a 2)) ∙ add-mul (a / 2 * 2) (a % 2) k
        ∙ ap (λ (x : ℕ). x + a % 2 * k) (mul_assoc (a / 2) 2 k ∙ ap (λ (x : ℕ). a / 2 * x) (two-mul k))

    ones : (a : ℕ) → m + a * k < 64 → bit (next_n k N F) (m + a * k) ≡ 1
    ones a h =
        let p : ℕ = m + a / 2 * (k + k) in
        digit (λ b. a * k ≡ a / 2 * (k + k) + b * k → bit (next_n k N F) (m + a * k) ≡ 1)
        (λ e. let q : m + a * k ≡ p = omega arith in ap (bit (next_n k N F)) q ∙ kept p (omega arith) (os (a / 2) (omega arith)))
        (λ e. let q : m + a * k ≡ k + p = omega arith in ap (bit (next_n k N F)) q ∙ moved p (omega arith) (os (a / 2) (omega arith)))
        (a % 2) (bit_lt a) (times a)

-- ---- a run N: zeros below m, ones from there on. NOT (N << 1) has ones up to m
pub run_mask : (N m : ℕ) → m < 64 → ((i : ℕ) → i < m → bit N i ≡ 0) → ((i : ℕ) → m ≤ i → i < 64 → bit N i ≡ 1) → not_w (shl_w N 1) ≡ 2 ^ suc m - 1
run_mask N m hm zeros ones = ones_by_bits 64 (suc m) (not_w (shl_w N 1)) hm (not_lt (shl_w N 1)) below above
  where
    shifted : (i : ℕ) → suc i < 64 → bit (not_w (shl_w N 1)) (suc i) ≡ 1 - bit N i
    shifted i h = bit_not (shl_w N 1) (suc i) (shl_lt N 1) h ∙ ap (λ (x : ℕ). 1 - x) (ap (bit (shl_w N 1)) (sym (one-add i)) ∙ bit_shl N 1 i (omega arith))

    below : (i : ℕ) → i < suc m → bit (not_w (shl_w N 1)) i ≡ 1
    below zero h = bit_not (shl_w N 1) 0 (shl_lt N 1) (omega arith) ∙ ap (λ (x : ℕ). 1 - x) (bit_shl_low N 1 0 (omega arith))
    below (suc i) h = shifted i (omega arith) ∙ ap (λ (x : ℕ). 1 - x) (zeros i (omega arith))

    above : (i : ℕ) → suc m ≤ i → i < 64 → bit (not_w (shl_w N 1)) i ≡ 0
    above zero g h = absurd (omega arith)
    above (suc i) g h = shifted i h ∙ ap (λ (x : ℕ). 1 - x) (ones i (omega arith) (omega arith))

-- a word whose lowest zero is at m ends in 2^m - 1
pub lowest_zero : (y m : ℕ) → y < 2 ^ 64 → m < 64 → bit (not_w y) m ≡ 1 → ((i : ℕ) → i < m → bit (not_w y) i ≡ 0) → y % 2 ^ suc m ≡ 2 ^ m - 1
lowest_zero y m hy hm one none =
    ones_by_bits (suc m) m (y % 2 ^ suc m) (le-suc m) (mod-lt y (pow_pos (suc m)))
    (λ i h. bit_mod y (suc m) i (omega arith) ∙ omega (arith, bit_not y i hy (omega arith), none i h))
    (λ i g h. bit_mod y (suc m) i h ∙ (let e : bit (not_w y) i ≡ 1 = ap (bit (not_w y)) (omega arith) ∙ one in omega (arith, bit_not y i hy (omega arith))))

-- and the XOR with ones up to m adds 1 to it
pub next_by_mask : (y m : ℕ) → y % 2 ^ suc m ≡ 2 ^ m - 1 → xor_w y (2 ^ suc m - 1) ≡ y + 1
next_by_mask y m e =
    let s : xor_w y (2 ^ suc m - 1) + and_w y (2 ^ suc m - 1) * 2 ≡ y + (2 ^ suc m - 1) = xor_and_sum y (2 ^ suc m - 1) in
    let a : and_w y (2 ^ suc m - 1) ≡ 2 ^ m - 1 = and_low y (suc m) ∙ e in
    let p : 2 ^ suc m ≡ 2 ^ m * 2 = pow-suc 2 m in
    let q : 0 < 2 ^ m = pow_pos m in
    omega arith

-- ---- y + 1, for y with its lowest zero at m
module _ (y F m : ℕ) (hy : y < 2 ^ 64) (h_f : F < 2 ^ 64) (hm : m < 64) (one : bit (not_w y) m ≡ 1) (none : (i : ℕ) → i < m → bit (not_w y) i ≡ 0) where
  filled : Run m 1 (run_of (not_w y) F) (or_of (not_w y) F)
  filled =
      six (Run m) (run_carries m hm) (not_w y) F (not_lt y) h_f
      (none, λ a h. let e : m + a * 64 ≡ m = omega arith in ap (bit (not_w y)) e ∙ one)

  raised : xor_w y (not_w (shl_w (run_of (not_w y) F) 1)) ≡ y + 1
  raised =
      let R : ℕ = run_of (not_w y) F in
      ap (xor_w y)
      (run_mask R m hm filled.0 (λ i g h. let e : m + (i - m) * 1 ≡ i = omega arith in ap (bit R) (sym e) ∙ filled.1 (i - m) (omega arith)))
      ∙ next_by_mask y m (lowest_zero y m hy hm one none)

pub raise : (y F : ℕ) → y < 2 ^ 64 - 1 → F < 2 ^ 64 → xor_w y (not_w (shl_w (run_of (not_w y) F) 1)) ≡ y + 1
raise y F hy h_f =
    let low = lowest 64 (not_w y) (omega (arith, not_is y)) (not_lt y) in
    raised y F low.0 (omega arith) h_f low.1 low.2.0 low.2.1

-- ---- F: whether one of its k low places is 1
abbrev None : ℕ → ℕ → ℕ → Type 0
None k N F = (i : ℕ) → i < k → bit F i ≡ 0

none_carries : Carries None
none_carries k N F l h_n h_f z i h = next_f_low k N F l h_n h_f i h ∙ ap₂ max (z i (omega arith)) (z (k + i) (omega arith))

abbrev Some : ℕ → ℕ → ℕ → Type 0
Some k N F = (i : ℕ) × (i < k) × (bit F i ≡ 1)

some_carries : Carries Some
some_carries k N F l h_n h_f (i, h, e) =
    elim (lt_or_ge i k) [
      | inl g ↦ (i, g, next_f_low k N F l h_n h_f i g ∙ omega arith)
      | inr g ↦
          let s : i - k < k = omega arith in
          let t : bit F (k + (i - k)) ≡ 1 = ap (bit F) (omega arith) ∙ e in
          (i - k, s, next_f_low k N F l h_n h_f (i - k) s ∙ omega arith)
    ]

pub any : (N F : ℕ) → N < 2 ^ 64 → F < 2 ^ 64 → or_of N F % 2 ≡ min F 1
any N F h_n h_f =
    sym (bit_zero (or_of N F))
    ∙ elim (eq-zero-or-pos F) [
      | inl e ↦ six None none_carries N F h_n h_f (λ i h. bit_above F 0 i (omega arith) (omega arith)) 0 (omega arith) ∙ omega arith
      | inr p ↦
          let low = lowest 64 F p h_f in
          let s : Some 1 (run_of N F) (or_of N F) = six Some some_carries N F h_n h_f (low.0, low.1, low.2.0) in
          let z : s.0 ≡ 0 = omega (arith, s.1) in
          ap (bit (or_of N F)) (sym z) ∙ s.2 ∙ omega arith
    ]

-- it stays a word
pub or_lt : (N F : ℕ) → N < 2 ^ 64 → F < 2 ^ 64 → or_of N F < 2 ^ 64
or_lt N F h_n h_f = six (λ k N F. F < 2 ^ 64) (λ k N F l h_n h_f h. next_f_lt k N F l h_n h_f) N F h_n h_f h_f
