-- The sum's plan, z brought to its top bit in six stages: they shift it by the count of its leading zeros, and collect that count less 1.
-- One law over the stage; rests on Leading and Fields.
use mathlib.Core.Path.{◌≡◌, refl, sym, ap, ap₂, ◌∙◌, subst}
use mathlib.Core.Logic.{inl, inr}
use Prim.Native.Nat.{ℕ, zero, suc, ◌+◌, ◌-◌, ◌*◌, ◌/◌, ◌%◌, ◌^◌, ◌≤◌, ◌<◌}
use native.Mathlib.Nat.{mod-eq_of_lt, add-zero, zero-mul, mul-one, div-one, div-div-eq-div-mul, eq-zero-or-pos, pow-suc, mul-le-mul_right}
use native.Mathlib.Omega.{arith}
use lib.Count.{count_leading_zeros, leading_le, leading_of_zero, leading_top}
use lib.Ieee.{size}
use lib.Pow.{pow_pos}
use Rattle.bits.specs.Ops.{xor_w, and_w, not_w, shl_w, shr_w, spread_w}
use Rattle.bits.proofs.Digits.{bit_lt}
use Rattle.bits.proofs.Xor.{xor_zero, xor_zero_l, xor_assoc}
use Rattle.bits.proofs.Shift.{shl_shl, shl_zero}
use Rattle.bits.proofs.Sum.{xor_packed}
use Rattle.bits.proofs.Bound.{shl_lt}
use Rattle.bits.proofs.Places.{shr_is}
use Rattle.binary64.proofs.Cases.{size_is}
use Rattle.binary64.proofs.Encode.{to_top}
use Rattle.plans.proofs.Fields.{spread_run, stage_left}
use Rattle.plans.proofs.Shifts.{not_is, moved}
use Rattle.plans.proofs.Lanes.{is_zero}
use Rattle.plans.proofs.sum.Run.{leading_w, fold_w, left_w, count_w, count_start, Normal, stage, normal_start, normal_w}
use Rattle.plans.proofs.sum.Leading.{Folds, fold_step, fold_start, fold_twice, leading_lt}

-- the bits of a number from k + 1 on, and bit k
from_bit : (n k : ℕ) → n / 2 ^ suc k * 2 ^ suc k + n / 2 ^ k % 2 * 2 ^ k ≡ n / 2 ^ k * 2 ^ k
from_bit n k =
    ap (λ (m : ℕ). n / m * m + n / 2 ^ k % 2 * 2 ^ k) (pow-suc 2 k)
    ∙ ap (λ (q : ℕ). q * (2 ^ k * 2) + n / 2 ^ k % 2 * 2 ^ k) (sym (div-div-eq-div-mul n (2 ^ k) 2))
    ∙ regroup (n / 2 ^ k / 2) (n / 2 ^ k % 2) (2 ^ k) ∙ ap (λ (q : ℕ). q * 2 ^ k) (halves (n / 2 ^ k))
  where
    regroup : (h l p : ℕ) → h * (p * 2) + l * p ≡ (h * 2 + l) * p
    regroup h l p = omega arith

    halves : (q : ℕ) → q / 2 * 2 + q % 2 ≡ q
    halves q = omega arith

-- the lowest bit of x at place k
bit_at : (x k : ℕ) → k ≤ 63 → shr_w (shl_w x 63) (63 - k) ≡ x % 2 * 2 ^ k
bit_at x k l = let e : 63 ≡ 63 - k + k = omega arith in ap (λ (n : ℕ). shr_w (shl_w x n) (63 - k)) e ∙ moved 1 k (63 - k) x (omega arith)

-- bit 63 of NOT w
pub top_not : (w : ℕ) → w < 2 ^ 64 → shr_w (not_w w) 63 ≡ 1 - w / 2 ^ 63
top_not w h = shr_is (not_w w) 63 ∙ ap (λ (x : ℕ). x / 2 ^ 63) (not_is w) ∙ omega arith

-- ---- after the stages down to k, for lz leading zeros of z: the bits of lz, and of lz - 1, from k on are done; c is where the count starts
record Staged (z lz c k : ℕ) (n : Normal) : Type 0 where
  folds : Folds lz (2 ^ k) n.folded
  value : n.value ≡ shl_w z (lz / 2 ^ k * 2 ^ k)
  folds_twice : Folds (lz - 1) (2 ^ k) n.twice
  count : n.count ≡ xor_w c ((lz - 1) / 2 ^ k * 2 ^ k)

-- a word folded once more
module _ (lz k y : ℕ) (f : Folds lz (2 ^ suc k) y) where
  fold_next : Folds lz (2 ^ k) (fold_w (2 ^ k) y)
  fold_next = fold_step lz (2 ^ k) y (pow_pos k) (subst (λ (m : ℕ). Folds lz m y) (pow-suc 2 k) f)

  fold_odd : fold_w (2 ^ k) y % 2 ≡ lz / 2 ^ k % 2
  fold_odd = ap (λ (x : ℕ). x % 2) (sym (div-one (fold_w (2 ^ k) y))) ∙ fold_next 0 (pow_pos k) ∙ ap (λ (x : ℕ). x / 2 ^ k % 2) (add-zero lz)

module _ (z lz c k : ℕ) (n : Normal) (l : k ≤ 63) (s : Staged z lz c (suc k) n) where
  y : ℕ
  y = fold_w (2 ^ k) n.folded

  x : ℕ
  x = fold_w (2 ^ k) n.twice

  value_at : left_w (2 ^ k) y n.value ≡ shl_w z (lz / 2 ^ k * 2 ^ k)
  unfolding left_w y
  value_at =
      let e = s.value in
      let w : ℕ = shl_w z (lz / 2 ^ suc k * 2 ^ suc k) in
      ap (λ (x : ℕ). xor_w x (and_w (xor_w (shl_w x (2 ^ k)) x) (spread_w y))) e ∙ stage_left w (2 ^ k) y (shl_lt z (lz / 2 ^ suc k * 2 ^ suc k))
      ∙ shl_shl z (lz / 2 ^ suc k * 2 ^ suc k) (y % 2 * 2 ^ k)
      ∙ ap (shl_w z) (ap (λ (b : ℕ). lz / 2 ^ suc k * 2 ^ suc k + b * 2 ^ k) (fold_odd lz k n.folded s.folds) ∙ from_bit lz k)

  count_at : count_w k x n.count ≡ xor_w c ((lz - 1) / 2 ^ k * 2 ^ k)
  unfolding count_w x
  count_at =
      let m : ℕ = lz - 1 in
      let b : ℕ = m / 2 ^ k % 2 in
      let small : b * 2 ^ k < 2 ^ suc k = subst (λ (p : ℕ). b * 2 ^ k < p) (sym (pow-suc 2 k)) (omega (arith, mul-le-mul_right (2 ^ k) (bit_lt (m / 2 ^ k)), pow_pos k)) in
      ap₂ xor_w s.count (bit_at x k l ∙ ap (λ (v : ℕ). v * 2 ^ k) (fold_odd m k n.twice s.folds_twice))
      ∙ xor_assoc c (m / 2 ^ suc k * 2 ^ suc k) (b * 2 ^ k)
      ∙ ap (xor_w c) (xor_packed (m / 2 ^ suc k) (suc k) (b * 2 ^ k) small ∙ from_bit m k)

  stage_is : Staged z lz c k (stage k n)
  unfolding y x
  stage_is =
      record {
        folds = fold_next lz k n.folded s.folds;
        value = value_at;
        folds_twice = fold_next (lz - 1) k n.twice s.folds_twice;
        count = count_at;
      }

-- ---- the six of them
-- only 0 has 64 leading zeros
pub leading_some : (z : ℕ) → z < 2 ^ 64 → 0 < z → count_leading_zeros 64 z < 64
leading_some z h p = let t = leading_top 64 z p h in omega (arith, t.1)

-- the count is what the length in bits leaves of 64
leading_size : (z : ℕ) → z < 2 ^ 64 → count_leading_zeros 64 z ≡ 64 - size z
leading_size zero h = leading_of_zero 64 ∙ (unfold size in refl)
leading_size (suc z) h = let t = leading_top 64 (suc z) (omega arith) h in left (count_leading_zeros 64 (suc z)) (suc t.0) t.1 ∙ ap (λ (x : ℕ). 64 - x) (sym (size_is (suc z) t.0 t.2 t.3))
  where
    left : (a b : ℕ) → a + b ≡ 64 → a ≡ 64 - b
    left a b e = omega arith

zero_shl : (k : ℕ) → shl_w 0 k ≡ 0
unfolding shl_w
zero_shl k = ap (λ (x : ℕ). x % 2 ^ 64) (zero-mul (2 ^ k))

module _ (z : ℕ) (h : z < 2 ^ 64) where
  abbrev L : ℕ
  L = count_leading_zeros 64 z

  abbrev c : ℕ
  c = count_start (leading_w z)

  start_value : z ≡ shl_w z (L / 64 * 64)
  start_value =
      elim (eq-zero-or-pos z) [
        | inl e ↦ e ∙ sym (ap (λ (x : ℕ). shl_w x (L / 64 * 64)) e ∙ zero_shl (L / 64 * 64))
        | inr p ↦ sym (ap (shl_w z) (none L (leading_some z h p)) ∙ shl_zero z h)
      ]
    where
      none : (n : ℕ) → n < 64 → n / 64 * 64 ≡ 0
      none n l = omega arith

  start_count : c ≡ xor_w c ((L - 1) / 64 * 64)
  start_count = sym (ap (xor_w c) (none L (leading_le 64 z)) ∙ xor_zero c)
    where
      none : (n : ℕ) → n ≤ 64 → (n - 1) / 64 * 64 ≡ 0
      none n l = omega arith

  start : Staged z L c 6 (normal_start z)
  start =
      record {
        folds = subst (Folds L 64) (sym (shl_zero (leading_w z) (leading_lt z))) (fold_start z h);
        value = start_value;
        folds_twice = fold_twice z h;
        count = start_count;
      }

  staged : Staged z L c 0 (normal_w z)
  unfolding normal_w
  staged =
      let n₆ : Normal = normal_start z in
      let n₅ : Normal = stage 5 n₆ in
      let n₄ : Normal = stage 4 n₅ in
      let n₃ : Normal = stage 3 n₄ in
      let n₂ : Normal = stage 2 n₃ in
      let n₁ : Normal = stage 1 n₂ in
      stage_is z L c 0 n₁ (omega arith)
      (stage_is z L c 1 n₂ (omega arith)
      (stage_is z L c 2 n₃ (omega arith) (stage_is z L c 3 n₄ (omega arith) (stage_is z L c 4 n₅ (omega arith) (stage_is z L c 5 n₆ (omega arith) start)))))

  -- the stages are the shift by the count of leading zeros
  pub normal_shift : (normal_w z).value ≡ shl_w z (count_leading_zeros 64 z)
  normal_shift = staged.value ∙ ap (shl_w z) (mul-one (L / 1) ∙ div-one L)

  normal_count : (normal_w z).count ≡ xor_w (count_start (leading_w z)) (count_leading_zeros 64 z - 1)
  normal_count = staged.count ∙ ap (xor_w c) (mul-one ((L - 1) / 1) ∙ div-one (L - 1))

  pub leading_odd : leading_w z % 2 ≡ count_leading_zeros 64 z / 64
  leading_odd = ap (λ (x : ℕ). x % 2) (sym (div-one (leading_w z))) ∙ fold_start z h 0 (omega arith) ∙ once L (leading_le 64 z)
    where
      once : (n : ℕ) → n ≤ 64 → (n + 0) / 64 % 2 ≡ n / 64
      once n l = omega arith

  -- whether there is a leading zero at all
  pub leading_first : leading_w z / 2 ^ 63 ≡ 1 - is_zero (count_leading_zeros 64 z)
  leading_first = let t = leading_lt z in top (leading_w z) t ∙ fold_start z h 63 (omega arith) ∙ once L (leading_le 64 z)
    where
      top : (w : ℕ) → w < 2 ^ 64 → w / 2 ^ 63 ≡ w / 2 ^ 63 % 2
      top w l = omega arith

      once : (n : ℕ) → n ≤ 64 → (n + 63) / 64 % 2 ≡ 1 - is_zero n
      once zero l = refl
      once (suc n) l = let q : (suc n + 63) / 64 ≡ 1 = omega arith in ap (λ (x : ℕ). x % 2) q ∙ omega arith

  -- and a second one
  pub leading_second : leading_w z / 2 ^ 62 % 2 ≡ 1 - is_zero (count_leading_zeros 64 z - 1)
  leading_second = fold_start z h 62 (omega arith) ∙ once L (leading_le 64 z)
    where
      once : (n : ℕ) → n ≤ 64 → (n + 62) / 64 % 2 ≡ 1 - is_zero (n - 1)
      once zero l = refl
      once (suc zero) l = refl
      once (suc (suc n)) l = let q : (suc (suc n) + 62) / 64 ≡ 1 = omega arith in ap (λ (x : ℕ). x % 2) q ∙ omega arith

  start_is : c ≡ xor_w (L / 64 * 2 ^ 11) (is_zero L * (2 ^ 16 - 1))
  unfolding count_start
  start_is =
      let th : ℕ = leading_w z in
      let n : shr_w (not_w th) 63 % 2 ≡ is_zero L = ap (λ (x : ℕ). x % 2) (top_not th (leading_lt z) ∙ ap (λ (x : ℕ). 1 - x) leading_first) ∙ twice L in
      ap₂ xor_w (moved 1 11 52 th refl ∙ ap (λ (x : ℕ). x * 2 ^ 11) leading_odd) (spread_run (shr_w (not_w th) 63) 48 16 refl ∙ ap (λ (x : ℕ). x * (2 ^ 16 - 1)) n)
    where
      twice : (n : ℕ) → (1 - (1 - is_zero n)) % 2 ≡ is_zero n
      twice n = omega arith

  -- the count less 1, 2^16 - 1 for none
  pub normal_none : count_leading_zeros 64 z ≡ 0 → (normal_w z).count ≡ 2 ^ 16 - 1
  normal_none e =
      let k : xor_w (xor_w (0 / 64 * 2 ^ 11) (is_zero 0 * (2 ^ 16 - 1))) (0 - 1) ≡ 2 ^ 16 - 1 = unfold xor_w in refl in
      normal_count ∙ ap (λ (x : ℕ). xor_w x (L - 1)) start_is ∙ ap (λ (n : ℕ). xor_w (xor_w (n / 64 * 2 ^ 11) (is_zero n * (2 ^ 16 - 1))) (n - 1)) e ∙ k

  pub normal_places : 0 < count_leading_zeros 64 z → count_leading_zeros 64 z < 64 → (normal_w z).count ≡ count_leading_zeros 64 z - 1
  normal_places p l =
      let a : L / 64 * 2 ^ 11 ≡ 0 = omega arith in
      let b : is_zero L * (2 ^ 16 - 1) ≡ 0 = omega arith in
      normal_count ∙ ap (λ (x : ℕ). xor_w x (L - 1)) (start_is ∙ ap₂ xor_w a b ∙ xor_zero 0) ∙ xor_zero_l (L - 1)

  pub normal_value : 0 < z → (normal_w z).value ≡ z * 2 ^ count_leading_zeros 64 z
  unfolding shl_w
  normal_value p = normal_shift ∙ mod-eq_of_lt (to_top z p h).1

  -- the same by z's length in bits
  pub normal_size : 0 < z → (normal_w z).value ≡ z * 2 ^ (64 - size z)
  normal_size p = normal_value p ∙ ap (λ (n : ℕ). z * 2 ^ n) (leading_size z h)

-- for 0
pub normal_zero : (normal_w 0).count ≡ 2 ^ 11 + 63
normal_zero =
    let h : 0 < 2 ^ 64 = pow_pos 64 in
    let k : xor_w (xor_w (64 / 64 * 2 ^ 11) (is_zero 64 * (2 ^ 16 - 1))) (64 - 1) ≡ 2 ^ 11 + 63 = unfold xor_w in refl in
    normal_count 0 h ∙ ap (λ (x : ℕ). xor_w x (count_leading_zeros 64 0 - 1)) (start_is 0 h) ∙ ap (λ (n : ℕ). xor_w (xor_w (n / 64 * 2 ^ 11) (is_zero n * (2 ^ 16 - 1))) (n - 1)) (leading_of_zero 64) ∙ k
