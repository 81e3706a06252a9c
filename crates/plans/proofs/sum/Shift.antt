-- The sum's plan, the smaller significand q · 2^9 shifted right by d mod 64: the quotient, and the bits lost that count.
-- The first shifts are by 7 places at most and lose nothing; of the later ones Lost tells what they drop. Rests on Lost and Fields.
use mathlib.Core.Path.{◌≡◌, refl, sym, ap, ap₂, ◌∙◌}
use Prim.Native.Nat.{ℕ, zero, suc, ◌+◌, ◌-◌, ◌*◌, ◌/◌, ◌%◌, ◌^◌, ◌<◌}
use native.Mathlib.Nat.{add_comm, add-zero, zero-mul, one-mul, mul_assoc, mul-mod_left, mul-pos, lt_of_le_of_lt}
use native.Mathlib.Omega.{arith}
use lib.Pow as Pow
use lib.Pow.{pow_pos, pow-add, shr_le, shr-shr, mod-pow-add}
use Rattle.bits.specs.Ops.{xor_w, shl_w, shr_w}
use Rattle.bits.proofs.Digits.{digit, bit_lt}
use Rattle.bits.proofs.Places.{shr_is}
use Rattle.binary64.specs.Number.{frac}
use Rattle.plans.proofs.Fields.{pack, stage_right}
use Rattle.plans.proofs.Shifts.{moved}
use Rattle.plans.proofs.Lanes.{is_zero}
use Rattle.plans.proofs.sum.Run.{significand10, significand9, changed_w, right_w, large_w, lost_w}
use Rattle.plans.proofs.sum.Lost.{dropped, lost_parts}

-- ---- significands
significand_is : (a k r : ℕ) → r + k ≡ 12 → k < 12 → xor_w (shr_w (shl_w a (r + k)) r) (shl_w 1 (52 + k)) ≡ (2 ^ 52 + frac a) * 2 ^ k
significand_is a k r e l =
    ap (λ (u : ℕ). xor_w u (shl_w 1 (52 + k))) (moved 52 k r a (omega arith))
    ∙ pack 1 (52 + k) (frac a * 2 ^ k) 1 (Pow.shl_lt 52 k (omega arith)) (omega arith) (omega arith)
    ∙ ap (λ (u : ℕ). 1 * u + frac a * 2 ^ k) (pow-add 2 52 k) ∙ sum (2 ^ 52) (frac a) (2 ^ k)
  where
    sum : (p q r : ℕ) → 1 * (p * r) + q * r ≡ (p + q) * r
    sum p q r = omega arith

pub significand10_is : (a : ℕ) → significand10 a ≡ (2 ^ 52 + frac a) * 2 ^ 10
unfolding significand10
significand10_is a = significand_is a 10 2 refl (omega arith)

pub significand9_is : (b : ℕ) → significand9 b ≡ (2 ^ 52 + frac b) * 2 ^ 9
unfolding significand9
significand9_is b = significand_is b 9 3 refl (omega arith)

-- ---- one shift, after k places, by s more where c is odd
right_is : (W k s c : ℕ) → W < 2 ^ 64 → right_w s c (W / 2 ^ k) ≡ W / 2 ^ (k + c % 2 * s)
unfolding right_w changed_w
right_is W k s c h = stage_right (W / 2 ^ k) s c (lt_of_le_of_lt (shr_le W k) h) ∙ shr-shr W k (c % 2 * s)

rest_is : (W k s c : ℕ) → W % 2 ^ (k + c % 2 * s) ≡ c % 2 * (W / 2 ^ k % 2 ^ s) * 2 ^ k + W % 2 ^ k
rest_is W k s c =
    digit (λ b. W % 2 ^ (k + b * s) ≡ b * (W / 2 ^ k % 2 ^ s) * 2 ^ k + W % 2 ^ k)
    (ap (λ (u : ℕ). W % 2 ^ (k + u)) (zero-mul s) ∙ ap (λ (u : ℕ). W % 2 ^ u) (add-zero k) ∙ none (W / 2 ^ k % 2 ^ s) (2 ^ k) (W % 2 ^ k))
    (ap (λ (u : ℕ). W % 2 ^ (k + u)) (one-mul s) ∙ ap (λ (u : ℕ). W % 2 ^ u) (add_comm k s) ∙ mod-pow-add W s k ∙ ap (λ (u : ℕ). u * 2 ^ k + W % 2 ^ k) (sym (one-mul (W / 2 ^ k % 2 ^ s))))
    (c % 2) (bit_lt c)
  where
    none : (v p r : ℕ) → r ≡ 0 * v * p + r
    none v p r = omega arith

-- the shifts by the bits 1 and 2 of d
abbrev pub stages_w : ℕ → ℕ → ℕ
stages_w d w = right_w 4 (shr_w d 2) (right_w 2 (shr_w d 1) w)

-- ---- the bits of d below 64
bits64 : (d : ℕ) → d % 2 + d / 2 % 2 * 2 + d / 4 % 2 * 4 + d / 8 % 2 * 8 + d / 16 % 2 * 16 + d / 32 % 2 * 32 ≡ d % 64
bits64 d =
    gather (d % 2) (d / 2 % 2) (d / 4 % 2) (d / 8 % 2) (d / 16 % 2) (d / 32 % 2) (d % 4) (d % 8) (d % 16) (d % 32) (d % 64)
    (mod-pow-add d 1 1) (mod-pow-add d 1 2) (mod-pow-add d 1 3) (mod-pow-add d 1 4) (mod-pow-add d 1 5)
  where
    gather : (a b c e f g m₂ m₃ m₄ m₅ m₆ : ℕ) → m₂ ≡ b * 2 + a → m₃ ≡ c * 4 + m₂ → m₄ ≡ e * 8 + m₃ → m₅ ≡ f * 16 + m₄ → m₆ ≡ g * 32 + m₅
        → a + b * 2 + c * 4 + e * 8 + f * 16 + g * 32 ≡ m₆
    gather a b c e f g m₂ m₃ m₄ m₅ m₆ h₂ h₃ h₄ h₅ h₆ = omega arith

-- ---- W = q · 2^9, shifted by the bits of d
module _ (d q : ℕ) (hq : q < 2 ^ 53) where
  abbrev W : ℕ
  W = q * 2 ^ 9

  h : W < 2 ^ 64
  h = omega arith

  at : (i : ℕ) → shr_w d i % 2 ≡ d / 2 ^ i % 2
  at i = ap (λ (u : ℕ). u % 2) (shr_is d i)

  -- the places after the bits 0, 1 and 2 of d, and after each of the others
  abbrev k₃ : ℕ
  k₃ = d % 2 + shr_w d 1 % 2 * 2 + shr_w d 2 % 2 * 4

  k₄ : ℕ
  k₄ = k₃ + shr_w d 3 % 2 * 8

  k₅ : ℕ
  k₅ = k₄ + shr_w d 4 % 2 * 16

  k₆ : ℕ
  k₆ = k₅ + shr_w d 5 % 2 * 32

  k₆_is : k₆ ≡ d % 64
  unfolding k₄ k₅ k₆
  k₆_is =
      ap₂ (λ (p q : ℕ). d % 2 + p * 2 + q * 4 + shr_w d 3 % 2 * 8 + shr_w d 4 % 2 * 16 + shr_w d 5 % 2 * 32) (at 1) (at 2)
      ∙ ap₂ (λ (p q : ℕ). d % 2 + d / 2 % 2 * 2 + d / 4 % 2 * 4 + p * 8 + q * 16 + shr_w d 5 % 2 * 32) (at 3) (at 4)
      ∙ ap (λ (p : ℕ). d % 2 + d / 2 % 2 * 2 + d / 4 % 2 * 4 + d / 8 % 2 * 8 + d / 16 % 2 * 16 + p * 32) (at 5) ∙ bits64 d

  small_is : stages_w d (W / 2 ^ (d % 2)) ≡ W / 2 ^ k₃
  small_is = ap (right_w 4 (shr_w d 2)) (right_is W (d % 2) 2 (shr_w d 1) h) ∙ right_is W (d % 2 + shr_w d 1 % 2 * 2) 4 (shr_w d 2) h

  w₄_is : right_w 8 (shr_w d 3) (W / 2 ^ k₃) ≡ W / 2 ^ k₄
  unfolding k₄
  w₄_is = right_is W k₃ 8 (shr_w d 3) h

  w₅_is : right_w 16 (shr_w d 4) (W / 2 ^ k₄) ≡ W / 2 ^ k₅
  unfolding k₅
  w₅_is = right_is W k₄ 16 (shr_w d 4) h

  -- the whole shift
  pub large_is : large_w d (stages_w d (q * 2 ^ 9 / 2 ^ (d % 2))) ≡ q * 2 ^ 9 / 2 ^ (d % 64)
  unfolding large_w k₆
  large_is =
      ap (large_w d) small_is ∙ ap (right_w 32 (shr_w d 5)) (ap (right_w 16 (shr_w d 4)) w₄_is ∙ w₅_is) ∙ right_is W k₅ 32 (shr_w d 5) h ∙ ap (λ (u : ℕ). W / 2 ^ u) k₆_is

  -- the bits each stage loses
  r₃ : ℕ
  r₃ = dropped 8 (shr_w d 3) (W / 2 ^ k₃)

  r₄ : ℕ
  r₄ = dropped 16 (shr_w d 4) (W / 2 ^ k₄)

  r₅ : ℕ
  r₅ = dropped 32 (shr_w d 5) (W / 2 ^ k₅)

  lost : ℕ
  lost = lost_w d (stages_w d (W / 2 ^ (d % 2)))

  lost_is : lost ≡ r₅ * 2 ^ 32 + (r₄ * 2 ^ 16 + r₃ * 2 ^ 8)
  unfolding lost r₃ r₄ r₅
  lost_is = ap (lost_w d) small_is ∙ lost_parts d (W / 2 ^ k₃) (W / 2 ^ k₄) (W / 2 ^ k₅) (down k₃) (down k₄) (down k₅) w₄_is w₅_is
    where
      down : (k : ℕ) → W / 2 ^ k < 2 ^ 64
      down k = lt_of_le_of_lt (shr_le W k) h

  -- the shifts by the bits 0, 1 and 2 lose nothing
  whole : W % 2 ^ k₃ ≡ 0
  whole =
      let e : 9 ≡ 9 - k₃ + k₃ = sized (shr_w d 1) (shr_w d 2) in
      ap (λ (x : ℕ). q * x % 2 ^ k₃) (ap (λ (x : ℕ). 2 ^ x) e ∙ pow-add 2 (9 - k₃) k₃)
      ∙ ap (λ (x : ℕ). x % 2 ^ k₃) (sym (mul_assoc q (2 ^ (9 - k₃)) (2 ^ k₃))) ∙ mul-mod_left (q * 2 ^ (9 - k₃)) (2 ^ k₃)
    where
      sized : (p r : ℕ) → 9 ≡ 9 - (d % 2 + p % 2 * 2 + r % 2 * 4) + (d % 2 + p % 2 * 2 + r % 2 * 4)
      sized p r = omega arith

  rests : W % 2 ^ k₆ ≡ r₅ * 2 ^ k₅ + (r₄ * 2 ^ k₄ + (r₃ * 2 ^ k₃ + W % 2 ^ k₃))
  unfolding k₄ k₅ k₆ r₃ r₄ r₅
  rests =
      rest_is W k₅ 32 (shr_w d 5)
      ∙ ap (λ (x : ℕ). r₅ * 2 ^ k₅ + x) (rest_is W k₄ 16 (shr_w d 4) ∙ ap (λ (x : ℕ). r₄ * 2 ^ k₄ + x) (rest_is W k₃ 8 (shr_w d 3)))

  -- the lost bits are zero exactly where the rest is
  pub lost_zero : is_zero (lost_w d (stages_w d (q * 2 ^ 9 / 2 ^ (d % 2)))) ≡ is_zero (q * 2 ^ 9 % 2 ^ (d % 64))
  unfolding lost
  lost_zero =
      ap is_zero (lost_is ∙ ap (λ (x : ℕ). r₅ * 2 ^ 32 + (r₄ * 2 ^ 16 + x)) (sym (add-zero (r₃ * 2 ^ 8))))
      ∙ scaled r₅ (2 ^ 32) (2 ^ k₅) _ _ (pow_pos 32) (pow_pos k₅)
      (scaled r₄ (2 ^ 16) (2 ^ k₄) _ _ (pow_pos 16) (pow_pos k₄) (scaled r₃ (2 ^ 8) (2 ^ k₃) 0 (W % 2 ^ k₃) (pow_pos 8) (pow_pos k₃) (ap is_zero (sym whole))))
      ∙ ap is_zero (sym rests ∙ ap (λ (x : ℕ). W % 2 ^ x) k₆_is)
    where
      scaled : (r p q x y : ℕ) → 0 < p → 0 < q → is_zero x ≡ is_zero y → is_zero (r * p + x) ≡ is_zero (r * q + y)
      scaled zero p q x y hp hq g = ap (λ (u : ℕ). is_zero (u + x)) (zero-mul p) ∙ plain x ∙ g ∙ sym (ap (λ (u : ℕ). is_zero (u + y)) (zero-mul q) ∙ plain y)
        where
          plain : (x : ℕ) → is_zero (0 + x) ≡ is_zero x
          plain x = omega arith
      scaled (suc r) p q x y hp hq g = some (suc r * p) x (mul-pos (omega arith) hp) ∙ sym (some (suc r * q) y (mul-pos (omega arith) hq))
        where
          some : (m x : ℕ) → 0 < m → is_zero (m + x) ≡ 0
          some m x l = omega arith
