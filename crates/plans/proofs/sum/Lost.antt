-- The sum's plan, the bits that a shift of w by s places drops: what the shift changes in w is w ^ (w >> s) or nothing, and folded over s, 2s, .. it is w or nothing.
-- Rests on Run, Fields and Shifts.
use mathlib.Core.Path.{◌≡◌, refl, sym, ap, ap₂, ◌∙◌}
use Prim.Native.Nat.{ℕ, ◌+◌, ◌*◌, ◌%◌, ◌^◌, ◌<◌}
use native.Mathlib.Nat.{zero-mul, one-mul, mul-zero, mul-one, div-one, zero-div, zero-mod, mod-lt}
use native.Mathlib.Omega.{arith}
use lib.Pow.{pow_pos}
use Rattle.bits.specs.Ops.{xor_w, shl_w, shr_w}
use Rattle.bits.proofs.Digits.{digit, bit_lt}
use Rattle.bits.proofs.Xor.{xor_comm, xor_zero, xor_zero_l, xor·ring}
use Rattle.bits.proofs.Shift.{shr_xor, shr_shr', shr_width}
use Rattle.bits.proofs.Bound.{xor_lt, shl_lt, shr_lt}
use Rattle.bits.proofs.Choice.{and_spread}
use Rattle.bits.proofs.Sum.{xor_packed}
use Rattle.bits.proofs.Places.{shr_is}
use Rattle.plans.proofs.Fields.{bit_mul_lt}
use Rattle.plans.proofs.Shifts.{moved}
use Rattle.plans.proofs.sum.Run.{changed_w, refold_w, lost_w, right_w}

-- ---- what changes: v ^ (v >> s), where v is w or nothing
abbrev chosen : ℕ → ℕ → ℕ
chosen c w = c % 2 * w

changed_is : (s c w : ℕ) → w < 2 ^ 64 → changed_w s c w ≡ xor_w (chosen c w) (shr_w (chosen c w) s)
unfolding changed_w
changed_is s c w h =
    let X : ℕ = xor_w (shr_w w s) w in
    let on : (b v : ℕ) → b * w ≡ v → xor_w v (shr_w v s) ≡ xor_w (b * w) (shr_w (b * w) s) = λ b v e. ap (λ (u : ℕ). xor_w u (shr_w u s)) (sym e) in
    and_spread X c (xor_lt 64 (shr_w w s) w (shr_lt 64 w s h) h)
    ∙ digit (λ b. X * b ≡ xor_w (b * w) (shr_w (b * w) s))
    (mul-zero X ∙ sym (xor_zero_l (shr_w 0 s) ∙ shr_is 0 s ∙ zero-div (2 ^ s)) ∙ on 0 0 (zero-mul w))
    (mul-one X ∙ xor_comm (shr_w w s) w ∙ on 1 w (one-mul w))
    (c % 2) (bit_lt c)

chosen_low : (s c w : ℕ) → chosen c w % 2 ^ s ≡ c % 2 * (w % 2 ^ s)
chosen_low s c w =
    digit (λ b. b * w % 2 ^ s ≡ b * (w % 2 ^ s))
    (ap (λ (u : ℕ). u % 2 ^ s) (zero-mul w) ∙ zero-mod (2 ^ s) ∙ sym (zero-mul (w % 2 ^ s)))
    (ap (λ (u : ℕ). u % 2 ^ s) (one-mul w) ∙ sym (one-mul (w % 2 ^ s)))
    (c % 2) (bit_lt c)

-- folded over s it is v ^ (v >> 2s), and at last v
refold_is : (s v : ℕ) → refold_w s (xor_w v (shr_w v s)) ≡ xor_w v (shr_w v (s + s))
unfolding refold_w
refold_is s v =
    ap (xor_w (xor_w v (shr_w v s))) (shr_xor v (shr_w v s) s ∙ ap (xor_w (shr_w v s)) (shr_shr' v s s)) ∙ regroup v (shr_w v s) (shr_w v (s + s))
  where
    regroup : (a b c : ℕ) → xor_w (xor_w a b) (xor_w b c) ≡ xor_w a c
    regroup a b c = simp xor·ring

abbrev Folds : ℕ → (ℕ → ℕ) → Type 0
Folds s fold = (v : ℕ) → v < 2 ^ 64 → fold (xor_w v (shr_w v s)) ≡ v

folds32 : Folds 32 (refold_w 32)
folds32 v h = refold_is 32 v ∙ ap (xor_w v) (shr_width v 64 h (omega arith)) ∙ xor_zero v

folds16 : Folds 16 (λ t. refold_w 32 (refold_w 16 t))
folds16 v h = ap (refold_w 32) (refold_is 16 v) ∙ folds32 v h

folds8 : Folds 8 (λ t. refold_w 32 (refold_w 16 (refold_w 8 t)))
folds8 v h = ap (λ (u : ℕ). refold_w 32 (refold_w 16 u)) (refold_is 8 v) ∙ folds16 v h

-- ---- the bits that a shift of w by s drops where c is odd
abbrev pub dropped : ℕ → ℕ → ℕ → ℕ
dropped s c w = c % 2 * (w % 2 ^ s)

dropped_lt : (s c w : ℕ) → dropped s c w < 2 ^ s
dropped_lt s c w = bit_mul_lt c (w % 2 ^ s) s (mod-lt w (pow_pos s))

dropped_at : (s r c w : ℕ) (fold : ℕ → ℕ) → Folds s fold → s + (r + s) ≡ 64 → w < 2 ^ 64 → shr_w (shl_w (fold (changed_w s c w)) (r + s)) r ≡ dropped s c w * 2 ^ s
dropped_at s r c w fold f e h =
    ap (λ (u : ℕ). shr_w (shl_w u (r + s)) r) (ap fold (changed_is s c w h) ∙ f (chosen c w) (bit_mul_lt c w 64 h))
    ∙ moved s s r (chosen c w) e ∙ ap (λ (u : ℕ). u * 2 ^ s) (chosen_low s c w)

-- three stages, side by side
side_by_side : (p q r : ℕ) → p < 2 ^ 8 → q < 2 ^ 16 → xor_w (xor_w (p * 2 ^ 8) (q * 2 ^ 16)) (r * 2 ^ 32) ≡ r * 2 ^ 32 + (q * 2 ^ 16 + p * 2 ^ 8)
side_by_side p q r hp hq =
    ap (λ (u : ℕ). xor_w u (r * 2 ^ 32)) (xor_comm (p * 2 ^ 8) (q * 2 ^ 16) ∙ xor_packed q 16 (p * 2 ^ 8) (omega arith))
    ∙ xor_comm (q * 2 ^ 16 + p * 2 ^ 8) (r * 2 ^ 32) ∙ xor_packed r 32 (q * 2 ^ 16 + p * 2 ^ 8) (omega arith)

-- the bits lost, from w, w₄ and w₅
pub lost_parts : (d w w₄ w₅ : ℕ) → w < 2 ^ 64 → w₄ < 2 ^ 64 → w₅ < 2 ^ 64 → right_w 8 (shr_w d 3) w ≡ w₄ → right_w 16 (shr_w d 4) w₄ ≡ w₅
    → lost_w d w ≡ dropped 32 (shr_w d 5) w₅ * 2 ^ 32 + (dropped 16 (shr_w d 4) w₄ * 2 ^ 16 + dropped 8 (shr_w d 3) w * 2 ^ 8)
unfolding lost_w
lost_parts d w w₄ w₅ h h₄ h₅ e₄ e₅ =
    let last : ℕ = refold_w 32 (changed_w 32 (shr_w d 5) w₅) in
    ap₂ (λ (p q : ℕ). xor_w (xor_w (shr_w (shl_w (refold_w 32 (refold_w 16 (refold_w 8 (changed_w 8 (shr_w d 3) w)))) 56) 48)
    (shr_w (shl_w (refold_w 32 (refold_w 16 (changed_w 16 (shr_w d 4) p))) 48) 32)) (shl_w (refold_w 32 (changed_w 32 (shr_w d 5) q)) 32)) e₄ (ap (right_w 16 (shr_w d 4)) e₄ ∙ e₅)
    ∙ ap₂ xor_w
    (ap₂ xor_w (dropped_at 8 48 (shr_w d 3) w (λ t. refold_w 32 (refold_w 16 (refold_w 8 t))) folds8 refl h) (dropped_at 16 32 (shr_w d 4) w₄ (λ t. refold_w 32 (refold_w 16 t)) folds16 refl h₄))
    (sym (shr_is (shl_w last 32) 0 ∙ div-one (shl_w last 32)) ∙ dropped_at 32 0 (shr_w d 5) w₅ (refold_w 32) folds32 refl h₅)
    ∙ side_by_side (dropped 8 (shr_w d 3) w) (dropped 16 (shr_w d 4) w₄) (dropped 32 (shr_w d 5) w₅) (dropped_lt 8 (shr_w d 3) w) (dropped_lt 16 (shr_w d 4) w₄)

pub lost_lt : (d w : ℕ) → lost_w d w < 2 ^ 64
unfolding lost_w
lost_lt d w = xor_lt 64 _ _ (xor_lt 64 _ _ (shr_lt 64 _ 48 (shl_lt _ 56)) (shr_lt 64 _ 32 (shl_lt _ 48))) (shl_lt _ 32)
