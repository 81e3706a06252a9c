-- The sum's plan, the test whether the smaller operand counts: eight bits v that are all ones where d < 64 and no exponent is 0, brought to one bit by three ANDs,
-- the first beside the shift by 2, the others beside the bits lost. What they leave of v, and that the shift is as it were alone. Rests on Run, Fields, Exact and Tests.
use mathlib.Core.Path.{◌≡◌, refl, sym, ap, ap₂, ◌∙◌}
use Prim.Native.Nat.{ℕ, ◌+◌, ◌-◌, ◌*◌, ◌/◌, ◌%◌, ◌^◌, ◌<◌}
use native.Mathlib.Nat.{mul_comm, mul_assoc}
use native.Mathlib.Omega.{arith}
use lib.Dec.{eqb, eqb→eq}
use lib.Pow.{low}
use Rattle.bits.specs.Ops.{xor_w, and_w, not_w, shl_w, shr_w, spread_w}
use Rattle.bits.proofs.Digits.{bit}
use Rattle.bits.proofs.Xor.{xor_comm, xor_cancel_r}
use Rattle.bits.proofs.Bound.{and_lt, xor_lt}
use Rattle.bits.proofs.Choice.{and_spread}
use Rattle.bits.proofs.Sum.{xor_packed}
use Rattle.bits.proofs.Places.{shr_is, and_block}
use Rattle.plans.proofs.Fields.{low_bits, spread_run_at}
use Rattle.plans.proofs.Shifts.{not_is, moved, changes}
use Rattle.plans.proofs.Lanes.{is_zero, and_down}
use Rattle.plans.proofs.Tests.{each}
use Rattle.plans.proofs.sum.Run.{changed_w, right_w, used_w, second_and, second_rider, small_w}
use Rattle.plans.proofs.sum.Exact.{and_run}
use Rattle.plans.proofs.sum.Shift.{stages_w}

-- ---- the eight bits
-- 0 where the operand counts
abbrev pub against : ℕ → ℕ → ℕ
against d z = bit z 16 * 64 + (bit z 0 * 32 + d / 64)

against_lt : (d z : ℕ) → d < 2 ^ 11 → against d z < 128
against_lt d z h = small (bit z 16) (bit z 0) (d / 64) (omega arith) (omega arith) (omega arith)
  where
    small : (a b u : ℕ) → a < 2 → b < 2 → u < 32 → a * 64 + (b * 32 + u) < 128
    small a b u ha hb hu = omega arith

pub used_is : (d z : ℕ) → d < 2 ^ 11 → used_w d z ≡ 255 - against d z
unfolding used_w
used_is d z h =
    low_bits _ 56 8 refl ∙ ap (λ (p : ℕ). not_w p % 2 ^ 8) parts ∙ ap (λ (p : ℕ). p % 2 ^ 8) (not_is (against d z)) ∙ cut (against d z) (against_lt d z h)
  where
    cut : (p : ℕ) → p < 128 → ((2 ^ 64 - 1) - p) % 2 ^ 8 ≡ 255 - p
    cut p l = omega arith

    lowest : z % 2 ≡ bit z 0
    lowest = omega arith

    join : (a b u : ℕ) → a < 2 → b < 2 → u < 32 → xor_w (xor_w u (b * 2 ^ 5)) (a * 2 ^ 6) ≡ a * 64 + (b * 32 + u)
    join a b u ha hb hu =
        ap (λ (p : ℕ). xor_w p (a * 2 ^ 6)) (xor_comm u (b * 2 ^ 5) ∙ xor_packed b 5 u hu) ∙ xor_comm (b * 2 ^ 5 + u) (a * 2 ^ 6) ∙ xor_packed a 6 (b * 2 ^ 5 + u) (omega arith)

    parts : xor_w (xor_w (shr_w d 6) (shr_w (shl_w z 63) 58)) (shr_w (shl_w (shr_w z 16) 63) 57) ≡ against d z
    parts =
        ap₂ (λ (p q : ℕ). xor_w (xor_w p q) (shr_w (shl_w (shr_w z 16) 63) 57)) (shr_is d 6) (moved 1 5 58 z refl ∙ ap (λ (p : ℕ). p * 2 ^ 5) lowest)
        ∙ ap (xor_w (xor_w (d / 64) (bit z 0 * 2 ^ 5))) (moved 1 6 57 (shr_w z 16) refl ∙ ap (λ (p : ℕ). p % 2 * 2 ^ 6) (shr_is z 16))
        ∙ join (bit z 16) (bit z 0) (d / 64) (omega arith) (omega arith) (omega arith)

-- ---- the ANDs: 8 bits to 4, 2 and 1
abbrev pub rider4 : ℕ → ℕ
rider4 v = and_w (v % 16) (v / 16)

chained : (v : ℕ) → v < 256 → and_down 1 (and_down 2 (rider4 v)) % 2 ≡ is_zero (255 - v)
unfolding and_w shr_w
chained v h = eqb→eq _ _ (each 256 (λ v. eqb (and_down 1 (and_down 2 (rider4 v)) % 2) (is_zero (255 - v))) tt v h)

pub rider4_lt : (v : ℕ) → rider4 v < 16
rider4_lt v = and_lt 4 (v % 16) (v / 16) (omega arith)

pub counts : (d z : ℕ) → d < 2 ^ 11 → and_down 1 (and_down 2 (rider4 (used_w d z))) % 2 ≡ is_zero (against d z)
counts d z h =
    ap (λ (v : ℕ). and_down 1 (and_down 2 (rider4 v)) % 2) (used_is d z h) ∙ chained (255 - against d z) (omega arith)
    ∙ ap is_zero (back (against d z) (against_lt d z h))
  where
    back : (p : ℕ) → p < 128 → 255 - (255 - p) ≡ p
    back p l = omega arith

-- ---- the first of them beside the shift by 2 of w = m · 2^8
module _ (d v m : ℕ) (hv : v < 256) (hm : m < 2 ^ 54) where
  abbrev c : ℕ
  c = shr_w d 1

  X : ℕ
  X = xor_w m (m * 4)

  X_lt : X < 2 ^ 58
  unfolding X
  X_lt = xor_lt 58 m (m * 4) (omega arith) (omega arith)

  X_is : xor_w (shr_w (m * 2 ^ 8) 2) (m * 2 ^ 8) ≡ X * 2 ^ 6
  unfolding X
  X_is = changes 2 6 m

  r_lt : rider4 v < 2 ^ 6
  r_lt = let h = rider4_lt v in omega arith

  second_is : second_and d v (m * 2 ^ 8) ≡ c % 2 * X * 2 ^ 6 + rider4 v
  unfolding second_and
  second_is =
      let p : xor_w (xor_w (shr_w (m * 2 ^ 8) 2) (m * 2 ^ 8)) (shr_w (shl_w v 60) 60) ≡ X * 2 ^ 6 + v % 16 =
      ap₂ xor_w X_is (low_bits v 60 4 refl) ∙ xor_packed X 6 (v % 16) (omega arith) in
      let q : xor_w (shl_w (shr_w (spread_w c) 6) 6) (shr_w v 4) ≡ c % 2 * (2 ^ 58 - 1) * 2 ^ 6 + v / 16 =
      ap₂ xor_w (spread_run_at c 6 58 6 refl (omega arith)) (shr_is v 4) ∙ xor_packed (c % 2 * (2 ^ 58 - 1)) 6 (v / 16) (omega arith) in
      ap₂ and_w p q ∙ and_block 6 X (c % 2 * (2 ^ 58 - 1)) (v % 16) (v / 16) (omega arith) (omega arith)
      ∙ ap (λ (u : ℕ). u * 2 ^ 6 + rider4 v) (and_run 58 X c X_lt)

  pub rider_is : second_rider (second_and d v (m * 2 ^ 8)) ≡ rider4 v
  unfolding second_rider
  rider_is = low_bits _ 58 6 refl ∙ ap (λ (u : ℕ). u % 2 ^ 6) second_is ∙ low (c % 2 * X) 6 r_lt

  changed_is : changed_w 2 c (m * 2 ^ 8) ≡ c % 2 * X * 2 ^ 6
  unfolding changed_w
  changed_is =
      let h = X_lt in
      ap (λ (u : ℕ). and_w u (spread_w c)) X_is ∙ and_spread (X * 2 ^ 6) c (omega arith) ∙ mul_comm (X * 2 ^ 6) (c % 2) ∙ sym (mul_assoc (c % 2) X (2 ^ 6))

  pub small_is : small_w d (second_and d v (m * 2 ^ 8)) (m * 2 ^ 8) ≡ stages_w d (m * 2 ^ 8)
  unfolding small_w
  small_is =
      let Y : ℕ = c % 2 * X in
      let e : xor_w (second_and d v (m * 2 ^ 8)) (second_rider (second_and d v (m * 2 ^ 8))) ≡ changed_w 2 c (m * 2 ^ 8) =
      ap₂ xor_w (second_is ∙ sym (xor_packed Y 6 (rider4 v) r_lt)) rider_is ∙ xor_cancel_r (Y * 2 ^ 6) (rider4 v) ∙ sym changed_is in
      ap (λ (u : ℕ). right_w 4 (shr_w d 2) (xor_w (m * 2 ^ 8) u)) e ∙ (unfold right_w in refl)
