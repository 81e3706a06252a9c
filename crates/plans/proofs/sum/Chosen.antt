-- The sum's plan, the choice by range, with the sign in place 63 of the same AND: nothing, infinity's bits or the rounded result. Rests on bits' block laws and Fields.
use mathlib.Core.Path.{◌≡◌, refl, sym, ap, ap₂, ◌∙◌}
use Prim.Native.Nat.{ℕ, ◌+◌, ◌-◌, ◌*◌, ◌%◌, ◌^◌, ◌<◌}
use native.Mathlib.Nat.{mul-zero, mul-one, mod-lt, mod-eq_of_lt, add-zero}
use native.Mathlib.Omega.{arith}
use lib.Pow.{pow_pos}
use Rattle.bits.specs.Ops.{xor_w, and_w, not_w, shl_w, shr_w, spread_w}
use Rattle.bits.proofs.Digits.{digit, bit_lt}
use Rattle.bits.proofs.Xor.{xor_zero, xor_comm, and_zero}
use Rattle.bits.proofs.Sum.{xor_packed}
use Rattle.bits.proofs.Bound.{xor_lt}
use Rattle.bits.proofs.Places.{and_block, and_low}
use Rattle.binary64.specs.Number.{signed}
use Rattle.plans.proofs.Fields.{low_bits, spread_run, spread_run_at}
use Rattle.plans.proofs.Shifts.{shl_keeps, xor_parity}
use Rattle.plans.proofs.RoundUp.{opposite, not_odd}
use Rattle.plans.proofs.sum.Run.{chosen_w}

-- a bit as a mask of one bit, and of 63
and_bit : (x y : ℕ) → x < 2 → y < 2 → and_w x y ≡ x * y
unfolding and_w
and_bit x y hx hy = digit (λ x. and_w x y ≡ x * y) (digit (λ y. and_w 0 y ≡ 0 * y) refl refl y hy) (digit (λ y. and_w 1 y ≡ 1 * y) refl refl y hy) x hx

and_mask : (x b : ℕ) → x < 2 ^ 63 → b < 2 → and_w x (b * (2 ^ 63 - 1)) ≡ x * b
and_mask x b h hb = digit (λ b. and_w x (b * (2 ^ 63 - 1)) ≡ x * b) (and_zero x ∙ sym (mul-zero x)) (and_low x 63 ∙ mod-eq_of_lt h ∙ sym (mul-one x)) b hb

module _ (Y sg under over n : ℕ) (hu : under < 2 ^ 64) (ho : over < 2 ^ 64) (hn : n < 2 ^ 64) where
  -- the sign that is left
  abbrev S : ℕ
  S = sg % 2 * (1 - n % 2)

  chosen_with : (k : ℕ) → not_w (xor_w under over) % 2 ≡ k → k < 2 → chosen_w Y sg under over n ≡ xor_w (signed S (Y % 2 ^ 63 * k)) (over % 2 * 2047 * 2 ^ 52)
  unfolding chosen_w
  chosen_with k e hk =
      let y : ℕ = Y % 2 ^ 63 in
      let hy : y < 2 ^ 63 = mod-lt Y (pow_pos 63) in
      let m : ℕ = k * (2 ^ 63 - 1) in
      let hm : m < 2 ^ 63 = omega arith in
      let a : xor_w (shr_w (shl_w Y 1) 1) (shl_w sg 63) ≡ sg % 2 * 2 ^ 63 + y =
      ap₂ xor_w (low_bits Y 1 63 refl) (shl_keeps 1 63 sg refl) ∙ xor_comm y (sg % 2 * 2 ^ 63) ∙ xor_packed (sg % 2) 63 y hy in
      let b : xor_w (shr_w (spread_w (not_w (xor_w under over))) 1) (shl_w (not_w n) 63) ≡ (1 - n % 2) * 2 ^ 63 + m =
      ap₂ xor_w (spread_run (not_w (xor_w under over)) 1 63 refl ∙ ap (λ (x : ℕ). x * (2 ^ 63 - 1)) e) (opposite n hn) ∙ xor_comm m ((1 - n % 2) * 2 ^ 63) ∙ xor_packed (1 - n % 2) 63 m hm in
      ap₂ xor_w
      (ap₂ and_w a b ∙ and_block 63 (sg % 2) (1 - n % 2) y m hy hm ∙ ap₂ signed (and_bit (sg % 2) (1 - n % 2) (bit_lt sg) (omega arith)) (and_mask y k hy hk))
      (spread_run_at over 53 11 52 refl (omega arith))

  kept : (p q : ℕ) → under % 2 ≡ p → over % 2 ≡ q → not_w (xor_w under over) % 2 ≡ 1 - (p + q) % 2
  kept p q e f = not_odd (xor_w under over) (xor_lt 64 under over hu ho) ∙ ap (λ (x : ℕ). 1 - x) (xor_parity under over ∙ ap₂ (λ (x y : ℕ). (x + y) % 2) e f)

  chosen_by : (p q : ℕ) → under % 2 ≡ p → over % 2 ≡ q → chosen_w Y sg under over n ≡ xor_w (signed S (Y % 2 ^ 63 * (1 - (p + q) % 2))) (q * 2047 * 2 ^ 52)
  chosen_by p q e f =
      chosen_with (1 - (p + q) % 2) (kept p q e f) (omega arith) ∙ ap (λ (x : ℕ). xor_w (signed S (Y % 2 ^ 63 * (1 - (p + q) % 2))) (x * 2047 * 2 ^ 52)) f

  -- E ≤ 0
  pub chosen_under : under % 2 ≡ 1 → over % 2 ≡ 0 → chosen_w Y sg under over n ≡ signed (sg % 2 * (1 - n % 2)) 0
  chosen_under e f = chosen_by 1 0 e f ∙ xor_zero (signed S (Y % 2 ^ 63 * 0)) ∙ ap (signed S) (mul-zero (Y % 2 ^ 63))

  -- E ≥ 2047
  pub chosen_over : under % 2 ≡ 0 → over % 2 ≡ 1 → chosen_w Y sg under over n ≡ signed (sg % 2 * (1 - n % 2)) (2047 * 2 ^ 52)
  chosen_over e f =
      chosen_by 0 1 e f ∙ ap (λ (x : ℕ). xor_w x (2047 * 2 ^ 52)) (ap (signed S) (mul-zero (Y % 2 ^ 63)) ∙ add-zero (S * 2 ^ 63)) ∙ xor_packed S 63 (2047 * 2 ^ 52) (omega arith)

  pub chosen_some : under % 2 ≡ 0 → over % 2 ≡ 0 → chosen_w Y sg under over n ≡ signed (sg % 2 * (1 - n % 2)) (Y % 2 ^ 63)
  chosen_some e f = chosen_by 0 0 e f ∙ xor_zero (signed S (Y % 2 ^ 63 * 1)) ∙ ap (signed S) (mul-one (Y % 2 ^ 63))
