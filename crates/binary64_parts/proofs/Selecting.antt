-- Selection by masks, in numbers: 64 copies of a Bool as a mask, and a choice by exclusive-or. Rests on lib.Bits and on bits' laws of XOR.
use Rattle.std.proofs.Common.{◌≡◌, ℕ, zero, suc, ◌+◌, ◌-◌, ◌%◌, ◌^◌, ◌<◌, min, Bool, true, false, cond, not, eqb, refl, ap, ◌∙◌, mod-eq_of_lt, arith}
use mir.Val.{bool_byte}
use lib.Bits.{bit_and, bit_xor, and_comm, and_mask, and_zero_l, xor_zero_r}
use Rattle.bits.specs.Ops.{xor_w}
use Rattle.bits.proofs.Xor.{xor_cancel, xor_comm}
use Rattle.binary64.proofs.Cases.{by_eq}

-- a word under the mask that zero less the Bool makes
pub masked : (b : Bool) (k x : ℕ) → x < 2 ^ 64 → k ≡ bool_byte b → bit_and ((0 + (2 ^ 64 - k)) % 2 ^ 64) x ≡ cond b x 0
masked false k x h e =
    let z : (0 + (2 ^ 64 - k)) % 2 ^ 64 ≡ 0 = omega arith in
    ap (λ (m : ℕ). bit_and m x) z ∙ and_zero_l x
masked true k x h e =
    let o : (0 + (2 ^ 64 - k)) % 2 ^ 64 ≡ 2 ^ 64 - 1 = omega arith in
    ap (λ (m : ℕ). bit_and m x) o ∙ and_comm (2 ^ 64 - 1) x ∙ and_mask x 64 ∙ mod-eq_of_lt h

-- y, or y with its difference from x put in
pub chosen : (b : Bool) (x y : ℕ) → bit_xor y (cond b (bit_xor x y) 0) ≡ cond b x y
unfolding xor_w
chosen false x y = xor_zero_r y
chosen true x y = ap (bit_xor y) (xor_comm x y) ∙ xor_cancel y x

-- a test for a number that is not zero, as a number
pub some : (x : ℕ) → bool_byte (not (eqb x 0)) ≡ min x 1
some x = by_eq (λ (b : Bool). bool_byte (not b) ≡ min x 1) x 0 (λ e. omega arith) (λ n. positive x n)
  where
    positive : (x : ℕ) → (x ≡ 0 → ⊥) → 1 ≡ min x 1
    positive zero n = absurd (n refl)
    positive (suc x) n = omega arith
