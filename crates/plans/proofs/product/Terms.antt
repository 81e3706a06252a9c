-- What the product's foldings leave of their riders, in numbers: from the bits b, l1, l0 and h, and from the two top bits of U.
-- Rests on End and SmallBits.
use mathlib.Core.Path.{◌≡◌, refl, ap₂, ◌∙◌}
use Prim.Native.Nat.{ℕ, ◌-◌, ◌*◌, ◌<◌}
use native.Mathlib.Nat.{mul_comm}
use native.Mathlib.Omega.{arith}
use Rattle.bits.specs.Ops.{xor_w, and_w, shl_w, shr_w}
use Rattle.plans.proofs.Fields.{field}
use Rattle.plans.proofs.Shifts.{lowest, lowest_is}
use Rattle.plans.proofs.SmallBits.{mul_bit, bit_only, bit_up, bits4, two_bits, place0, place1, and_bits}
use Rattle.plans.proofs.product.End.{only_w, only_both_w, top_both_w}

pub record Four (b l1 l0 h : ℕ) : Type 0 where
  pub b_lt : b < 2
  pub l1_lt : l1 < 2
  pub l0_lt : l0 < 2
  pub h_lt : h < 2

module _ (b l1 l0 h : ℕ) (four : Four b l1 l0 h) where
  pub both_lt : l1 * l0 < 2
  both_lt = mul_bit l1 l0 four.l1_lt four.l0_lt

  pub hb_lt : h * b < 2
  hb_lt = mul_bit h b four.h_lt four.b_lt

  pub first_only : l1 * (1 - l0) < 2
  first_only = mul_bit l1 (1 - l0) four.l1_lt (omega arith)

  pub second_only : l0 * (1 - l1) < 2
  second_only = mul_bit l0 (1 - l1) four.l0_lt (omega arith)

  -- what the first folding leaves of its riders, whose last bits are u and w
  module _ (u w : ℕ) (hu : u < 2) (hw : w < 2) where
    abbrev p : ℕ
    p = bits4 l1 h u 0

    abbrev q : ℕ
    q = bits4 l0 b w 0

    abbrev r : ℕ
    r = bits4 (l1 * l0) (h * b) (u * w) 0

    uw_lt : u * w < 2
    uw_lt = mul_bit u w hu hw

    pub riders_first : and_w p q ≡ r
    riders_first = and_bits l1 h u 0 l0 b w 0 four.l1_lt four.h_lt hu (omega arith) four.l0_lt four.b_lt hw (omega arith)

    low_r : lowest r ≡ l1 * l0
    low_r = lowest_is r ∙ place0 (l1 * l0) (h * b) (u * w) 0 both_lt hb_lt uw_lt (omega arith)

    pub only_first : only_w p r ≡ l1 * (1 - l0)
    unfolding only_w
    only_first = ap₂ xor_w (lowest_is p ∙ place0 l1 h u 0 four.l1_lt four.h_lt hu (omega arith)) low_r ∙ bit_only l1 l0 four.l1_lt four.l0_lt

    only_second : only_w q r ≡ l0 * (1 - l1)
    unfolding only_w
    only_second = ap₂ xor_w (lowest_is q ∙ place0 l0 b w 0 four.l0_lt four.b_lt hw (omega arith)) (low_r ∙ mul_comm l1 l0) ∙ bit_only l0 l1 four.l0_lt four.l1_lt

    pub only_both : only_both_w p q r ≡ bits4 (l0 * (1 - l1)) (l1 * (1 - l0)) 0 0
    unfolding only_both_w
    only_both =
        ap₂ xor_w only_second (bit_up 1 (only_w p r) (l1 * (1 - l0)) (omega arith) first_only only_first)
        ∙ two_bits (l0 * (1 - l1)) (l1 * (1 - l0)) 0 0 second_only first_only (omega arith) (omega arith)

    pub top_both : top_both_w q r ≡ bits4 (h * b) b 0 0
    unfolding top_both_w
    top_both =
        let e : shr_w (shl_w r 62) 63 ≡ h * b = field r 62 1 1 refl ∙ place1 (l1 * l0) (h * b) (u * w) 0 both_lt hb_lt uw_lt (omega arith) in
        let g : shr_w (shl_w q 62) 63 ≡ b = field q 62 1 1 refl ∙ place1 l0 b w 0 four.l0_lt four.b_lt hw (omega arith) in
        ap₂ xor_w e (bit_up 1 (shr_w (shl_w q 62) 63) b (omega arith) four.b_lt g) ∙ two_bits (h * b) b 0 0 hb_lt four.b_lt (omega arith) (omega arith)

  pub riders_second : and_w (bits4 (l0 * (1 - l1)) (l1 * (1 - l0)) 0 0) (bits4 (h * b) b 0 0) ≡ bits4 (l0 * (1 - l1) * (h * b)) (l1 * (1 - l0) * b) 0 0
  riders_second =
      and_bits (l0 * (1 - l1)) (l1 * (1 - l0)) 0 0 (h * b) b 0 0 second_only first_only (omega arith) (omega arith) hb_lt four.b_lt (omega arith) (omega arith)
