-- `binary64_parts::rounding::rounded` meets its contract: rounding eleven bits by an addition (`round_11`).
use Rattle.std.proofs.Common.{ℕ, ◌+◌, ◌/◌, ◌^◌, sym, ◌∙◌, ap₂, arith}
use lib.Bits.{and_mask, mask_lt}
use Rattle.binary64.proofs.Round.{round_11}
use Rattle.binary64_parts.proofs.rounding.rounded.Goals as goal

pub overflow_add-result : goal.overflow_add-result
overflow_add-result c = omega (arith, mask_lt c.args.z 11)

pub overflow_add-result-2 : goal.overflow_add-result-2
overflow_add-result-2 c = omega (arith, mask_lt c.args.z 11, mask_lt (c.args.z / 2 ^ 11) 1)

pub overflow_add-result-3 : goal.overflow_add-result-3
overflow_add-result-3 c = omega (arith, mask_lt c.args.z 11, mask_lt (c.args.z / 2 ^ 11) 1, c.ranges.z.fits)

pub returns : goal.returns
returns c =
    ap₂ (λ (x y : ℕ). c.args.z / 2 ^ 11 + (x + 1023 + y) / 2 ^ 11) (and_mask c.args.z 11) (and_mask (c.args.z / 2 ^ 11) 1) ∙ sym (round_11 c.args.z)
