-- `test_numbers::native::number` is safe: a pattern whose bits 62..0 are at most those of an infinity is no NaN's.
use Rattle.std.proofs.Common.{ℕ, ◌%◌, ◌^◌, ◌≤◌, Bool, not, T, sym, ◌∙◌, subst, rules, le-ltb}
use lib.Bits.{and_mask}
use lib.Ieee.{binary64, nan_bits}
use lib.Ieee.Bits.{nan_bits_above}
use Rattle.test_numbers.proofs.native.number.Goals as goal

no_nan : (a : ℕ) → a % 2 ^ 63 ≤ 0x7ff0000000000000 → T (not (nan_bits binary64 a))
no_nan a h = subst (λ (b : Bool). T (not b)) (sym (nan_bits_above binary64 a ∙ le-ltb 0x7ff0000000000000 (a % 2 ^ 63) h)) tt

pub float_from_bits-result : goal.float_from_bits-result
float_from_bits-result c =
    no_nan c.args.a (subst (λ (x : ℕ). x ≤ 0x7ff0000000000000) (and_mask c.args.a 63) c.if-a-gt-INFINITY.false)
