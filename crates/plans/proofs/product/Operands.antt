-- The fields of an operand of the product and their bounds: E, F, the significand m = 2^52 + F, and n = 2^53 - 1 - m, its complement.
-- Rests on binary64's ProductModel.
use mathlib.Core.Path.{◌≡◌}
use Prim.Native.Nat.{ℕ, ◌+◌, ◌-◌, ◌/◌, ◌^◌, ◌<◌}
use native.Mathlib.Nat.{mod-lt}
use native.Mathlib.Omega.{arith}
use lib.Pow.{pow_pos}
use Rattle.binary64.specs.Number.{expo, frac}
use Rattle.binary64.proofs.ProductModel.{frac_lt}

pub expo_lt : (a : ℕ) → expo a < 2048
expo_lt a = mod-lt (a / 2 ^ 52) (pow_pos 11)

abbrev pub signif : ℕ → ℕ
signif a = 2 ^ 52 + frac a

abbrev pub comple : ℕ → ℕ
comple a = (2 ^ 52 - 1) - frac a

pub comple_sum : (a : ℕ) → comple a + frac a + 1 ≡ 2 ^ 52
comple_sum a = let l = frac_lt a in omega arith
