-- What the product's tail leaves in numbers, by the range of T: the link between the tail's words and the definition. w is the tail's word; T and f are S + C from place 52 on and
-- below it; l is the 53 bits at the top of low; b is 1 where the product of the significands has its top bit at 105.
-- Rests on Lanes.
use mathlib.Core.Path.{◌≡◌}
use Prim.Native.Nat.{ℕ, ◌+◌, ◌-◌, ◌*◌, ◌/◌, ◌%◌, ◌^◌, ◌≤◌, min}
use Rattle.bits.specs.Ops.{xor_w}
use Rattle.binary64.specs.Number.{sign, expo, signed}
use Rattle.plans.proofs.Lanes.{is_zero}

-- what rounding adds to the high half, from b, A, l1, l0 and h
abbrev pub carry_in : ℕ → ℕ → ℕ → ℕ → ℕ → ℕ
carry_in b A l1 l0 h = l1 * l0 + b * (l1 * (1 - l0)) + A * (b * (l0 * (1 - l1) * h) + (1 - b) * (l1 * (1 - l0)))

-- the last bit kept where b = 0, from A, l1 and l0
abbrev pub last_bit : ℕ → ℕ → ℕ → ℕ
last_bit A l1 l0 = (l1 + l0 + A * (l1 * (1 - l0))) % 2

-- the first two bits of l, and whether the others are all ones
abbrev pub first_bit : ℕ → ℕ
first_bit l = l / 2 ^ 52

abbrev pub second_bit : ℕ → ℕ
second_bit l = l / 2 ^ 51 % 2

abbrev pub rest_ones : ℕ → ℕ
rest_ones l = is_zero (2 ^ 51 - 1 - l % 2 ^ 51)

abbrev pub carry_of : ℕ → ℕ → ℕ → ℕ
carry_of b l f = carry_in b (rest_ones l) (first_bit l) (second_bit l) (f % 2)

abbrev pub last_of : ℕ → ℕ
last_of l = last_bit (rest_ones l) (first_bit l) (second_bit l)

-- 1 where both exponents are not 0
abbrev pub both_nonzero : ℕ → ℕ → ℕ
both_nonzero x y = min (1 - is_zero (expo x)) (1 - is_zero (expo y))

abbrev pub sign_of : ℕ → ℕ → ℕ
sign_of x y = xor_w (sign x) (sign y)

pub record Ended (x y T f l b w : ℕ) : Type 0 where
  pub below : T ≤ 1024 → w ≡ signed (sign_of x y) 0
  pub beyond : 3071 ≤ T → w ≡ signed (sign_of x y) (both_nonzero x y * (2047 * 2 ^ 52))
  pub within_one : b ≡ 1 → 1025 ≤ T → T ≤ 3070 → w ≡ signed (sign_of x y) (both_nonzero x y * ((T - 1024) * 2 ^ 52 + (f + carry_of b l f)))
  pub within_zero : b ≡ 0 → 1025 ≤ T → T ≤ 3070
      → w ≡ signed (sign_of x y) (both_nonzero x y * ((T - 1024 + (f + carry_of b l f) / 2 ^ 52) * 2 ^ 52 + (2 * ((f + carry_of b l f) % 2 ^ 52) + last_of l) % 2 ^ 52))
