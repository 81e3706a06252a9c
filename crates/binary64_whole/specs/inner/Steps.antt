-- Names for the intermediate numbers of the roundings to a whole number. Contracts of inner functions and the lemmas cite them, no call of the library does:
-- nothing here has to be believed.
use Rattle.std.specs.Prelude.{◌≡◌, ℕ, ◌+◌, ◌-◌, ◌/◌, ◌%◌, ◌^◌, ◌<◌, ◌≤◌, cond, ◌==◌, bit_and}
use Rattle.binary64.specs.Number.{sign, expo}

-- where a has a whole part and may have a fraction: f is the mask of the fraction's bits, l the last bit of the whole part
abbrev pub FractionOf : ℕ → ℕ → Type 0
FractionOf a f = 1023 ≤ expo a → expo a < 1075 → f ≡ 2 ^ (1075 - expo a) - 1

abbrev pub LastWholeOf : ℕ → ℕ → Type 0
LastWholeOf a l = 1023 ≤ expo a → expo a < 1075 → l ≡ a / 2 ^ (1075 - expo a) % 2

-- a raised by f where its sign is set, modulo 2^64, and then without the bits of f
abbrev pub raised_by : ℕ → ℕ → ℕ
raised_by f a = (a + cond (sign a == 0) 0 f) % 2 ^ 64

unfoldable pub lowered_by : ℕ → ℕ → ℕ
lowered_by f a = raised_by f a - bit_and (raised_by f a) f
