-- The operations on 64-bit words, as document 01's table of kinds has them. A word is a number below 2^64.
-- `bit_xor` and `bit_and` are the toolchain library's digit-wise operations.
use Rattle.std.specs.Prelude.{ℕ, ◌+◌, ◌-◌, ◌*◌, ◌/◌, ◌%◌, ◌^◌}
use Rattle.std.specs.Int.Bits.{bit_xor, bit_and}

-- "a exclusive-or b"
unfoldable pub xor_w : ℕ → ℕ → ℕ
xor_w a b = bit_xor a b

-- "a and b"
unfoldable pub and_w : ℕ → ℕ → ℕ
and_w a b = bit_and a b

-- "all bits of a inverted"
unfoldable pub not_w : ℕ → ℕ
not_w a = (2 ^ 64 - 1) - a

-- "a shifted left by b, .., zeros enter"
unfoldable pub shl_w : ℕ → ℕ → ℕ
shl_w a k = (a * 2 ^ k) % 2 ^ 64

-- "a shifted right likewise"
unfoldable pub shr_w : ℕ → ℕ → ℕ
shr_w a k = a / 2 ^ k

-- "64 copies of a's lowest bit"
unfoldable pub spread_w : ℕ → ℕ
spread_w a = (a % 2) * (2 ^ 64 - 1)

-- "a + b modulo 2^64"
unfoldable pub add_w : ℕ → ℕ → ℕ
add_w a b = (a + b) % 2 ^ 64
