-- Every operation on words gives a word.
use Prim.Native.Nat.{ℕ, ◌+◌, ◌*◌, ◌^◌, ◌<◌, ◌≤◌}
use native.Mathlib.Nat.{mod-lt, lt_of_le_of_lt}
use native.Mathlib.Omega.{arith}
use lib.Bits as Bits
use lib.Pow.{pow_pos, shr_le}
use Rattle.bits.specs.Ops.{xor_w, and_w, not_w, shl_w, shr_w, spread_w, add_w}

-- over the width where the operation has none of its own
pub xor_lt : (w a b : ℕ) → a < 2 ^ w → b < 2 ^ w → xor_w a b < 2 ^ w
unfolding xor_w
xor_lt w a b ha hb = Bits.xor_lt w a b ha hb

pub and_le : (a b : ℕ) → and_w a b ≤ a
unfolding and_w
and_le a b = Bits.and_le_l a b

pub and_lt : (w a b : ℕ) → a < 2 ^ w → and_w a b < 2 ^ w
and_lt w a b ha = lt_of_le_of_lt (and_le a b) ha

pub shr_lt : (w a k : ℕ) → a < 2 ^ w → shr_w a k < 2 ^ w
unfolding shr_w
shr_lt w a k h = lt_of_le_of_lt (shr_le a k) h

pub not_lt : (a : ℕ) → not_w a < 2 ^ 64
unfolding not_w
not_lt a = omega arith

pub shl_lt : (a k : ℕ) → shl_w a k < 2 ^ 64
unfolding shl_w
shl_lt a k = mod-lt (a * 2 ^ k) (pow_pos 64)

pub spread_lt : (a : ℕ) → spread_w a < 2 ^ 64
unfolding spread_w
spread_lt a = omega arith

pub add_lt : (a b : ℕ) → add_w a b < 2 ^ 64
unfolding add_w
add_lt a b = mod-lt (a + b) (pow_pos 64)
