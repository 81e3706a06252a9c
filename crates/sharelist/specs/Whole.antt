-- When the bytes read from standard input are enough to list it by: document 01, "more than 8,193 bytes or a broken last word prints
-- `refused 2`". A read's own answer is what POSIX says of one that has room: how many bytes it gave, 0 at the end of the input, negative where it
-- failed. The standard library's `read` bounds the count and says no more of a stream: that an answer is the read's own, and the bytes those of the
-- input, is read off `read_more`.
use Rattle.std.specs.Prelude.{◌≡◌, ◌⊎◌, List, ℕ, ◌+◌, ◌-◌, ◌<◌, length, take, ℤ, pos, negsuc, ◌<ℤ◌}
use Rattle.io.specs.Counts.{clamp_len}
use Rattle.listing_input.specs.Input.{input_max}

-- POSIX's number of standard input
abbrev pub standard_input : ℤ
standard_input = pos 0

-- `count` bytes are there and the last read answered `last`: it was at the end of the input, or there are more bytes than a listed input has.
-- Never where that read failed.
abbrev pub Whole : ℕ → ℤ → Type 0
Whole count (pos given) = (given ≡ 0) ⊎ (input_max < count)
Whole count (negsuc k) = ⊥

-- what is known where reading stops: the last read failed, or the input is whole
abbrev pub WasRead : ℕ → ℤ → Type 0
WasRead count last = (last <ℤ pos 0) ⊎ Whole count last

-- one read more, behind `count` bytes: these stay, and as many are there besides as the read answered
pub record MoreRead (before : List ℕ) (count : ℕ) (after : List ℕ) (now_there : ℕ) (last : ℤ) : Type 0 where
  pub size : length after ≡ length before
  pub kept : take count after ≡ take count before
  pub counted : now_there ≡ count + clamp_len last (length before - count)
