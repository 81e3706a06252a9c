-- Places and lengths, from document 01's sections "Step words" and "Translation for n shares" and document 02's No. 4 and No. 7: limits, share and
-- scratch cells, and the words and tape words that a plan word of each kind translates to.
use Rattle.std.specs.Prelude.{Bool, cond, ◌&&◌, ℕ, ◌+◌, ◌-◌, ◌*◌, ◌/◌, eqb, leb}

-- whether n shares can be: number 1 is "share count not 2..8"
abbrev pub most_shares : ℕ
most_shares = 8

abbrev pub is_share_count : ℕ → Bool
is_share_count n = leb 2 n && leb n most_shares

-- "Share i of register r is cell 32i + r."
abbrev pub cell : ℕ → ℕ → ℕ
cell i r = 32 * i + r

-- "y (cells 256 + i)", "z_i (cell 264 + i)", "t (cell 272)", "u (cell 273)"
abbrev pub cell_y : ℕ → ℕ
cell_y i = 256 + i

abbrev pub cell_z : ℕ → ℕ
cell_z i = 264 + i

abbrev pub cell_t : ℕ
cell_t = 272

abbrev pub cell_u : ℕ
cell_u = 273

-- "share i of helper h (0..3) is cell 288 + 8i + h"
abbrev pub helper : ℕ → ℕ → ℕ
helper i h = 288 + 8 * i + h

-- "Q = n(n−1)/2"
abbrev pub pair_count : ℕ → ℕ
pair_count n = n * (n - 1) / 2

-- share words of AND and of ADD, by document 02, No. 4: "Its length becomes 5n² + 2, ADD's 60n² + 21n + 24" (document 01, where AND does
-- not wipe its scratch, has 5n² − 2n and 60n² − 3n)
abbrev pub and_length : ℕ → ℕ
and_length n = 5 * (n * n) + 2

abbrev pub add_length : ℕ → ℕ
add_length n = 60 * (n * n) + 21 * n + 24

-- share words of a plan word by its kind; the others "Each n words". No plan word has a kind outside 1 to 8; n stands there too.
unfoldable pub length_of : ℕ → ℕ → ℕ
length_of k n = cond (eqb k 3) (and_length n) (cond (eqb k 8) (add_length n) n)

-- tape words likewise: AND "2Q tape words", ADD "24Q tape words", others "no tape"
unfoldable pub tape_of : ℕ → ℕ → ℕ
tape_of k n = cond (eqb k 3) (2 * pair_count n) (cond (eqb k 8) (24 * pair_count n) 0)

-- "A plan has 0..2,048 words"
abbrev pub plan_max : ℕ
plan_max = 2048

-- the most share words that a plan word gives, and that a plan gives, without the head: "the longest share program 8,257,536 words" (document
-- 02, No. 4, for document 01's "A share program has 0..7,815,168 words")
abbrev pub word_max : ℕ
word_max = add_length most_shares

abbrev pub program_max : ℕ
program_max = plan_max * word_max

-- with the head before it: "Lengths and the limit grow by one" (document 02, No. 7)
abbrev pub headed_max : ℕ
headed_max = 1 + program_max
