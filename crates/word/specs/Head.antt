-- The head of a share program, from document 02's No. 7: "kind 10, d the share count, a and b zero".
use Rattle.std.specs.Prelude.{Bool, ◌&&◌, ℕ, eqb}
use Rattle.word.specs.Encoding.{field_d, put}
use Rattle.word.specs.Layout.{is_share_count}

-- the head for n shares
abbrev pub head_word : ℕ → ℕ
head_word n = put 10 n 0 0

-- whether a word is the head for some share count: one "with a count outside 2..8, is a bad word"
unfoldable pub is_head : ℕ → Bool
is_head w = is_share_count (field_d w) && eqb w (head_word (field_d w))
