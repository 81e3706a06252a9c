-- The lines of a plan's words, part by part.
use Rattle.std.specs.Prelude.{◌≡◌, cond, List, [], ◌∷◌, ◌++◌, ℕ, suc, ◌+◌, ◌-◌, ◌*◌, ltb, length, take, drop}
use Rattle.word.specs.Encoding.{plan_step}
use Rattle.word.specs.Layout.{word_max, is_share_count}
use Rattle.checks.specs.Answers.{kept_unless}
use Rattle.masking.specs.Translation.{words_for}
use Rattle.listing_lines.specs.Lines.{hex_lines}
use Rattle.listing_lines.specs.Writing.{Wrote}

-- the lines of one plan word's share words; a bad word has none, and where n is no share count there are none
unfoldable pub word_lines : ℕ → ℕ → List ℕ
word_lines n w = kept_unless (is_share_count n) (hex_lines (words_for n (plan_step w))) []

-- the lines of each plan word in turn
abbrev pub lines_of : ℕ → List ℕ → List ℕ
lines_of n [] = []
lines_of n (w ∷ ws) = word_lines n w ++ lines_of n ws

-- the most bytes that a plan word's lines take, nine for each of its share words
abbrev pub word_bytes : ℕ
word_bytes = 9 * word_max

-- how many words of a plan are listed into `room` bytes: as many as begin while `word_bytes` are left
abbrev pub fit_count : ℕ → List ℕ → ℕ → ℕ
fit_count n [] room = 0
fit_count n (w ∷ ws) room = cond (ltb room word_bytes) 0 (suc (fit_count n ws (room - length (word_lines n w))))

-- a part of the listing: the lines of the plan's words from one on, as many as `fit_count` says, with the next word's number
pub record ListsPart (n : ℕ) (plan : List ℕ) (from : ℕ) (out after : List ℕ) (next bytes : ℕ) : Type 0 where
  pub moved : next ≡ from + fit_count n (drop from plan) (length out)
  pub lines : Wrote (lines_of n (take (fit_count n (drop from plan) (length out)) (drop from plan))) out after bytes
