-- The listing piece by piece: the first line and the head's or the refusal, then the lines of plan words.
use Rattle.std.specs.Prelude.{◌≡◌, Bool, cond, List, [], ◌++◌, ℕ, zero, suc, ◌+◌, ◌≤◌, leb, eqb, length, take, drop}
use Rattle.word.specs.Head.{head_word}
use Rattle.word.specs.Layout.{plan_max}
use Rattle.checks.specs.Answers.{kept_unless}
use Rattle.listing_lines.specs.Lines.{hex_line, first_line, refused_line}
use Rattle.listing_lines.specs.Writing.{fitting, Wrote}
use Rattle.listing_input.specs.Input.{list_answer, count_of, plan_read}
use Rattle.listing_parts.specs.Parts.{lines_of, word_bytes, fit_count}
use Rattle.listing.specs.Sharelist.{listing}

-- the plan words that are listed: none where the input is turned down
unfoldable pub listed_words : List ℕ → List ℕ
listed_words input = kept_unless (eqb (list_answer input).number 0) (plan_read input) []

-- what stands before the plan's words: the first line and the head's, "a line A0080000 before its steps" (document 02, No. 7)
abbrev pub opening_lines : ℕ → ℕ → ℕ → List ℕ
opening_lines n words tape = first_line n words tape ++ hex_line (head_word n)

-- these, or the line of the turn-down
unfoldable pub opening_of : List ℕ → List ℕ
opening_of input =
    cond (eqb (list_answer input).number 0)
    (opening_lines (count_of input) (list_answer input).words (list_answer input).tape)
    (refused_line (list_answer input).number)

-- how many words piece k + 1 lists into `room` bytes, from word k on
abbrev pub piece_count : ℕ → List ℕ → ℕ → ℕ
piece_count room input k = fit_count (count_of input) (drop k (listed_words input)) room

-- piece 0 is the first line and the head's or the refusal, and piece k + 1 has the lines from word k on. Past the last word, and so in every
-- piece but 0 of an input that is turned down, there is nothing.
unfoldable pub piece_text : ℕ → List ℕ → ℕ → List ℕ
piece_text room input zero = opening_of input
piece_text room input (suc k) = lines_of (count_of input) (take (piece_count room input k) (drop k (listed_words input)))

-- the words that are listed once a piece is: none by piece 0
unfoldable pub words_listed : ℕ → List ℕ → ℕ → ℕ
words_listed room input zero = 0
words_listed room input (suc k) = k + piece_count room input k

-- the piece that goes on from there, 1 behind piece 0; behind a later one that lists no word, the same piece again
abbrev pub piece_next : ℕ → List ℕ → ℕ → ℕ
piece_next room input from = suc (words_listed room input from)

-- no word is left
abbrev pub piece_last : ℕ → List ℕ → ℕ → Bool
piece_last room input from = leb (length (listed_words input)) (words_listed room input from)

-- a piece is written, with the number of the next one and whether it is the last
pub record ListsPiece (input : List ℕ) (from : ℕ) (out after : List ℕ) (bytes next : ℕ) (last : Bool) : Type 0 where
  pub text : Wrote (piece_text (length out) input from) out after bytes
  pub moved : next ≡ piece_next (length out) input from
  pub ends : last ≡ piece_last (length out) input from

-- what is written with `room` bytes for each piece: pieces in turn up to the last, `turns` of them at most
abbrev pub pieces_from : ℕ → ℕ → List ℕ → ℕ → List ℕ
pieces_from zero room input from = []
pieces_from (suc turns) room input from =
    fitting (piece_text room input from) room
    ++ cond (piece_last room input from) [] (pieces_from turns room input (piece_next room input from))

-- from piece 0 on that is the listing: enough turns are one for the first line and the head's, and one for each word of the longest plan
abbrev pub PiecesAreListing : Type 0
PiecesAreListing = (room : ℕ) → word_bytes ≤ room → (input : List ℕ) → pieces_from (1 + plan_max) room input 0 ≡ listing input
