-- The program `sharelist`, from document 01's section "A listed translation": the bytes that it writes for its input bytes.
use Rattle.std.specs.Prelude.{◌≡◌, cond, List, [], ◌∷◌, ◌++◌, ℕ, ◌+◌, ◌<◌, eqb, length, take}
use Rattle.masking.specs.Translation.{headed}
use Rattle.listing_lines.specs.Lines.{hex_lines, first_line, refused_line}
use Rattle.listing_input.specs.Input.{list_answer, input_max, count_of, plan_read}

-- all that it writes: the first line and a line for each word of the share program, its head first, or the refusal
unfoldable pub listing : List ℕ → List ℕ
listing input =
    cond (eqb (list_answer input).number 0)
    (first_line (count_of input) (list_answer input).words (list_answer input).tape ++ hex_lines (headed (count_of input) (plan_read input)))
    (refused_line (list_answer input).number)

-- "more than 8,193 bytes": the first 8,194 of such an input are enough to know what is written
abbrev pub LongInputs : Type 0
LongInputs = (input : List ℕ) → input_max < length input → listing (take (1 + input_max) input) ≡ listing input

-- the document's example with document 02's No. 7, "words 3 and a line A0080000 before its steps": bytes 02 01 00 08 20 give the lines
-- "shares 2 words 3 tape 0", "A0080000", "20080001" and "20884021"
abbrev pub ExampleListed : Type 0
ExampleListed =
    listing (0x02 ∷ 0x01 ∷ 0x00 ∷ 0x08 ∷ 0x20 ∷ [])
    ≡ (115 ∷ 104 ∷ 97 ∷ 114 ∷ 101 ∷ 115 ∷ 32 ∷ 50 ∷ 32 ∷ 119 ∷ 111 ∷ 114 ∷ 100 ∷ 115 ∷ 32 ∷ 51 ∷ 32 ∷ 116 ∷ 97 ∷ 112 ∷ 101 ∷ 32 ∷ 48 ∷ 10 ∷ [])
    ++ ((65 ∷ 48 ∷ 48 ∷ 56 ∷ 48 ∷ 48 ∷ 48 ∷ 48 ∷ 10 ∷ [])
    ++ ((50 ∷ 48 ∷ 48 ∷ 56 ∷ 48 ∷ 48 ∷ 48 ∷ 49 ∷ 10 ∷ [])
    ++ (50 ∷ 48 ∷ 56 ∷ 56 ∷ 52 ∷ 48 ∷ 50 ∷ 49 ∷ 10 ∷ [])))
