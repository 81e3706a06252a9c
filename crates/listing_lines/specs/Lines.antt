-- The lines that `sharelist` writes, from document 01's section "A listed translation".
use Rattle.std.specs.Prelude.{cond, List, [], ◌∷◌, ◌++◌, ℕ, zero, suc, ◌+◌, ◌/◌, ◌%◌, ◌^◌, ltb}

-- a number in decimal digits, without leading zeros; twenty digits are enough for 64 bits
abbrev pub decimal_with : ℕ → ℕ → List ℕ
decimal_with zero n = []
decimal_with (suc k) n = cond (ltb n 10) ((48 + n) ∷ []) (decimal_with k (n / 10) ++ ((48 + n % 10) ∷ []))

unfoldable pub decimal : ℕ → List ℕ
decimal n = decimal_with 20 n

-- "one word a line, eight digits, letters as capitals"
abbrev pub hex_digit : ℕ → ℕ
hex_digit x = cond (ltb x 10) (48 + x) (55 + x)

unfoldable pub hex_line : ℕ → List ℕ
hex_line w =
    hex_digit (w / 2 ^ 28 % 16) ∷ hex_digit (w / 2 ^ 24 % 16) ∷ hex_digit (w / 2 ^ 20 % 16) ∷ hex_digit (w / 2 ^ 16 % 16)
    ∷ hex_digit (w / 2 ^ 12 % 16) ∷ hex_digit (w / 2 ^ 8 % 16) ∷ hex_digit (w / 2 ^ 4 % 16) ∷ hex_digit (w % 16) ∷ 10 ∷ []

abbrev pub hex_lines : List ℕ → List ℕ
hex_lines [] = []
hex_lines (w ∷ ws) = hex_line w ++ hex_lines ws

-- "The first line is n, share words, tape words", in the form of document 01's example. The head is among the words (document 02, No. 7).
unfoldable pub first_line : ℕ → ℕ → ℕ → List ℕ
first_line n words tape =
    (115 ∷ 104 ∷ 97 ∷ 114 ∷ 101 ∷ 115 ∷ 32 ∷ []) ++ (decimal n
    ++ ((32 ∷ 119 ∷ 111 ∷ 114 ∷ 100 ∷ 115 ∷ 32 ∷ []) ++ (decimal words
    ++ ((32 ∷ 116 ∷ 97 ∷ 112 ∷ 101 ∷ 32 ∷ []) ++ (decimal tape ++ (10 ∷ []))))))

-- "refused 2"
unfoldable pub refused_line : ℕ → List ℕ
refused_line number = (114 ∷ 101 ∷ 102 ∷ 117 ∷ 115 ∷ 101 ∷ 100 ∷ 32 ∷ []) ++ (decimal number ++ (10 ∷ []))
