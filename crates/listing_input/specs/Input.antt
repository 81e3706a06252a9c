-- What `sharelist` makes of its input bytes, from document 01's section "A listed translation".
use Rattle.std.specs.Prelude.{not, ◌||◌, List, [], ◌∷◌, ℕ, ◌+◌, ◌*◌, ◌%◌, ltb, eqb, length}
use Rattle.checks.specs.declared.answer.Answer.{Answer}
use Rattle.word.specs.Layout.{plan_max, is_share_count}
use Rattle.checks.specs.Answers.{refused, given}
use Rattle.translation.specs.Calls.{measure_answer}

-- "plan words, least byte first"
abbrev pub words_of : List ℕ → List ℕ
words_of [] = []
words_of (a ∷ []) = []
words_of (a ∷ b ∷ []) = []
words_of (a ∷ b ∷ c ∷ []) = []
words_of (a ∷ b ∷ c ∷ d ∷ rest) = (a + 256 * b + 65536 * c + 16777216 * d) ∷ words_of rest

-- "reads n as one byte": "no byte at all or a bad n `refused 1`", "more than 8,193 bytes or a broken last word prints `refused 2`", "other
-- turn-downs likewise, in the calls' order"
unfoldable pub list_answer : List ℕ → Answer
list_answer [] = refused 1
list_answer (n ∷ rest) =
    given (not (is_share_count n)) (refused 1)
    (given (ltb (4 * plan_max) (length rest) || not (eqb (length rest % 4) 0)) (refused 2)
    (measure_answer n (words_of rest)))

-- "8,193 bytes": n, and the longest plan's
abbrev pub input_max : ℕ
input_max = 1 + 4 * plan_max

-- the share count and the plan of an input
abbrev pub count_of : List ℕ → ℕ
count_of [] = 0
count_of (n ∷ rest) = n

abbrev pub plan_read : List ℕ → List ℕ
plan_read [] = []
plan_read (n ∷ rest) = words_of rest
