-- The conversion, from document 02's No. 7: "A conversion puts the head before a stored program, in which a head is a bad word, given its count; it
-- is turned down and counts as a translation does, with 2 above 8,257,536 words."
use Rattle.std.specs.Prelude.{not, List, ◌∷◌, ◌++◌, ℕ, ◌+◌, ltb, length, drop}
use Rattle.word.specs.Layout.{is_share_count}
use Rattle.word.specs.Head.{head_word}
use Rattle.checks.specs.declared.answer.Answer.{Answer}
use Rattle.checks.specs.Answers.{done, refused, given, program_checked, after_call}
use Rattle.masking.specs.Machine.{rands}

-- 1; 2 and 3 of the stored words, of which none may be a head; 4 where the output is shorter than words and head; Translate's counts, the words with the
-- head and the tape words, which are the RANDs
abbrev pub add_head_answer : ℕ → List ℕ → ℕ → Answer
add_head_answer n stored room =
    given (not (is_share_count n)) (refused 1)
    (program_checked stored
    (given (ltb room (1 + length stored)) (refused 4)
    (done (1 + length stored) (rands stored))))

-- the head and the stored words at the front; output past them is unchanged, as Translate's is
abbrev pub add_head_out : ℕ → List ℕ → List ℕ → List ℕ
add_head_out n stored out =
    after_call (add_head_answer n stored (length out)) ((head_word n ∷ stored) ++ drop (1 + length stored) out) out
