-- The check of a run's program, from document 02's No. 7: the reader's share count, and the head that the program begins with.
use Rattle.std.specs.Prelude.{Bool, false, not, List, [], ◌∷◌, ℕ, ◌+◌, eqb, ltb, length, drop}
use Rattle.word.specs.Encoding.{program_step}
use Rattle.word.specs.Layout.{is_share_count, headed_max}
use Rattle.word.specs.Head.{head_word}
use Rattle.checks.specs.declared.answer.Answer.{Answer}
use Rattle.checks.specs.Answers.{first_bad, refused, bad_at, given}

-- whether a program's first word is the head with the reader's count n; an empty program has no first word
abbrev pub has_head : ℕ → List ℕ → Bool
has_head n [] = false
has_head n (w ∷ ws) = eqb w (head_word n)

-- the place of the first bad word behind the head, from 0 at the head: "A head past place 0 .. is a bad word", as `program_step` has no kind 10
abbrev pub first_bad_behind : List ℕ → ℕ
first_bad_behind program = 1 + first_bad program_step (drop 1 program)

-- the check, else what comes next. "A share run is now told the reader's share count, and 1 applies to it"; 2, where "the limit [grows] by one"; "new 8,
-- when a run's program is empty or its first word is no head with the reader's count; it comes after 2 and before 3"; 3.
unfoldable pub run_checked : ℕ → List ℕ → Answer → Answer
run_checked n program next =
    given (not (is_share_count n)) (refused 1)
    (given (ltb headed_max (length program)) (refused 2)
    (given (not (has_head n program)) (refused 8)
    (given (ltb (first_bad_behind program) (length program)) (bad_at (first_bad_behind program))
    next)))
