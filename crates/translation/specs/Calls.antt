-- Measure and Translate, from document 01's section "Calls and their turn-downs".
use Rattle.std.specs.Prelude.{not, List, ◌++◌, ℕ, ◌+◌, ltb, length, drop}
use Rattle.checks.specs.declared.answer.Answer.{Answer}
use Rattle.word.specs.Layout.{is_share_count}
use Rattle.checks.specs.Answers.{done, refused, given, plan_checked, after_call}
use Rattle.masking.specs.Translation.{headed}
use Rattle.masking.specs.Foretold.{foretold_words, foretold_tape}

-- 1 "share count not 2..8", then the check of the plan; else what comes next
unfoldable pub plan_for : ℕ → List ℕ → Answer → Answer
plan_for n plan next = given (not (is_share_count n)) (refused 1) (plan_checked plan next)

-- "Measure (1, 2, 3): share words and tape words of a plan." The head is among the words: "Lengths .. grow by one" (document 02, No. 7).
abbrev pub measured : ℕ → List ℕ → Answer
measured n plan = done (1 + foretold_words n plan) (foretold_tape n plan)

abbrev pub measure_answer : ℕ → List ℕ → Answer
measure_answer n plan = plan_for n plan (measured n plan)

-- "Translate (1 to 4): output shorter than measured is 4"; "Translate's [counts] are Measure's"; `room` is the output's length
abbrev pub translate_answer : ℕ → List ℕ → ℕ → Answer
translate_answer n plan room = plan_for n plan (given (ltb room (1 + foretold_words n plan)) (refused 4) (measured n plan))

-- the share program, head first, at the front; "longer output stays unchanged past the end"
abbrev pub translate_out : ℕ → List ℕ → List ℕ → List ℕ
translate_out n plan out =
    after_call (translate_answer n plan (length out)) (headed n plan ++ drop (length (headed n plan)) out) out
