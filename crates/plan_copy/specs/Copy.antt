-- Plan copy, from document 01's section "Calls and their turn-downs": "Plan copy (4 if too short; past the plan's end the output is unchanged;
-- the answer counts its words)."
use Rattle.std.specs.Prelude.{List, ◌++◌, ℕ, ltb, length, drop}
use Rattle.checks.specs.declared.answer.Answer.{Answer}
use Rattle.checks.specs.Answers.{done, refused, given, after_call}

-- the answer
abbrev pub copy_answer : List ℕ → List ℕ → Answer
copy_answer plan out = given (ltb (length out) (length plan)) (refused 4) (done (length plan) 0)

-- the output afterwards
abbrev pub copy_out : List ℕ → List ℕ → List ℕ
copy_out plan out = after_call (copy_answer plan out) (plan ++ drop (length plan) out) out
