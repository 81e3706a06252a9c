-- Plain run, from document 01's section "Calls and their turn-downs": "Plain run (2, 3, 4): exactly 32 cells."
use Rattle.std.specs.Prelude.{not, List, ℕ, eqb, length}
use Rattle.checks.specs.declared.answer.Answer.{Answer}
use Rattle.checks.specs.Answers.{done, refused, given, plan_checked, after_call}
use Rattle.plain.specs.Machine.{run}

-- the answer to a plan and a number of cells; it names no counts
unfoldable pub plain_answer : List ℕ → ℕ → Answer
plain_answer plan cells =
    plan_checked plan (given (not (eqb cells 32)) (refused 4) (done 0 0))

-- the cells afterwards
abbrev pub plain_cells : List ℕ → List ℕ → List ℕ
plain_cells plan cells = after_call (plain_answer plan (length cells)) (run plan cells) cells
