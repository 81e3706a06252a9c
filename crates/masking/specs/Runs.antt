-- Share run, one share step, and share runs in a row, from document 01's sections "Calls and their turn-downs" and "Share runs in a row".
use Rattle.std.specs.Prelude.{not, ◌||◌, List, [], ◌∷◌, ℕ, ◌+◌, ◌-◌, ltb, eqb, length, take, drop}
use Rattle.checks.specs.declared.answer.Answer.{Answer}
use Rattle.word.specs.Encoding.{program_step, is_good}
use Rattle.word.specs.Head.{is_head}
use Rattle.checks.specs.Answers.{done, refused, bad_at, given, after_call}
use Rattle.checks_run.specs.RunCheck.{run_checked}
use Rattle.masking.specs.Machine.{exec, rands}

-- where a share run stands: the cells, the program place and the tape place
pub record State : Type 0 where
  pub cells : List ℕ
  pub place : ℕ
  pub tape_place : ℕ

abbrev pub standing : List ℕ → ℕ → ℕ → State
standing cells place tape_place = record { cells = cells; place = place; tape_place = tape_place }

-- the words of a run: "It does the smaller of budget and words left"
abbrev pub due : List ℕ → ℕ → ℕ → List ℕ
due program place budget = take budget (drop place program)

-- "Share run (2 to 6)", by document 02's No. 7 told the reader's share count, is a check of the program (`run_checked`: 1, 2, 8, 3), "The whole
-- program is checked first.", and then the rest: "exactly 512 cells"; a place past the end of program or tape ("Place equal to the length is allowed.");
-- "6 if those steps hold more RAND than tape remains"; the counts. A head is among the words done, and is no step.
abbrev pub run_rest : List ℕ → List ℕ → State → ℕ → Answer
run_rest program tape st budget =
    given (not (eqb (length st.cells) 512)) (refused 4)
    (given (ltb (length program) st.place || ltb (length tape) st.tape_place) (refused 5)
    (given (ltb (length tape - st.tape_place) (rands (due program st.place budget))) (refused 6)
    (done (length (due program st.place budget)) (rands (due program st.place budget)))))

-- what a run is told: the reader's share count, and its budget
pub record Run : Type 0 where
  pub count : ℕ
  pub budget : ℕ

abbrev pub told : ℕ → ℕ → Run
told n budget = record { count = n; budget = budget }

abbrev pub run_answer : List ℕ → List ℕ → State → Run → Answer
run_answer program tape st run = run_checked run.count program (run_rest program tape st run.budget)

-- the cells afterwards: what those words make of them, or as they were
abbrev pub run_cells : List ℕ → List ℕ → State → Run → List ℕ
run_cells program tape st run =
    after_call (run_answer program tape st run) (exec (due program st.place run.budget) (drop st.tape_place tape) st.cells) st.cells

-- "One share step (3 to 6): a single word and a tape place, likewise.": told no count, it has a check of its own, and then the rest of a share run over
-- that word alone. "One share step accepts a head and reports one word done." (document 02, No. 7)
abbrev pub step_answer : ℕ → List ℕ → List ℕ → ℕ → Answer
step_answer word tape cells tape_place =
    given (not (is_head word || is_good (program_step word))) (bad_at 0) (run_rest (word ∷ []) tape (standing cells 0 tape_place) 1)

abbrev pub step_cells : ℕ → List ℕ → List ℕ → ℕ → List ℕ
step_cells word tape cells tape_place = after_call (step_answer word tape cells tape_place) (exec (word ∷ []) (drop tape_place tape) cells) cells

-- "In a list of share runs each gets that program and tape, the cells as the last one left them, and places moved on by the words done
-- and tape words used so far."
abbrev pub moved : List ℕ → List ℕ → State → Run → State
moved program tape st run =
    record {
      cells = run_cells program tape st run;
      place = st.place + (run_answer program tape st run).words;
      tape_place = st.tape_place + (run_answer program tape st run).tape;
    }

-- where a list of runs leaves off
abbrev pub in_arow : List ℕ → List ℕ → State → List Run → State
in_arow program tape st [] = st
in_arow program tape st (r ∷ rs) = in_arow program tape (moved program tape st r) rs

-- the runs of a list by their counts and budgets, as many as there are of both
abbrev pub runs_of : List ℕ → List ℕ → List Run
runs_of [] bs = []
runs_of (c ∷ cs) [] = []
runs_of (c ∷ cs) (b ∷ bs) = told c b ∷ runs_of cs bs

-- the sums of the words that the runs of a list report done, and of the tape words
abbrev pub words_done : List ℕ → List ℕ → State → List Run → ℕ
words_done program tape st [] = 0
words_done program tape st (r ∷ rs) = (run_answer program tape st r).words + words_done program tape (moved program tape st r) rs

abbrev pub tape_used : List ℕ → List ℕ → State → List Run → ℕ
tape_used program tape st [] = 0
tape_used program tape st (r ∷ rs) = (run_answer program tape st r).tape + tape_used program tape (moved program tape st r) rs
