-- What holds of the conversion: of a translation's words it gives what Translate gives, and behind its head a converted program runs as the
-- stored one did before there were heads.
use Rattle.std.specs.Prelude.{◌≡◌, cond, List, ◌∷◌, ℕ, suc, ◌+◌, ◌≤◌, length, take, drop}
use Rattle.word.specs.Encoding.{program_step}
use Rattle.word.specs.Layout.{is_share_count, program_max}
use Rattle.word.specs.Head.{head_word}
use Rattle.checks.specs.declared.answer.Answer.{Answer}
use Rattle.checks.specs.Answers.{first_bad, done, refused, program_checked, after_call}
use Rattle.masking.specs.Translation.{program}
use Rattle.masking.specs.Foretold.{Accepted}
use Rattle.masking.specs.Machine.{exec, rands}
use Rattle.masking.specs.Runs.{State, Run, standing, due, told, run_rest, run_answer, run_cells}
use Rattle.translation.specs.Calls.{translate_answer, translate_out}
use Rattle.add_head.specs.Conversion.{add_head_answer, add_head_out}

-- a share run of a program without a head, as document 01 has it: "Share run (2 to 6)", its check and the rest, and the cells afterwards
abbrev pub headless_answer : List ℕ → List ℕ → State → ℕ → Answer
headless_answer stored tape st budget = program_checked stored (run_rest stored tape st budget)

abbrev pub headless_cells : List ℕ → List ℕ → State → ℕ → List ℕ
headless_cells stored tape st budget =
    after_call (headless_answer stored tape st budget) (exec (due stored st.place budget) (drop st.tape_place tape) st.cells) st.cells

-- runs of a converted program, told n: from behind its head they are the headless runs from the place before; and one that begins with the head and goes
-- on by a budget is the headless run of that budget, with the head as one word more where it is done
pub record RunsConverted (n : ℕ) (stored : List ℕ) : Type 0 where
  pub behind : (tape cells : List ℕ) (place tape_place budget : ℕ)
      → run_answer (head_word n ∷ stored) tape (standing cells (suc place) tape_place) (told n budget) ≡ headless_answer stored tape (standing cells place tape_place) budget
  pub behind_cells : (tape cells : List ℕ) (place tape_place budget : ℕ)
      → run_cells (head_word n ∷ stored) tape (standing cells (suc place) tape_place) (told n budget) ≡ headless_cells stored tape (standing cells place tape_place) budget
  pub whole : (tape cells : List ℕ) (tape_place budget : ℕ)
      → (headless_answer stored tape (standing cells 0 tape_place) budget).number ≡ 0
      → run_answer (head_word n ∷ stored) tape (standing cells 0 tape_place) (told n (suc budget))
      ≡ done (suc (headless_answer stored tape (standing cells 0 tape_place) budget).words) (headless_answer stored tape (standing cells 0 tape_place) budget).tape
  pub whole_down : (tape cells : List ℕ) (tape_place budget : ℕ)
      → ((headless_answer stored tape (standing cells 0 tape_place) budget).number ≡ 0 → ⊥)
      → run_answer (head_word n ∷ stored) tape (standing cells 0 tape_place) (told n (suc budget)) ≡ headless_answer stored tape (standing cells 0 tape_place) budget
  pub whole_cells : (tape cells : List ℕ) (tape_place budget : ℕ)
      → run_cells (head_word n ∷ stored) tape (standing cells 0 tape_place) (told n (suc budget)) ≡ headless_cells stored tape (standing cells 0 tape_place) budget
  -- told another count it is turned down, as a translation is
  pub other : (tape : List ℕ) (st : State) (run : Run) → (run.count ≡ n → ⊥) → run_answer (head_word n ∷ stored) tape st run ≡ refused (cond (is_share_count run.count) 8 1)

-- a call that is done: what it wrote, and how that runs
pub record Converted (n : ℕ) (stored out : List ℕ) : Type 0 where
  pub written : take (add_head_answer n stored (length out)).words (add_head_out n stored out) ≡ head_word n ∷ stored
  pub runs : RunsConverted n stored

pub record Converts : Type 0 where
  -- every program of good words is taken where there is room, whoever wrote it
  pub takes : (n : ℕ) (stored : List ℕ) (room : ℕ) → 2 ≤ n → n ≤ 8 → length stored ≤ program_max → first_bad program_step stored ≡ length stored
      → 1 + length stored ≤ room → add_head_answer n stored room ≡ done (1 + length stored) (rands stored)
  pub done : (n : ℕ) (stored out : List ℕ) → (add_head_answer n stored (length out)).number ≡ 0 → Converted n stored out
  -- the stored words of a translation: converted they are the translation, for any output
  pub translation : (n : ℕ) (plan out : List ℕ) → Accepted n plan
      → (add_head_answer n (program n plan) (length out) ≡ translate_answer n plan (length out)) × (add_head_out n (program n plan) out ≡ translate_out n plan out)
