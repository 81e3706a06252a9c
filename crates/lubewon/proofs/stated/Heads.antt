-- The claims on the head of a share program and on the conversion of a stored one, field by field, over the machines' own definitions. What is
-- narrowed, halved or asks for more fails here.
use Rattle.std.specs.Prelude.{None}
use mathlib.Core.Path.{◌≡◌}
use mathlib.Core.Bool.{◌&&◌, cond}
use mathlib.Core.List.{List, ◌∷◌}
use Prim.Native.Nat.{ℕ, suc, ◌+◌, ◌/◌, ◌%◌, ◌^◌, ◌≤◌}
use lib.Dec.{T, leb}
use lib.ListN.{length, take, drop}
use Rattle.word.specs.Encoding.{plan_step, program_step, put}
use Rattle.word.specs.Head.{is_head}
use Rattle.word.specs.Layout.{program_max}
use Rattle.checks.specs.declared.answer.Answer.{Answer}
use Rattle.checks.specs.Answers as answers
use Rattle.masking.specs.Translation.{program}
use Rattle.masking.specs.Foretold.{Accepted}
use Rattle.masking.specs.Machine.{exec, rands}
use Rattle.masking.specs.Runs.{State, Run, standing, told, run_rest, run_answer, run_cells, step_answer, step_cells}
use Rattle.masking.specs.Head.{HeadHolds, HeadsHold}
use Rattle.translation.specs.Calls.{translate_answer, translate_out}
use Rattle.add_head.specs.Conversion.{add_head_answer, add_head_out}
use Rattle.add_head.specs.Converts.{RunsConverted, Converted, Converts}
use Rattle.lubewon.specs.Claims.{Claims}

-- kind 10, d the share count, a and b zero
module _ (n : ℕ) where
  abbrev head : ℕ
  head = put 10 n 0 0

  module _ (h : HeadHolds n) where
    head_cells : (words tape cells : List ℕ) → exec (head ∷ words) tape cells ≡ exec words tape cells
    head_cells = h.cells

    head_tape : (words : List ℕ) → rands (head ∷ words) ≡ rands words
    head_tape = h.tape

    head_step : (tape cells : List ℕ) (place : ℕ) → length cells ≡ 512 → place ≤ length tape → step_answer head tape cells place ≡ answers.done 1 0
    head_step = h.step

    head_step_cells : (tape cells : List ℕ) (place : ℕ) → step_cells head tape cells place ≡ cells
    head_step_cells = h.step_cells_is

    head_kind : head / 2 ^ 28 ≡ 10
    head_kind = h.kind

    head_count : head / 2 ^ 18 % 512 ≡ n
    head_count = h.count

    head_zero : (head / 2 ^ 27 % 2 ≡ 0) × (head / 2 ^ 9 % 512 ≡ 0) × (head % 512 ≡ 0)
    head_zero = h.zero

    head_head : T (is_head head)
    head_head = h.head

  -- ---- a stored program: its run without a head, and with it
  module _ (stored : List ℕ) where
    abbrev answered : List ℕ → List ℕ → ℕ → ℕ → ℕ → Answer
    answered tape cells place t b = answers.program_checked stored (run_rest stored tape (standing cells place t) b)

    abbrev leaves : List ℕ → List ℕ → ℕ → ℕ → ℕ → List ℕ
    leaves tape cells place t b = answers.after_call (answered tape cells place t b) (exec (take b (drop place stored)) (drop t tape) cells) cells

    module _ (h : RunsConverted n stored) where
      converted_behind : (tape cells : List ℕ) (place t b : ℕ) → run_answer (head ∷ stored) tape (standing cells (suc place) t) (told n b) ≡ answered tape cells place t b
      converted_behind = h.behind

      converted_behind_cells : (tape cells : List ℕ) (place t b : ℕ) → run_cells (head ∷ stored) tape (standing cells (suc place) t) (told n b) ≡ leaves tape cells place t b
      converted_behind_cells = h.behind_cells

      converted_whole : (tape cells : List ℕ) (t b : ℕ) → (answered tape cells 0 t b).number ≡ 0
          → run_answer (head ∷ stored) tape (standing cells 0 t) (told n (suc b)) ≡ answers.done (suc (answered tape cells 0 t b).words) (answered tape cells 0 t b).tape
      converted_whole = h.whole

      converted_whole_down : (tape cells : List ℕ) (t b : ℕ) → ((answered tape cells 0 t b).number ≡ 0 → ⊥)
          → run_answer (head ∷ stored) tape (standing cells 0 t) (told n (suc b)) ≡ answered tape cells 0 t b
      converted_whole_down = h.whole_down

      converted_whole_cells : (tape cells : List ℕ) (t b : ℕ) → run_cells (head ∷ stored) tape (standing cells 0 t) (told n (suc b)) ≡ leaves tape cells 0 t b
      converted_whole_cells = h.whole_cells

      converted_other : (tape : List ℕ) (st : State) (r : Run) → (r.count ≡ n → ⊥)
          → run_answer (head ∷ stored) tape st r ≡ answers.refused (cond (leb 2 r.count && leb r.count 8) 8 1)
      converted_other = h.other

    module _ (out : List ℕ) (h : Converted n stored out) where
      converted_written : take (add_head_answer n stored (length out)).words (add_head_out n stored out) ≡ head ∷ stored
      converted_written = h.written

      converted_runs : RunsConverted n stored
      converted_runs = h.runs

module _ (h : HeadsHold) where
  heads_each : (n : ℕ) → 2 ≤ n → n ≤ 8 → HeadHolds n
  heads_each = h.each

  heads_only : (w : ℕ) → T (is_head w) → (2 ≤ w / 2 ^ 18 % 512) × (w / 2 ^ 18 % 512 ≤ 8) × (w ≡ put 10 (w / 2 ^ 18 % 512) 0 0)
  heads_only = h.only

  heads_past : (w : ℕ) → w / 2 ^ 28 ≡ 10 → (program_step w ≡ None) × (plan_step w ≡ None)
  heads_past = h.past

  heads_behind : (program tape : List ℕ) (st : State) (r : Run) → (run_answer program tape st r).number ≡ 3 → 1 ≤ (run_answer program tape st r).place
  heads_behind = h.behind

module _ (h : Converts) where
  converts_takes : (n : ℕ) (stored : List ℕ) (room : ℕ) → 2 ≤ n → n ≤ 8 → length stored ≤ program_max → answers.first_bad program_step stored ≡ length stored
      → 1 + length stored ≤ room → add_head_answer n stored room ≡ answers.done (1 + length stored) (rands stored)
  converts_takes = h.takes

  converts_done : (n : ℕ) (stored out : List ℕ) → (add_head_answer n stored (length out)).number ≡ 0 → Converted n stored out
  converts_done = h.done

  converts_translation : (n : ℕ) (plan out : List ℕ) → Accepted n plan
      → (add_head_answer n (program n plan) (length out) ≡ translate_answer n plan (length out)) × (add_head_out n (program n plan) out ≡ translate_out n plan out)
  converts_translation = h.translation

module _ (C : Claims) where
  heads_hold : HeadsHold
  heads_hold = C.heads_hold

  converts : Converts
  converts = C.converts
