-- The claims on translations and share runs, field by field, over the machines' own definitions: counts, demand 3, what Translate writes, what a plan
-- reads, and the two wrong translations. What is narrowed, halved or asks for more fails here.
use mathlib.Core.Path.{◌≡◌}
use mathlib.Core.Bool.{Bool, ◌||◌, ◌&&◌, cond}
use mathlib.Core.Logic.{◌⊎◌, inl, inr}
use mathlib.Core.List.{List, [], ◌∷◌, ◌++◌}
use Prim.Native.Nat.{ℕ, zero, suc, ◌+◌, ◌-◌, ◌*◌, ◌≤◌, ◌<◌, min}
use native.Mathlib.Omega.{arith}
use lib.Dec.{T, leb, eqb}
use lib.ListN.{length, get_or, take, drop}
use Rattle.bits.specs.Ops.{not_w}
use Rattle.word.specs.declared.step.Step.{Step}
use Rattle.word.specs.Encoding.{kind_of, kind_number, field_d, program_step, in_plan, in_program}
use Rattle.word.specs.Table.{naming}
use Rattle.word.specs.Layout.{length_of, tape_of, program_max, headed_max}
use Rattle.word.specs.Head.{head_word}
use Rattle.checks.specs.Answers as answers
use Rattle.plain.specs.Machine.{run}
use Rattle.masking.specs.Translation.{scratch, scratch_cells, translated, program}
use Rattle.masking.specs.Foretold.{Accepted, foretold_words, foretold_tape}
use Rattle.masking.specs.Machine.{Start, exec, exec_steps, rands, rands_of}
use Rattle.masking.specs.Runs.{State, Run, standing, run_answer, moved, in_arow, words_done, tape_used}
use Rattle.masking.specs.Unsplit.{joined, unsplit}
use Rattle.masking.specs.Counts.{used_cell, all_of, StepCounts, PlanCounts, Counts}
use Rattle.masking.specs.Wiped.{holds_and_or_add, Wiped}
use Rattle.masking.specs.Secrecy.{Secret}
use Rattle.masking.specs.Demand3.{EachRun, InARow, Demand3}
use Rattle.checks.specs.Unset.{known_after, member_of, reads_only}
use Rattle.masking.specs.Reads.{KnownDecide}
use Rattle.masking.specs.WipedFirst.{wiped_first}
use Rattle.masking.specs.EveryShare.{not_in_every, const_in_every, JoinsWrongly}
use Rattle.masking.proofs.emitted.Tests.{or_right}
use Rattle.translation.specs.Calls.{measured, translate_answer, translate_out}
use Rattle.translation.specs.Tied.{Tied, TranslateTied}
use Rattle.lubewon.specs.Claims.{Claims}
use Rattle.lubewon.proofs.stated.Conditions.{AllWords}

-- ---- counts

module _ {n : ℕ} {s : Step} (h : StepCounts n s) where
  step_counts_words : length (translated n s) ≡ length_of (kind_number s) n
  step_counts_words = h.words

  step_counts_tape : rands_of (translated n s) ≡ tape_of (kind_number s) n
  step_counts_tape = h.tape

  step_counts_good : T (all_of in_program (translated n s))
  step_counts_good = h.good

  step_counts_cells : T (all_of (naming (used_cell n)) (translated n s))
  step_counts_cells = h.cells

module _ {n : ℕ} {plan : List ℕ} (h : PlanCounts n plan) where
  plan_counts_words : length (program n plan) ≡ foretold_words n plan
  plan_counts_words = h.words

  plan_counts_tape : rands (program n plan) ≡ foretold_tape n plan
  plan_counts_tape = h.tape

  plan_counts_good : answers.first_bad program_step (program n plan) ≡ length (program n plan)
  plan_counts_good = h.good

  plan_counts_longest : length (program n plan) ≤ program_max
  plan_counts_longest = h.longest

module _ (h : Counts) where
  counts_step : (n : ℕ) → 2 ≤ n → n ≤ 8 → (s : Step) → T (in_plan s) → StepCounts n s
  counts_step = h.step

  counts_plan : (n : ℕ) (plan : List ℕ) → Accepted n plan → PlanCounts n plan
  counts_plan = h.plan

  counts_at_2 : (length_of 3 2 ≡ 22) × (tape_of 3 2 ≡ 2) × (length_of 8 2 ≡ 306) × (tape_of 8 2 ≡ 24)
  counts_at_2 = h.at_2

  counts_at_8 : (length_of 3 8 ≡ 322) × (tape_of 3 8 ≡ 56) × (length_of 8 8 ≡ 4032) × (tape_of 8 8 ≡ 672)
  counts_at_8 = h.at_8

  counts_limit : program_max ≡ 8257536
  counts_limit = h.limit

  counts_headed_limit : headed_max ≡ 8257537
  counts_headed_limit = h.headed_limit

  counts_scratch : (n : ℕ) → length (scratch_cells scratch n) ≡ 2 * n + 2
  counts_scratch = h.scratch_count

-- ---- demand 3

-- each run: 1 or 8 where it is told another count, and nothing moves; 6 where its words hold more RAND than tape remains, and nothing moves; else the
-- smaller of budget and words left
module _ {n : ℕ} {P tape : List ℕ} {st : State} {r : Run} (h : EachRun n P tape st r) where
  each_run_other : (r.count ≡ n → ⊥) → (run_answer P tape st r ≡ answers.refused (cond (leb 2 r.count && leb r.count 8) 8 1)) × (moved P tape st r ≡ st)
  each_run_other = h.other

  each_run_short : r.count ≡ n → length tape - st.tape_place < rands (take r.budget (drop st.place P))
      → (run_answer P tape st r ≡ answers.refused 6) × (moved P tape st r ≡ st)
  each_run_short = h.short

  each_run_else : r.count ≡ n → rands (take r.budget (drop st.place P)) ≤ length tape - st.tape_place
      → run_answer P tape st r ≡ answers.done (min r.budget (length P - st.place)) (rands (take r.budget (drop st.place P)))
  each_run_else = h.else

-- AND's scratch cells
module _ {n : ℕ} {cells : List ℕ} (h : Wiped n cells) where
  wiped_y : (i : ℕ) → i < n → get_or cells (256 + i) 0 ≡ 0
  wiped_y = h.y

  wiped_z : (i : ℕ) → i < n → get_or cells (264 + i) 0 ≡ 0
  wiped_z = h.z

  wiped_t : get_or cells 272 0 ≡ 0
  wiped_t = h.t

  wiped_u : get_or cells 273 0 ≡ 0
  wiped_u = h.u

-- a plan one of whose words is AND or ADD passes the test for it
holds : (plan : List ℕ) (j : ℕ) → j < length plan → (kind_of (get_or plan j 0) ≡ 3) ⊎ (kind_of (get_or plan j 0) ≡ 8) → T (holds_and_or_add plan)
holds [] j l h = absurd (omega arith)
holds (w ∷ ws) zero l (inl e) = rw e tt
holds (w ∷ ws) zero l (inr e) = rw e tt
holds (w ∷ ws) (suc j) l h = or_right (eqb (kind_of w) 3 || eqb (kind_of w) 8) (holds_and_or_add ws) (holds ws j (omega arith) h)

-- a list of runs: the cells and places after it, its sums, joined registers, wiped scratch cells, and tape enough
module _ (n : ℕ) (plan start tape : List ℕ) (place : ℕ) where
  abbrev P : List ℕ
  P = head_word n ∷ program n plan

  abbrev after : List Run → State
  after rs = in_arow P tape (standing start 0 place) rs

  abbrev m : List Run → ℕ
  m rs = words_done P tape (standing start 0 place) rs

  abbrev used : List Run → ℕ
  used rs = tape_used P tape (standing start 0 place) rs

  module _ (rs : List Run) (h : InARow n plan start tape place rs) where
    in_a_row_each : (before rest : List Run) (r : Run) → rs ≡ before ++ (r ∷ rest) → EachRun n P tape (after before) r
    in_a_row_each = h.each

    in_a_row_cells : (after rs).cells ≡ exec (take (m rs) P) (drop place tape) start
    in_a_row_cells = h.cells

    in_a_row_rand : used rs ≡ rands (take (m rs) P)
    in_a_row_rand = h.rand

    in_a_row_size : length (after rs).cells ≡ 512
    in_a_row_size = h.size

    in_a_row_place : (after rs).place ≡ m rs
    in_a_row_place = h.place

    in_a_row_tape_moved : (after rs).tape_place ≡ place + used rs
    in_a_row_tape_moved = h.tape_moved

    in_a_row_joins : (k : ℕ) → m rs ≡ suc (length (program n (take k plan))) → (r : ℕ) → r < 32
        → joined n (after rs).cells r ≡ get_or (run (take k plan) (unsplit n start)) r 0
    in_a_row_joins = h.joins

    in_a_row_foretold : (k : ℕ) → m rs ≡ suc (length (program n (take k plan))) → used rs ≡ foretold_tape n (take k plan)
    in_a_row_foretold = h.foretold

    in_a_row_none : m rs ≡ 0 → (after rs).cells ≡ start
    in_a_row_none = h.none

    in_a_row_none_joins : m rs ≡ 0 → (r : ℕ) → r < 32 → joined n (after rs).cells r ≡ get_or (unsplit n start) r 0
    in_a_row_none_joins = h.none_joins

    in_a_row_none_used : m rs ≡ 0 → used rs ≡ 0
    in_a_row_none_used = h.none_used

    in_a_row_wiped_whole : m rs ≡ length P → T (holds_and_or_add plan) → Wiped n (after rs).cells
    in_a_row_wiped_whole = h.wiped_whole

    in_a_row_wiped : (k : ℕ) → m rs ≡ suc (length (program n (take k plan))) → T (holds_and_or_add (take k plan)) → Wiped n (after rs).cells
    in_a_row_wiped = h.wiped

    in_a_row_enough : foretold_tape n plan ≤ length tape - place → (before rest : List Run) (r : Run) → rs ≡ before ++ (r ∷ rest)
        → r.count ≡ n → (run_answer P tape (after before) r).number ≡ 0
    in_a_row_enough = h.enough

module _ {n : ℕ} {plan : List ℕ} (h : Demand3 n plan) where
  demand3_runs : (start tape : List ℕ) → Start start → AllWords tape → (place : ℕ) → place ≤ length tape
      → (list : List Run) → InARow n plan start tape place list
  demand3_runs = h.runs

  demand3_secret : (s : ℕ) → s < length (program n plan) → Secret n plan s
  demand3_secret = h.secret

-- ---- what Translate writes

module _ {n : ℕ} {plan out : List ℕ} (h : Tied n plan out) where
  tied_accepted : Accepted n plan
  tied_accepted = h.accepted

  tied_written : take (translate_answer n plan (length out)).words (translate_out n plan out) ≡ head_word n ∷ program n plan
  tied_written = h.written

  tied_demand3 : Demand3 n plan
  tied_demand3 = h.demand3

module _ (h : TranslateTied) where
  translate_tied_done : (n : ℕ) (plan out : List ℕ) → (translate_answer n plan (length out)).number ≡ 0 → Tied n plan out
  translate_tied_done = h.done

  translate_tied_takes : (n : ℕ) (plan : List ℕ) (room : ℕ) → Accepted n plan → 1 + foretold_words n plan ≤ room
      → translate_answer n plan room ≡ measured n plan
  translate_tied_takes = h.takes

-- ---- what a plan reads

-- cells that hold the same n shares of each of these registers
abbrev SameKnown : ℕ → List ℕ → List ℕ → List ℕ → Type 0
SameKnown n known c c' = (i r : ℕ) → i < n → r < 32 → T (member_of known r) → get_or c (32 * i + r) 0 ≡ get_or c' (32 * i + r) 0

module _ (h : KnownDecide) where
  known_registers : (n : ℕ) → n ≤ 8 → (plan known tape c c' : List ℕ) → T (reads_only plan known) → length c ≡ 512 → length c' ≡ 512 → SameKnown n known c c'
      → SameKnown n (known_after plan known) (exec (program n plan) tape c) (exec (program n plan) tape c')
  known_registers = h.registers

  known_steps : (n : ℕ) (plan known tape c c' : List ℕ) → Accepted n plan → T (reads_only plan known) → length c ≡ 512 → length c' ≡ 512
      → SameKnown n known c c' → (s : ℕ) → s < length (program n plan)
      → get_or (exec (take (suc s) (program n plan)) tape c) (field_d (get_or (program n plan) s 0)) 0
      ≡ get_or (exec (take (suc s) (program n plan)) tape c') (field_d (get_or (program n plan) s 0)) 0
  known_steps = h.steps

-- ---- wrong translations

module _ {n : ℕ} (h : JoinsWrongly n) where
  joins_wrongly_cells : List ℕ
  joins_wrongly_cells = h.cells

  joins_wrongly_start : Start h.cells
  joins_wrongly_start = h.start

  joins_wrongly_not : joined n (exec_steps (not_in_every n) [] h.cells) 1 ≡ not_w (joined n h.cells 0) → ⊥
  joins_wrongly_not = h.not_wrong

  joins_wrongly_const : joined n (exec_steps (const_in_every n) [] h.cells) 1 ≡ 700 → ⊥
  joins_wrongly_const = h.const_wrong

module _ (C : Claims) where
  counts : Counts
  counts = C.counts

  demand3 : (n : ℕ) (plan : List ℕ) → Accepted n plan → Demand3 n plan
  demand3 = C.demand3

  translate_tied : TranslateTied
  translate_tied = C.translate_tied

  wiped_first_zero : (n d : ℕ) → n ≤ 8 → d < 32 → (before : List Step) (cells tape : List ℕ) → Start cells → AllWords tape
      → joined n (exec_steps (wiped_first n d before) tape cells) d ≡ 0
  wiped_first_zero = C.wiped_first_zero

  every_share_wrong : JoinsWrongly 2 × JoinsWrongly 4 × JoinsWrongly 6 × JoinsWrongly 8
  every_share_wrong = C.every_share_wrong

  known_decide : KnownDecide
  known_decide = C.known_decide
