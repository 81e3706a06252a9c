-- Demand 3: "All this is one theorem about the list as a whole" (document 01, "Share runs in a row"); document 02's No. 4 adds the scratch
-- cells to it, its No. 7 the head and the count that each run is told. It starts from a plan that Translate accepts for n, the program being
-- just the words of its translation, head included, any 512 cells, program place 0, and any tape with any place up to its length.
use Rattle.std.specs.Prelude.{◌≡◌, cond, List, ◌∷◌, ◌++◌, ℕ, ◌+◌, ◌-◌, ◌≤◌, ◌<◌, min, T, length, get_or, take, drop}
use Rattle.word.specs.Layout.{is_share_count}
use Rattle.checks.specs.Answers.{done, refused}
use Rattle.plain.specs.Machine.{run}
use Rattle.masking.specs.Translation.{program, headed}
use Rattle.masking.specs.Foretold.{Accepted, foretold_tape}
use Rattle.masking.specs.Machine.{exec, rands, Words, Start}
use Rattle.masking.specs.Unsplit.{joined, unsplit}
use Rattle.masking.specs.Runs.{State, Run, standing, due, run_answer, moved, in_arow, words_done, tape_used}
use Rattle.masking.specs.Wiped.{holds_and_or_add, Wiped}
use Rattle.masking.specs.Secrecy.{Secret}

-- one run from where the last one left off. Told n, it is "turned down exactly when its steps hold more RAND than tape remains (6), and then moves
-- nothing; otherwise it does the smaller of its budget and the words left, and reports just that"
pub record EachRun (n : ℕ) (words tape : List ℕ) (st : State) (run : Run) : Type 0 where
  -- "a run told another count than n stands in the list as turned down (1 or 8)" (document 02, No. 7)
  pub other : (run.count ≡ n → ⊥) → (run_answer words tape st run ≡ refused (cond (is_share_count run.count) 8 1)) × (moved words tape st run ≡ st)
  pub short : run.count ≡ n → length tape - st.tape_place < rands (due words st.place run.budget)
      → (run_answer words tape st run ≡ refused 6) × (moved words tape st run ≡ st)
  pub else : run.count ≡ n → rands (due words st.place run.budget) ≤ length tape - st.tape_place
      → run_answer words tape st run ≡ done (min run.budget (length words - st.place)) (rands (due words st.place run.budget))

-- a list of runs over the tape from its place on
module _ (n : ℕ) (plan start tape : List ℕ) (tape_place : ℕ) where
  -- the words that Translate wrote, and "program place 0"
  abbrev pub words : List ℕ
  words = headed n plan

  abbrev pub begun : State
  begun = standing start 0 tape_place

  -- where the runs leave off, "m the sum of the words done", and the tape words used
  abbrev pub left : List Run → State
  left runs = in_arow words tape begun runs

  abbrev pub m : List Run → ℕ
  m runs = words_done words tape begun runs

  abbrev pub used : List Run → ℕ
  used runs = tape_used words tape begun runs

  pub record InARow (runs : List Run) : Type 0 where
    -- each run of the list
    pub each : (before rest : List Run) (run : Run) → runs ≡ before ++ (run ∷ rest) → EachRun n words tape (left before) run
    -- "After the list the cells are what the first m words make of the start, m the sum of the words done; the tape words used are the
    -- RANDs among those m."
    pub cells : (left runs).cells ≡ exec (take (m runs) words) (drop tape_place tape) start
    pub rand : used runs ≡ rands (take (m runs) words)
    -- the cells stay 512
    pub size : length (left runs).cells ≡ 512
    -- the places moved on by just these sums
    pub place : (left runs).place ≡ m runs
    pub tape_moved : (left runs).tape_place ≡ tape_place + used runs
    -- where the words done translate the plan's first k words, every register joins to what those k words give unsplit, and the tape
    -- words used are those foretold for them
    pub joins : (k : ℕ) → m runs ≡ length (headed n (take k plan))
        → (r : ℕ) → r < 32 → joined n (left runs).cells r ≡ get_or (run (take k plan) (unsplit n start)) r 0
    pub foretold : (k : ℕ) → m runs ≡ length (headed n (take k plan)) → used runs ≡ foretold_tape n (take k plan)
    -- the first 0 words are translated also where nothing is done, not even the head
    pub none : m runs ≡ 0 → (left runs).cells ≡ start
    pub none_joins : m runs ≡ 0 → (r : ℕ) → r < 32 → joined n (left runs).cells r ≡ get_or (run (take 0 plan) (unsplit n start)) r 0
    pub none_used : m runs ≡ 0 → used runs ≡ foretold_tape n (take 0 plan)
    -- document 02, No. 4: AND's scratch cells are zero after the whole program of a plan that holds AND or ADD; and so they are wherever the
    -- words done translate the plan's first k words and one of these is AND or ADD
    pub wiped_whole : m runs ≡ length words → T (holds_and_or_add plan) → Wiped n (left runs).cells
    pub wiped : (k : ℕ) → m runs ≡ length (headed n (take k plan)) → T (holds_and_or_add (take k plan)) → Wiped n (left runs).cells
    -- over a tape as long as foretold no run that is told n is turned down
    pub enough : foretold_tape n plan ≤ length tape - tape_place
        → (before rest : List Run) (run : Run) → runs ≡ before ++ (run ∷ rest) → run.count ≡ n → (run_answer words tape (left before) run).number ≡ 0

pub record Demand3 (n : ℕ) (plan : List ℕ) : Type 0 where
  pub runs : (start tape : List ℕ) → Start start → Words tape → (tape_place : ℕ) → tape_place ≤ length tape
      → (list : List Run) → InARow n plan start tape tape_place list
  -- "the head writes no word": the steps are those behind it
  pub secret : (s : ℕ) → s < length (program n plan) → Secret n plan s

-- the theorem
abbrev pub Demand3Holds : Type 0
Demand3Holds = (n : ℕ) (plan : List ℕ) → Accepted n plan → Demand3 n plan
