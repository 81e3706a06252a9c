-- Share runs in a row: what a list of runs does to cells and places, run by run, whatever the tape holds.
-- Rests on OneRun for a run's answer, on Counts for the tape words of steps in a row.
use Rattle.std.specs.Prelude.{Option, Some, None}
use mathlib.Core.Path.{◌≡◌, refl, sym, ap, ap₂, ◌∙◌, subst}
use mathlib.Core.List.{List, [], ◌∷◌, ◌++◌}
use mathlib.Core.Bool.{Bool, true, false, cond}
use Prim.Native.Nat.{ℕ, zero, suc, ◌+◌, ◌-◌, ◌≤◌, ◌<◌, min}
use native.Mathlib.Nat.{add_assoc, add-zero, zero-add, add_left_cancel, zero-min, min-zero, suc-min-suc}
use native.Mathlib.Decide.{dec_lt, ℕ_discrete}
use native.Mathlib.Omega.{arith}
use lib.Dec.{ltb}
use lib.ListN.{length, get_or, take, drop, length-take, length-set, take-append-drop}
use lib.Seq.{drop-drop, take-add}
use borrow.Author.Tests.{lt-ltb, le-ltb}
use Rattle.word.specs.declared.step.Step.{Step}
use Rattle.checks.specs.declared.answer.Answer.{Answer}
use Rattle.word.specs.Encoding.{program_step}
use Rattle.word.specs.Layout.{is_share_count}
use Rattle.checks.specs.Answers.{done, refused, given, after_call}
use Rattle.checks_run.specs.RunCheck.{run_checked}
use Rattle.word.specs.Table.{dest, becomes}
use Rattle.masking.specs.Machine.{takes, with_step, steps_of, exec_step, exec_steps, rands_of, exec, rands}
use Rattle.masking.specs.Runs.{State, Run, standing, due, run_rest, run_answer, moved, in_arow, words_done, tape_used}
use Rattle.masking.specs.Demand3.{EachRun}
use Rattle.masking.proofs.emitted.Counts as counts
use Rattle.masking.proofs.OneRun.{Taken, Turned, due_length, rest_inside}

-- ---- words in a row
pub steps_append : (p q : List ℕ) → steps_of (p ++ q) ≡ steps_of p ++ steps_of q
steps_append [] q = refl
steps_append (w ∷ p) q = by (program_step w) (steps_append p q)
  where
    by : (d : Option Step) → steps_of (p ++ q) ≡ steps_of p ++ steps_of q → with_step d (steps_of (p ++ q)) ≡ with_step d (steps_of p) ++ steps_of q
    by (Some s) e = ap (λ (r : List Step). s ∷ r) e
    by None e = e

pub exec_steps_append : (p q : List Step) (tape cells : List ℕ) → exec_steps (p ++ q) tape cells ≡ exec_steps q (drop (rands_of p) tape) (exec_steps p tape cells)
exec_steps_append [] q tape cells = refl
exec_steps_append (s ∷ p) q tape cells =
    exec_steps_append p q (drop (takes s) tape) (exec_step s tape cells)
    ∙ ap (λ (t : List ℕ). exec_steps q t (exec_steps p (drop (takes s) tape) (exec_step s tape cells))) (drop-drop (rands_of p) (takes s) tape)

pub exec_append : (p q tape cells : List ℕ) → exec (p ++ q) tape cells ≡ exec q (drop (rands p) tape) (exec p tape cells)
exec_append p q tape cells = ap (λ (ss : List Step). exec_steps ss tape cells) (steps_append p q) ∙ exec_steps_append (steps_of p) (steps_of q) tape cells

pub rands_append : (p q : List ℕ) → rands (p ++ q) ≡ rands p + rands q
rands_append p q = ap rands_of (steps_append p q) ∙ counts.rands_append (steps_of p) (steps_of q)

exec_step_size : (s : Step) (tape cells : List ℕ) → length (exec_step s tape cells) ≡ length cells
unfolding exec_step
exec_step_size s tape cells = length-set cells (dest s) (becomes s (λ c. get_or cells c 0) (get_or tape 0 0))

pub exec_steps_size : (ss : List Step) (tape cells : List ℕ) → length (exec_steps ss tape cells) ≡ length cells
exec_steps_size [] tape cells = refl
exec_steps_size (s ∷ ss) tape cells = exec_steps_size ss (drop (takes s) tape) (exec_step s tape cells) ∙ exec_step_size s tape cells

pub exec_size : (words tape cells : List ℕ) → length (exec words tape cells) ≡ length cells
exec_size words tape cells = exec_steps_size (steps_of words) tape cells

-- a run's words are as many words of what is left
pub due_take : (P : List ℕ) (m b : ℕ) → take (length (due P m b)) (drop m P) ≡ due P m b
due_take P m b = by b (drop m P)
  where
    by : (b : ℕ) (l : List ℕ) → take (length (take b l)) l ≡ take b l
    by b l = ap (λ (k : ℕ). take k l) (length-take b l) ∙ least b l
      where
        least : (b : ℕ) (l : List ℕ) → take (min b (length l)) l ≡ take b l
        least zero l = ap (λ (k : ℕ). take k l) (zero-min (length l))
        least (suc b) [] = ap (λ (k : ℕ). take k []) (min-zero (suc b))
        least (suc b) (x ∷ l) = ap (λ (k : ℕ). take k (x ∷ l)) (suc-min-suc b (length l)) ∙ ap (λ (r : List ℕ). x ∷ r) (least b l)

-- the first m words with a run's words after them
due_append : (P : List ℕ) (m b : ℕ) → take (m + length (due P m b)) P ≡ take m P ++ due P m b
due_append P m b = take-add m (length (due P m b)) P ∙ ap (λ (r : List ℕ). take m P ++ r) (due_take P m b)

pub due_rands : (P : List ℕ) (m b : ℕ) → rands (take (m + length (due P m b)) P) ≡ rands (take m P) + rands (due P m b)
due_rands P m b = ap rands (due_append P m b) ∙ rands_append (take m P) (due P m b)

-- places move on by the sums that the answers report
pub place_sum : (P tape : List ℕ) (st : State) (runs : List Run) → (in_arow P tape st runs).place ≡ st.place + words_done P tape st runs
place_sum P tape st [] = sym (add-zero st.place)
place_sum P tape st (r ∷ rs) = place_sum P tape (moved P tape st r) rs ∙ add_assoc st.place (run_answer P tape st r).words (words_done P tape (moved P tape st r) rs)

pub tape_sum : (P tape : List ℕ) (st : State) (runs : List Run) → (in_arow P tape st runs).tape_place ≡ st.tape_place + tape_used P tape st runs
tape_sum P tape st [] = sym (add-zero st.tape_place)
tape_sum P tape st (r ∷ rs) = tape_sum P tape (moved P tape st r) rs ∙ add_assoc st.tape_place (run_answer P tape st r).tape (tape_used P tape (moved P tape st r) rs)

-- ---- one program, tape and start
module _ (n : ℕ) (P tape start : List ℕ) (p₀ : ℕ) (taken : Taken n P) (turned : Turned n P) where
  -- a state that a list of runs can reach
  pub record Reached (st : State) : Type 0 where
    pub within : st.place ≤ length P
    pub tape_at : st.tape_place ≡ p₀ + rands (take st.place P)
    pub in_tape : st.tape_place ≤ length tape
    pub cells : st.cells ≡ exec (take st.place P) (drop p₀ tape) start
    pub size : length st.cells ≡ 512

  module _ (st : State) (r : Reached st) (run : Run) where
    abbrev b : ℕ
    b = run.budget

    -- only the tape can be too short
    answer_is : run.count ≡ n → run_answer P tape st run
        ≡ given (ltb (length tape - st.tape_place) (rands (due P st.place b))) (refused 6) (done (length (due P st.place b)) (rands (due P st.place b)))
    answer_is same = ap (λ (k : ℕ). run_checked k P (run_rest P tape st b)) same ∙ taken _ ∙ rest_inside P tape st b r.size r.within r.in_tape

    short_answer : run.count ≡ n → length tape - st.tape_place < rands (due P st.place b) → run_answer P tape st run ≡ refused 6
    short_answer same h = answer_is same ∙ rw (lt-ltb _ _ h)

    pub done_answer : run.count ≡ n → rands (due P st.place b) ≤ length tape - st.tape_place → run_answer P tape st run ≡ done (length (due P st.place b)) (rands (due P st.place b))
    done_answer same h = answer_is same ∙ rw (le-ltb _ _ h)

    -- the state that an answer leaves
    left : Answer → State
    left a =
        record {
          cells = after_call a (exec (due P st.place b) (drop st.tape_place tape) st.cells) st.cells;
          place = st.place + a.words;
          tape_place = st.tape_place + a.tape;
        }

    -- a turned-down run moves nothing
    unmoved : record { cells = st.cells; place = st.place + 0; tape_place = st.tape_place + 0 } ≡ st
    unmoved i = record { cells = st.cells; place = add-zero st.place i; tape_place = add-zero st.tape_place i }

    short_moved : run.count ≡ n → length tape - st.tape_place < rands (due P st.place b) → moved P tape st run ≡ st
    unfolding left
    short_moved same h = ap left (short_answer same h) ∙ unmoved

    done_moved : run.count ≡ n → rands (due P st.place b) ≤ length tape - st.tape_place
        → moved P tape st run
        ≡ record {
          cells = exec (due P st.place b) (drop st.tape_place tape) st.cells;
          place = st.place + length (due P st.place b);
          tape_place = st.tape_place + rands (due P st.place b);
        }
    unfolding left
    done_moved same h = ap left (done_answer same h)

    other_answer : (run.count ≡ n → ⊥) → run_answer P tape st run ≡ refused (cond (is_share_count run.count) 8 1)
    other_answer o = turned run.count o _

    other_moved : (run.count ≡ n → ⊥) → moved P tape st run ≡ st
    unfolding left
    other_moved o = ap left (other_answer o) ∙ by (is_share_count run.count)
      where
        by : (x : Bool) → left (refused (cond x 8 1)) ≡ st
        by true = unmoved
        by false = unmoved

    pub each_run : EachRun n P tape st run
    each_run =
        record {
          other = λ o. (other_answer o, other_moved o);
          short = λ same h. (short_answer same h, short_moved same h);
          else = λ same h. done_answer same h ∙ ap (λ (k : ℕ). done k (rands (due P st.place b))) (due_length P st.place b);
        }

    -- a run over tape enough goes on in the program and on the tape
    done_cells : exec (due P st.place b) (drop st.tape_place tape) st.cells ≡ exec (take (st.place + length (due P st.place b)) P) (drop p₀ tape) start
    done_cells =
        ap₂ (λ (t c : List ℕ). exec (due P st.place b) t c) (ap (λ (k : ℕ). drop k tape) r.tape_at ∙ sym (drop-drop (rands (take st.place P)) p₀ tape)) r.cells
        ∙ sym (exec_append (take st.place P) (due P st.place b) (drop p₀ tape) start)
        ∙ ap (λ (ws : List ℕ). exec ws (drop p₀ tape) start) (sym (due_append P st.place b))

    done_reached : rands (due P st.place b) ≤ length tape - st.tape_place
        → Reached (record {
          cells = exec (due P st.place b) (drop st.tape_place tape) st.cells;
          place = st.place + length (due P st.place b);
          tape_place = st.tape_place + rands (due P st.place b);
        })
    done_reached h =
        record {
          within = omega (arith, due_length P st.place b, r.within);
          tape_at = ap (λ (k : ℕ). k + rands (due P st.place b)) r.tape_at ∙ add_assoc p₀ (rands (take st.place P)) (rands (due P st.place b)) ∙ ap (λ (k : ℕ). p₀ + k) (sym (due_rands P st.place b));
          in_tape = omega (arith, r.in_tape);
          cells = done_cells;
          size = exec_size (due P st.place b) (drop st.tape_place tape) st.cells ∙ r.size;
        }

    moved_reached : Reached (moved P tape st run)
    moved_reached = by (ℕ_discrete run.count n)
      where
        told : run.count ≡ n → Dec (length tape - st.tape_place < rands (due P st.place b)) → Reached (moved P tape st run)
        told same (yes h) = subst Reached (sym (short_moved same h)) r
        told same (no h) = let l : rands (due P st.place b) ≤ length tape - st.tape_place = omega arith in subst Reached (sym (done_moved same l)) (done_reached l)

        by : Dec (run.count ≡ n) → Reached (moved P tape st run)
        by (yes same) = told same (dec_lt (length tape - st.tape_place) (rands (due P st.place b)))
        by (no o) = subst Reached (sym (other_moved o)) r

  -- so does a list of runs
  pub all_reached : (st : State) → Reached st → (runs : List Run) → Reached (in_arow P tape st runs)
  all_reached st r [] = r
  all_reached st r (x ∷ xs) = all_reached (moved P tape st x) (moved_reached st r x) xs

  -- from program place 0: after a list of runs the cells are what the words done make of the start, and the tape words used are their RANDs
  module _ (size : length start ≡ 512) (inside : p₀ ≤ length tape) where
    abbrev begun : State
    begun = standing start 0 p₀

    pub begun_reached : (runs : List Run) → Reached (in_arow P tape begun runs)
    begun_reached = all_reached begun (record { within = omega arith; tape_at = sym (add-zero p₀); in_tape = inside; cells = refl; size = size })

    module _ (runs : List Run) where
      abbrev m : ℕ
      m = words_done P tape begun runs

      pub place_is : (in_arow P tape begun runs).place ≡ m
      place_is = place_sum P tape begun runs ∙ zero-add m

      pub cells_are : (in_arow P tape begun runs).cells ≡ exec (take m P) (drop p₀ tape) start
      cells_are = (begun_reached runs).cells ∙ ap (λ (k : ℕ). exec (take k P) (drop p₀ tape) start) place_is

      pub used_are : tape_used P tape begun runs ≡ rands (take m P)
      used_are =
          add_left_cancel p₀ (sym (tape_sum P tape begun runs) ∙ (begun_reached runs).tape_at ∙ ap (λ (k : ℕ). p₀ + rands (take k P)) place_is)

-- no first words of a program hold more RAND than all
pub rands_take : (P : List ℕ) (m : ℕ) → rands (take m P) ≤ rands P
rands_take P m = let e : rands P ≡ rands (take m P) + rands (drop m P) = ap rands (sym (take-append-drop m P)) ∙ rands_append (take m P) (drop m P) in omega arith
