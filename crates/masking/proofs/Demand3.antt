-- Demand 3, assembled: lists of share runs (InARow), joined results (joined.Plan), wiped scratch cells (joined.Wiped), counts (Counts) and
-- secrecy (secret.SecretRuns).
use mathlib.Core.Path.{◌≡◌, refl, sym, ap, ◌∙◌, subst}
use mathlib.Core.List.{List, ◌∷◌}
use Prim.Native.Nat.{ℕ, ◌+◌, ◌-◌, ◌≤◌}
use native.Mathlib.Nat.{le_trans, le_of_eq}
use native.Mathlib.Omega.{arith}
use lib.Dec.{T}
use lib.ListN.{length, take, drop, take-append-drop}
use lib.Seq.{take_at, take-length}
use Rattle.word.specs.Head.{head_word}
use Rattle.masking.specs.Translation.{program, headed}
use Rattle.masking.specs.Foretold.{Accepted, foretold_tape}
use Rattle.masking.specs.Machine.{exec, rands, Words, Start}
use Rattle.masking.specs.Unsplit.{joined}
use Rattle.masking.specs.Runs.{State, Run, due, run_answer, in_arow, words_done, tape_used}
use Rattle.masking.specs.Wiped.{holds_and_or_add, Wiped}
use Rattle.masking.specs.Demand3.{begun, InARow, Demand3Holds}
use Rattle.masking.proofs.emitted.Steps.{program_append, take_accepted}
use Rattle.masking.proofs.emitted.Counts.{plan_counts}
use Rattle.masking.proofs.joined.Cells.{drop_words}
use Rattle.masking.proofs.joined.Plan.{joined_after}
use Rattle.masking.proofs.joined.Wiped.{wiped_after}
use Rattle.masking.proofs.OneRun.{Taken, Turned, translated_taken, translated_turned}
use Rattle.masking.proofs.Head.{head_exec, head_rands}
use Rattle.masking.proofs.InARow.{each_run, begun_reached, place_is, cells_are, used_are, tape_sum, rands_take, due_rands, done_answer}
use Rattle.masking.proofs.secret.SecretRuns.{secret}

-- the words that translate a plan's first k words are the program's first
first_words : (n : ℕ) (plan : List ℕ) (k m : ℕ) → m ≡ length (headed n (take k plan)) → take m (headed n plan) ≡ headed n (take k plan)
first_words n plan k m e =
    ap (λ (j : ℕ). take j (headed n plan)) e
    ∙ ap (λ (ws : List ℕ). head_word n ∷ ws)
    (ap (take (length (program n (take k plan)))) (ap (program n) (sym (take-append-drop k plan)) ∙ program_append n (take k plan) (drop k plan))
    ∙ take_at (program n (take k plan)) (program n (drop k plan)) (length (program n (take k plan))) refl)

module _ (n : ℕ) (plan : List ℕ) (A : Accepted n plan) (start tape : List ℕ) (S : Start start) (p₀ : ℕ) (inside : p₀ ≤ length tape) where
  abbrev P : List ℕ
  P = headed n plan

  abbrev st₀ : State
  st₀ = begun n plan start tape p₀

  abbrev taken : Taken n P
  taken = translated_taken n plan A

  abbrev turned : Turned n P
  turned = translated_turned n plan A

  abbrev m : List Run → ℕ
  m runs = words_done P tape st₀ runs

  cells : (runs : List Run) → (in_arow P tape st₀ runs).cells ≡ exec (take (m runs) P) (drop p₀ tape) start
  cells = cells_are n P tape start p₀ taken turned S.size inside

  used : (runs : List Run) → tape_used P tape st₀ runs ≡ rands (take (m runs) P)
  used = used_are n P tape start p₀ taken turned S.size inside

  -- over a tape as long as foretold there is always enough left
  enough : foretold_tape n plan ≤ length tape - p₀ → (before : List Run) (run : Run) → run.count ≡ n
      → (run_answer P tape (in_arow P tape st₀ before) run).number ≡ 0
  enough h before run same =
      let b = run.budget in
      let st = in_arow P tape st₀ before in
      let r = begun_reached n P tape start p₀ taken turned S.size inside before in
      let l : rands (take (st.place + length (due P st.place b)) P) ≤ foretold_tape n plan =
      le_trans (rands_take P (st.place + length (due P st.place b))) (le_of_eq (head_rands n A.most (program n plan) ∙ (plan_counts n plan A).tape)) in
      ap (λ a. a.number) (done_answer n P tape start p₀ taken turned st r run same
      (omega (arith, due_rands P st.place b, r.tape_at, l)))

  -- the cells where the words done translate the plan's first k words
  cells_at : (runs : List Run) (k : ℕ) → m runs ≡ length (headed n (take k plan))
      → (in_arow P tape st₀ runs).cells ≡ exec (program n (take k plan)) (drop p₀ tape) start
  cells_at runs k e =
      cells runs ∙ ap (λ ws. exec ws (drop p₀ tape) start) (first_words n plan k (m runs) e) ∙ head_exec n A.most (program n (take k plan)) (drop p₀ tape) start

  -- where nothing is done
  none : (runs : List Run) → m runs ≡ 0 → (in_arow P tape st₀ runs).cells ≡ start
  none runs e = cells runs ∙ ap (λ (k : ℕ). exec (take k P) (drop p₀ tape) start) e

  -- AND's scratch cells
  wiped : Words tape → (runs : List Run) (k : ℕ) → m runs ≡ length (headed n (take k plan)) → T (holds_and_or_add (take k plan))
      → Wiped n (in_arow P tape st₀ runs).cells
  wiped W runs k e h =
      subst (Wiped n) (sym (cells_at runs k e))
      (wiped_after n plan A start (drop p₀ tape) S.size (drop_words tape W p₀) k h)

  in_a_row : Words tape → (runs : List Run) → InARow n plan start tape p₀ runs
  in_a_row W runs =
      record {
        each = λ before rest b e. each_run n P tape start p₀ taken turned (in_arow P tape st₀ before) (begun_reached n P tape start p₀ taken turned S.size inside before) b;
        cells = cells runs;
        size = (begun_reached n P tape start p₀ taken turned S.size inside runs).size;
        rand = used runs;
        place = place_is n P tape start p₀ taken turned S.size inside runs;
        tape_moved = tape_sum P tape st₀ runs;
        joins = λ k e r l. ap (λ c. joined n c r) (cells_at runs k e) ∙ joined_after n plan A start (drop p₀ tape) S.size S.words (drop_words tape W p₀) k r l;
        foretold = λ k e. used runs ∙ ap rands (first_words n plan k (m runs) e) ∙ head_rands n A.most (program n (take k plan)) ∙ (plan_counts n (take k plan) (take_accepted n plan A k)).tape;
        wiped_whole = λ e h.
            wiped W runs (length plan) (e ∙ ap (λ p. length (headed n p)) (sym (take-length plan))) (subst (λ p. T (holds_and_or_add p)) (sym (take-length plan)) h);
        wiped = wiped W runs;
        none = none runs;
        none_joins = λ e r l. ap (λ c. joined n c r) (none runs e) ∙ joined_after n plan A start (drop p₀ tape) S.size S.words (drop_words tape W p₀) 0 r l;
        none_used = λ e. used runs ∙ ap (λ (k : ℕ). rands (take k P)) e;
        enough = λ h before rest run e same. enough h before run same;
      }

-- THE THEOREM
pub demand3 : Demand3Holds
demand3 n plan A =
    record {
      runs = λ start tape S W p₀ inside runs. in_a_row n plan A start tape S p₀ inside W runs;
      secret = secret n plan A;
    }
