-- What a share run reports never passes what is left: places stay within program and tape. Rests on masking's OneRun.
use mathlib.Core.Path.{◌≡◌, refl, sym, ap, ap₂, ◌∙◌}
use mathlib.Core.List.{List, [], ◌∷◌}
use Prim.Native.Nat.{ℕ, ◌+◌, ◌-◌, ◌≤◌, ◌<◌, min}
use native.Mathlib.Decide.{dec_lt}
use native.Mathlib.Omega.{arith}
use native.Mathlib.Nat.{le_trans}
use native.Mathlib.Numerals.{add-one}
use lib.ListN.{length, get_or, drop, drop_of_length-le}
use lib.Seq.{drop-cons}
use Rattle.std.specs.Prelude.{Result, Ok, Err}
use Rattle.std.specs.Result.{result_unwrap_or}
use Rattle.checks.specs.declared.refusal.Refusal.{Refusal}
use Rattle.checks.specs.declared.refusal.Refusal.TheVariants.{ShareCount, TooLong, BadWord, Length, Place, Tape, Layer, Head}
use Rattle.checks.specs.declared.refusal.Counts.{Counts}
use Rattle.checks.specs.Answers.{answer_of, refusal_of}
use Rattle.checks_run.proofs.RunChecked.{run_counts}
use Rattle.masking.specs.Runs.{State, Run, told, runs_of, run_rest, run_answer, moved, in_arow}
use Rattle.masking.proofs.OneRun.{rest_within}

pub run_within : (P tape : List ℕ) (st : State) (run : Run)
    → ((run_answer P tape st run).words ≤ length P - st.place) × ((run_answer P tape st run).tape ≤ length tape - st.tape_place)
run_within P tape st run =
    let q = run_counts run.count P (run_rest P tape st run.budget) in
    let h = rest_within P tape st run.budget in
    (le_trans q.0 h.0, le_trans q.1 h.1)

-- one turn of a loop over counts and budgets
pub row_turn : (P tape : List ℕ) (st : State) (counts budgets : List ℕ) (i : ℕ) → i < length counts → i < length budgets
    → in_arow P tape st (runs_of (drop i counts) (drop i budgets))
    ≡ in_arow P tape (moved P tape st (told (get_or counts i 0) (get_or budgets i 0))) (runs_of (drop (i + 1) counts) (drop (i + 1) budgets))
row_turn P tape st counts budgets i h l =
    ap₂ (λ (cs bs : List ℕ). in_arow P tape st (runs_of cs bs)) (drop-cons counts i 0 h) (drop-cons budgets i 0 l)
    ∙ ap (λ (k : ℕ). in_arow P tape (moved P tape st (told (get_or counts i 0) (get_or budgets i 0))) (runs_of (drop k counts) (drop k budgets))) (sym (add-one i))

-- none is left where one of the two lists is at its end
pub no_runs : (counts budgets : List ℕ) (i : ℕ) → min (length counts) (length budgets) ≤ i → runs_of (drop i counts) (drop i budgets) ≡ []
no_runs counts budgets i h = by (dec_lt i (length counts))
  where
    ended : (l : List ℕ) → runs_of l [] ≡ []
    ended [] = refl
    ended (c ∷ cs) = refl

    by : Dec (i < length counts) → runs_of (drop i counts) (drop i budgets) ≡ []
    by (yes l) = ap (runs_of (drop i counts)) (drop_of_length-le budgets {i = i} (omega arith)) ∙ ended (drop i counts)
    by (no l) = ap (λ (cs : List ℕ). runs_of cs (drop i budgets)) (drop_of_length-le counts {i = i} (omega arith))

-- what a result counts: what it holds, or nothing where it is a refusal
pub counted : (r : Result Counts Refusal) → ((result_unwrap_or r (record { words = 0; tape = 0 })).words ≡ (answer_of r).words) × ((result_unwrap_or r (record { words = 0; tape = 0 })).tape ≡ (answer_of r).tape)
counted (Ok c) = (refl, refl)
counted (Err e) = none e
  where
    none : (e : Refusal) → (0 ≡ (refusal_of e).words) × (0 ≡ (refusal_of e).tape)
    none ShareCount = (refl, refl)
    none TooLong = (refl, refl)
    none (BadWord place) = (refl, refl)
    none Length = (refl, refl)
    none Place = (refl, refl)
    none Tape = (refl, refl)
    none Layer = (refl, refl)
    none Head = (refl, refl)
