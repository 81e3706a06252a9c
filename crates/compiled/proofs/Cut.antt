-- Of a plan cut at its ANDs and ADDs (specs/inner/Cut) what is left to do from a run on, and a turn over a run and the word after it. Rests on OnSteps for a run share by share, and on and_parts' Running for steps done in parts.
use mathlib.Core.Path.{◌≡◌, refl, sym, ap, ◌∙◌, subst}
use mathlib.Core.Bool.{Bool, ◌&&◌}
use mathlib.Core.List.{List, [], ◌∷◌, ◌++◌}
use Prim.Native.Nat.{ℕ, zero, suc, ◌+◌, ◌≤◌, ◌<◌}
use native.Mathlib.Numerals.{add-one}
use native.Mathlib.Omega.{arith}
use lib.Dec.{T}
use lib.ListN.{length, get_or, drop, drop_of_length-le, get_or-eq_default}
use Rattle.word.specs.declared.step.Step.{Step}
use Rattle.word.specs.Encoding.{kind_of, plan_step, is_good}
use Rattle.word.proofs.Ranges.{both}
use Rattle.masking.specs.Translation.{shares, words_for, program}
use Rattle.masking.specs.Machine.{steps_of}
use Rattle.masking.proofs.emitted.Steps.{program_append}
use Rattle.masking.proofs.InARow.{steps_append}
use Rattle.and_parts.specs.inner.Effects.{Ran}
use Rattle.and_parts.proofs.Running.{Left, renamed, part}
use Rattle.and_parts.proofs.Running as running
use Rattle.gates.specs.inner.PlanWords.{GoodPlanWord}
use Rattle.compiled.specs.inner.OnShare.{share_by_share}
use Rattle.compiled.specs.inner.Cut.{Cut, all_good, all_linear, all_runs, glue}
use Rattle.compiled.proofs.OnSteps.{is_good_is, run_does}

run_at : (rs : List (List ℕ)) (d : List ℕ) → T (all_runs rs) → T (all_linear d) → (k : ℕ) → T (all_linear (get_or rs k d))
run_at [] d h l k = l
run_at (r ∷ rs) d h l zero = (both (all_linear r) (all_runs rs) h).0
run_at (r ∷ rs) d h l (suc k) = run_at rs d (both (all_linear r) (all_runs rs) h).1 l k

gate_at : (p : ℕ → Bool) (gs : List ℕ) → T (all_good p gs) → (k : ℕ) → k < length gs → GoodPlanWord (get_or gs k 0) × T (p (kind_of (get_or gs k 0)))
gate_at p [] h k l = absurd (omega arith)
gate_at p (g ∷ gs) h zero l =
    let e = both (is_good (plan_step g)) (p (kind_of g)) (both (is_good (plan_step g) && p (kind_of g)) (all_good p gs) h).0 in
    (is_good_is (plan_step g) e.0, e.1)
gate_at p (g ∷ gs) h (suc k) l = gate_at p gs (both (is_good (plan_step g) && p (kind_of g)) (all_good p gs) h).1 k (omega arith)

glue_turn : (rs : List (List ℕ)) (last gs : List ℕ) (k : ℕ) → length rs ≡ length gs → k < length gs
    → glue (drop k rs) last (drop k gs) ≡ get_or rs k last ++ (get_or gs k 0 ∷ glue (drop (suc k) rs) last (drop (suc k) gs))
glue_turn [] last [] k e h = absurd (omega arith)
glue_turn [] last (g ∷ gs) k e h = absurd (omega arith)
glue_turn (r ∷ rs) last [] k e h = absurd (omega arith)
glue_turn (r ∷ rs) last (g ∷ gs) zero e h = refl
glue_turn (r ∷ rs) last (g ∷ gs) (suc k) e h = glue_turn rs last gs k (omega arith) (omega arith)

module _ {p : ℕ → Bool} {rs : List (List ℕ)} {last gs plan : List ℕ} (C : Cut p rs last gs plan) (n : ℕ) where
  -- what is left from run k on
  abbrev pub from : ℕ → List Step
  from k = steps_of (program n (glue (drop k rs) last (drop k gs)))

  pub from_start : steps_of (program n plan) ≡ from 0
  from_start = ap (λ (p : List ℕ). steps_of (program n p)) (sym C.whole)

  pub from_turn : (k : ℕ) → k < length gs → from k ≡ steps_of (program n (get_or rs k last)) ++ (steps_of (words_for n (plan_step (get_or gs k 0))) ++ from (k + 1))
  from_turn k h =
      let ws = get_or rs k last in
      let g = get_or gs k 0 in
      let rest = glue (drop (suc k) rs) last (drop (suc k) gs) in
      ap (λ (p : List ℕ). steps_of (program n p)) (glue_turn rs last gs k C.same h)
      ∙ ap steps_of (program_append n ws (g ∷ rest))
      ∙ steps_append (program n ws) (program n (g ∷ rest))
      ∙ ap (λ (q : List Step). steps_of (program n ws) ++ q) (steps_append (words_for n (plan_step g)) (program n rest))
      ∙ ap (λ (j : ℕ). steps_of (program n ws) ++ (steps_of (words_for n (plan_step g)) ++ from j)) (sym (add-one k))

  pub from_last : (k : ℕ) → length gs ≤ k → from k ≡ steps_of (program n (get_or rs k last))
  from_last k h =
      ap (λ (q : List (List ℕ)). steps_of (program n (glue q last (drop k gs)))) (drop_of_length-le rs {i = k} (omega (arith, C.same)))
      ∙ ap (λ (q : List ℕ). steps_of (program n q)) (sym (get_or-eq_default rs last {n = k} (omega (arith, C.same))))

  pub linear_at : (k : ℕ) → T (all_linear (get_or rs k last))
  linear_at = run_at rs last C.runs C.final

  pub good_gate : (k : ℕ) → k < length gs → {g : ℕ} → g ≡ get_or gs k 0 → GoodPlanWord g × T (p (kind_of g))
  good_gate k h e = subst (λ (g : ℕ). GoodPlanWord g × T (p (kind_of g))) (sym e) (gate_at p gs C.gates k h)

  module _ (least : 2 ≤ n) (most : n ≤ 8) {tape : List ℕ} {ss : List Step} {s : ℕ} {c₀ : List ℕ} where
    -- run k done
    pub after_run : (k : ℕ) → k < length gs → {t g : ℕ} {c c' : List ℕ} → Left tape ss s c₀ (from k) t c → c' ≡ share_by_share (shares n) (get_or rs k last) c → g ≡ get_or gs k 0
        → Left tape ss s c₀ (steps_of (words_for n (plan_step g)) ++ from (k + 1)) t c'
    after_run k h {t} {g} {c} l e f =
        let us = steps_of (program n (get_or rs k last)) in
        let ts = steps_of (words_for n (plan_step (get_or gs k 0))) ++ from (k + 1) in
        renamed (ap (λ (w : ℕ). steps_of (words_for n (plan_step w)) ++ from (k + 1)) (sym f))
        (part us ts (renamed (from_turn k h) l) (run_does n least most tape t (get_or rs k last) c (linear_at k) e))

    -- the last run done
    pub after_last : (k : ℕ) → length gs ≤ k → {t : ℕ} {c c' : List ℕ} → Left tape ss s c₀ (from k) t c → c' ≡ share_by_share (shares n) (get_or rs k last) c → Ran ss tape s c₀ c' t
    after_last k h {t} {c} l e =
        running.last (steps_of (program n (get_or rs k last))) (renamed (from_last k h) l) (run_does n least most tape t (get_or rs k last) c (linear_at k) e)
