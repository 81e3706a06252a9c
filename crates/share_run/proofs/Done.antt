-- What holds where a share run, or one share step, is done: the rest of its answer is done, and its words are those due. Rests on masking's OneRun.
use mathlib.Core.Path.{◌≡◌, sym, ap, ◌∙◌}
use mathlib.Core.Bool.{not, ◌||◌}
use mathlib.Core.List.{List, [], ◌∷◌}
use Prim.Native.Nat.{ℕ, ◌-◌, min}
use native.Mathlib.Omega.{arith}
use lib.ListN.{length}
use Rattle.word.specs.Encoding.{program_step, is_good}
use Rattle.word.specs.Head.{is_head}
use Rattle.checks.specs.declared.answer.Answer.{Answer}
use Rattle.checks.specs.Answers.{done, bad_at}
use Rattle.checks.proofs.Passed.{passed}
use Rattle.masking.specs.Runs.{State, standing, told, run_rest, run_answer, step_answer}
use Rattle.masking.proofs.OneRun.{RestDone, done_rest, rest_done}

pub record Ready (P tape : List ℕ) (st : State) (b words : ℕ) : Type 0 where
  pub rest : RestDone P tape st b
  pub smaller : words ≡ min b (length P - st.place)

pub ready : (n : ℕ) (P tape : List ℕ) (st : State) (b words used : ℕ) → done words used ≡ run_answer P tape st (told n b) → Ready P tape st b words
ready n P tape st b words used e =
    let q : (run_answer P tape st (told n b)).number ≡ 0 = sym (ap (λ (x : Answer). x.number) e) in
    let d = done_rest n P (run_rest P tape st b) q in
    let r = rest_done P tape st b (sym (ap (λ (x : Answer). x.number) d) ∙ q) in
    record { rest = r; smaller = ap (λ (x : Answer). x.words) (e ∙ d) ∙ r.words }

-- of one share step
pub step_ready : (w : ℕ) (tape cells : List ℕ) (t words used : ℕ) → done words used ≡ step_answer w tape cells t → RestDone (w ∷ []) tape (standing cells 0 t) 1
step_ready w tape cells t words used e =
    let p = passed (not (is_head w || is_good (program_step w))) (bad_at 0) _ (λ h. omega arith) (sym (ap (λ (x : Answer). x.number) e)) in
    rest_done (w ∷ []) tape (standing cells 0 t) 1 p.1
