-- Secrecy over lists of share runs, of any words that a run takes behind a head: what such a list leaves in the cells is what the words done make of
-- the start (InARow), so hidden steps are hidden over lists of runs (`hidden_runs`). Of translated plans that is the secrecy that the
-- specification states (`plan_hidden`, `secret`). Rests on Programs and Secret, and on OneRun for the check of a translation's words.
use mathlib.Core.Path.{◌≡◌, refl, sym, ap, ap₂, ◌∙◌}
use mathlib.Core.List.{List, ◌∷◌, ◌++◌}
use Prim.Native.Nat.{ℕ, suc, ◌≤◌, ◌<◌}
use native.Mathlib.Omega.{arith}
use lib.ListN.{length, get_or, take, length-append}
use lib.Seq.{drop_at}
use Rattle.word.specs.Encoding.{field_d}
use Rattle.word.specs.Head.{head_word}
use Rattle.masking.specs.Translation.{program}
use Rattle.masking.specs.Foretold.{Accepted, foretold_tape}
use Rattle.masking.specs.Machine.{exec, Start}
use Rattle.masking.specs.Runs.{Run, standing, in_arow, words_done}
use Rattle.masking.specs.Secrecy.{Tape, Pairing, Secret, Hidden}
use Rattle.masking.proofs.OneRun.{Taken, Turned, translated_taken, translated_turned}
use Rattle.masking.proofs.Head.{head_exec}
use Rattle.masking.proofs.InARow.{cells_are}
use Rattle.masking.proofs.secret.Programs.{word_held, StepHidden}
use Rattle.masking.proofs.secret.Secret.{step_secret}

-- a list of runs of words behind the head for n, over the tape that follows the words `before`, from its place on: the words done, head included, and
-- what the cell of word s behind the head holds then
module _ (n : ℕ) (words l before tape : List ℕ) (runs : List Run) where
  abbrev pub runs_done : ℕ
  runs_done = words_done (head_word n ∷ words) (before ++ tape) (standing l 0 (length before)) runs

  abbrev pub runs_hold : ℕ → ℕ
  runs_hold s = get_or (in_arow (head_word n ∷ words) (before ++ tape) (standing l 0 (length before)) runs).cells (field_d (get_or words s 0)) 0

-- paired lists of runs that end with step s write equal words at it
pub record RunsHidden (n : ℕ) (words : List ℕ) (L s : ℕ) (l l' : List ℕ) : Type 0 where
  pub pairing : Pairing L
  pub equal : (tape : List ℕ) → Tape L tape → (before before' : List ℕ) (runs runs' : List Run)
      → runs_done n words l before tape runs ≡ suc (suc s) → runs_done n words l' before' (pairing.there tape) runs' ≡ suc (suc s)
      → runs_hold n words l before tape runs s ≡ runs_hold n words l' before' (pairing.there tape) runs' s

module _ (n : ℕ) (most : n ≤ 8) (words : List ℕ) (taken : Taken n (head_word n ∷ words)) (turned : Turned n (head_word n ∷ words)) (s : ℕ) where
  word_after : (l before tape : List ℕ) (runs : List Run) → Start l → runs_done n words l before tape runs ≡ suc (suc s)
      → runs_hold n words l before tape runs s ≡ word_held words s tape l
  word_after l before tape runs st e =
      ap (λ (r : List ℕ). get_or r (field_d (get_or words s 0)) 0)
      (cells_are n (head_word n ∷ words) (before ++ tape) l (length before) taken turned st.size (omega (arith, length-append before tape)) runs
      ∙ ap₂ (λ (m : ℕ) (ts : List ℕ). exec (take m (head_word n ∷ words)) ts l) e (drop_at before tape (length before) refl)
      ∙ head_exec n most (take (suc s) words) tape l)

  pub hidden_runs : (L : ℕ) (l l' : List ℕ) → Start l → Start l' → StepHidden words L s l l' → RunsHidden n words L s l l'
  hidden_runs L l l' st st' h =
      record {
        pairing = h.pairing;
        equal = λ tape t before before' runs runs' e e'.
            word_after l before tape runs st e ∙ h.equal tape t ∙ sym (word_after l' before' (h.pairing.there tape) runs' st' e');
      }

-- ---- translated plans
module _ (n : ℕ) (plan : List ℕ) (A : Accepted n plan) (s : ℕ) where
  pub plan_hidden : (l l' : List ℕ) → Start l → Start l' → StepHidden (program n plan) (foretold_tape n plan) s l l' → Hidden n plan s l l'
  plan_hidden l l' st st' h =
      let q = hidden_runs n A.most (program n plan) (translated_taken n plan A) (translated_turned n plan A) s (foretold_tape n plan) l l' st st' h in
      record { pairing = q.pairing; equal = q.equal }

  pub secret : s < length (program n plan) → Secret n plan s
  secret h =
      let q = step_secret n plan A s h in
      record { share = q.0; below = q.1; hidden = λ l l' st st' g. plan_hidden l l' st st' (q.2 l l' st st' g) }
