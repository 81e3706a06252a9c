-- Every translated plan hides its steps: any choice of fewer than n of them in the shares `plan_secret` names, and each single step in one
-- share (`step_secret`). A translated plan is a share program made of blocks (`plan_program`), and these are Programs' theorems of it.
use mathlib.Core.Path.{◌≡◌}
use mathlib.Core.Bool.{Bool}
use mathlib.Core.List.{List, [], ◌∷◌}
use mathlib.Core.Logic.{⊎_elim}
use Prim.Native.Nat.{ℕ, ◌<◌, ◌≤◌}
use lib.Dec.{T, ltb, ltb→lt, lt→ltb}
use lib.ListN.{length}
use Rattle.word.specs.Encoding.{plan_step}
use Rattle.masking.specs.Translation.{scratch, blocks, program}
use Rattle.masking.specs.Foretold.{Accepted, foretold_tape}
use Rattle.masking.specs.Machine.{rands_of, Start}
use Rattle.masking.specs.Secrecy.{Agree}
use Rattle.masking.proofs.emitted.Places.{places, share_register}
use Rattle.masking.proofs.emitted.Steps.{PlanWords, plan_words, steps_for, plan_steps, program_words, plan_good}
use Rattle.masking.proofs.emitted.Counts.{plan_tape}
use Rattle.masking.proofs.secret.Sets.{has, has_cases}
use Rattle.masking.proofs.secret.Reading.{reading, reading_append, laid_reading}
use Rattle.masking.proofs.secret.Hidden.{AgreeIn}
use Rattle.masking.proofs.secret.Programs.{ShareProgram, StepsHidden, StepHidden, blocks_program, program_secret, one_step}

-- the registers in which starts have to agree: the plan's
abbrev pub registers : ℕ → Bool
registers r = ltb r 32

-- two starts agree in the shares S
abbrev pub AgreeOn : List ℕ → List ℕ → List ℕ → Type 0
AgreeOn S l l' = (i : ℕ) → T (has S i) → Agree i l l'

agreed : (S l l' : List ℕ) → AgreeOn S l l' → AgreeIn 40 registers S l l'
agreed S l l' g i x r lr k = let l32 : r < 32 = ltb→lt r 32 k in rw (share_register i r l32) (g i x r l32)

-- a plan's steps on registers read the plan's registers, and helpers written before
pub plan_reading : (plan : List ℕ) → PlanWords plan → (R : ℕ → Bool) → ((r : ℕ) → r < 32 → T (R r)) → T (reading 40 R (plan_steps plan))
plan_reading [] h R g = tt
plan_reading (w ∷ ws) h R g =
    reading_append 40 R (steps_for (plan_step w)) (plan_steps ws) (rw h.0.apart (laid_reading R g h.0.step h.0.in_range))
    (λ R' f. plan_reading ws h.1 R' (λ r l. f r (g r l)))

-- ---- the theorems
module _ (n : ℕ) (plan : List ℕ) (A : Accepted n plan) where
  pub plan_reads : T (reading 40 registers (plan_steps plan))
  plan_reads = plan_reading plan (plan_words plan A.good) registers (λ r l. lt→ltb r 32 l)

  pub tape_length : rands_of (blocks scratch n (plan_steps plan)) ≡ foretold_tape n plan
  tape_length = plan_tape n A.least A.most plan (plan_words plan A.good)

  pub plan_program : ShareProgram n 40 registers (program n plan) (foretold_tape n plan)
  plan_program =
      blocks_program n 40 scratch (places n A.most) (plan_steps plan) registers plan_reads (plan_good n plan A) (program n plan) (program_words n plan) (foretold_tape n plan) tape_length

  pub plan_secret : (js : List ℕ) → length js < n
      → (S : List ℕ) × (length S ≤ length js) × ((i : ℕ) → T (has S i) → i < n)
      × ((l l' : List ℕ) → Start l → Start l' → AgreeOn S l l' → StepsHidden (program n plan) (foretold_tape n plan) js l l')
  plan_secret js few =
      let q = program_secret n 40 registers (program n plan) (foretold_tape n plan) plan_program js few in
      (q.0, q.1, q.2, λ l l' st st' g. q.3 l l' st st' (agreed q.0 l l' g))

  pub step_secret : (s : ℕ) → s < length (program n plan)
      → (i : ℕ) × (i < n) × ((l l' : List ℕ) → Start l → Start l' → Agree i l l' → StepHidden (program n plan) (foretold_tape n plan) s l l')
  step_secret s h =
      let q = one_step n 40 registers (program n plan) (foretold_tape n plan) plan_program A.least s h in (
        q.0,
        q.1,
        λ l l' st st' g. q.2 l l' st st' (agreed (q.0 ∷ []) l l' (λ i x. ⊎_elim (λ (e : i ≡ q.0). rw e g) absurd (has_cases [] i q.0 x))),
      )
