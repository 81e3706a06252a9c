-- The share run that a call's result is defined by, and a plan's words done on the cells, which leave the same. Rests on masking's InARow and Counts.
use mathlib.Core.Path.{◌≡◌, refl, ap, ap₂, ◌∙◌}
use mathlib.Core.List.{List}
use Prim.Native.Nat.{ℕ, ◌-◌, ◌≤◌, min}
use native.Mathlib.Omega.{arith}
use lib.ListN.{length, replicate, length-replicate}
use lib.Seq.{take_all}
use Rattle.checks.specs.declared.answer.Answer.{Answer}
use Rattle.checks.specs.Answers.{done, after_call}
use Rattle.masking.specs.Translation.{program, headed}
use Rattle.masking.specs.Foretold.{Accepted, foretold_tape}
use Rattle.masking.specs.Machine.{steps_of, exec, rands}
use Rattle.masking.specs.Runs.{due, standing, told}
use Rattle.masking.proofs.emitted.Counts.{plan_counts}
use Rattle.masking.specs.Demand3.{EachRun}
use Rattle.masking.proofs.OneRun.{translated_taken, translated_turned}
use Rattle.masking.proofs.Head.{head_exec, head_rands}
use Rattle.masking.proofs.InARow.{each_run}
use Rattle.masked_call.specs.Shares.{placed, whole_run, finished}
use Rattle.masked_call.specs.WholeRun.{WholeRun, RunsWhole}
use Rattle.masked_call.specs.inner.Inner.{GoodPlan}
use Rattle.and_parts.specs.inner.Effects.{Enough}
use Rattle.masked_call.proofs.Filling.{placed_size}

-- a good plan is accepted for each share count
pub accepted : {n : ℕ} {plan : List ℕ} → GoodPlan plan → 2 ≤ n → n ≤ 8 → Accepted n plan
accepted G least most = record { least = least; most = most; short = G.short; good = G.good }

-- the share run over the whole program
module _ (n : ℕ) (plan x y tape : List ℕ) (A : Accepted n plan) where
  abbrev P : List ℕ
  P = headed n plan

  all : due P 0 (length P) ≡ P
  all = take_all (length P) P (omega arith)

  used : rands (due P 0 (length P)) ≡ foretold_tape n plan
  used = ap rands all ∙ head_rands n A.most (program n plan) ∙ (plan_counts n plan A).tape

  begun : EachRun n P tape (standing (placed x y) 0 0) (told n (length P))
  unfolding placed
  begun =
      let size : length (placed x y) ≡ 512 = placed_size 1 0 y _ ∙ placed_size 0 0 x (replicate 512 0) ∙ length-replicate {A = ℕ} 512 0 in
      each_run n P tape (placed x y) 0 (translated_taken n plan A) (translated_turned n plan A) _
      (record { within = omega arith; tape_at = refl; in_tape = omega arith; cells = refl; size = size }) (told n (length P))

  -- it does all of it where the tape is long enough, and is turned down where not
  done_whole : foretold_tape n plan ≤ length tape → whole_run plan n x y tape ≡ done (length P) (foretold_tape n plan)
  done_whole h =
      let m : min (length P) (length P - 0) ≡ length P = omega arith in
      begun.else refl (omega (arith, used)) ∙ ap₂ done m used

  pub finished_is : foretold_tape n plan ≤ length tape → finished plan n x y tape ≡ exec (program n plan) tape (placed x y)
  unfolding finished
  finished_is h =
      ap (λ (a : Answer). after_call a (exec (due P 0 (length P)) tape (placed x y)) (placed x y)) (done_whole h)
      ∙ ap (λ (p : List ℕ). exec p tape (placed x y)) all ∙ head_exec n A.most (program n plan) tape (placed x y)

  pub whole_run_is : WholeRun plan n x y tape
  whole_run_is = record { done = done_whole; short = λ h. (begun.short refl (omega (arith, used))).0; cells = finished_is }

  -- the plan's words done on the cells need no more tape than is foretold
  module _ (h : foretold_tape n plan ≤ length tape) where
    pub enough_tape : Enough tape 0 (steps_of (program n plan))
    enough_tape = omega (arith, (plan_counts n plan A).tape)

pub runs_whole : (plan : List ℕ) → GoodPlan plan → RunsWhole plan
runs_whole plan G n l m x y tape = whole_run_is n plan x y tape (accepted G l m)
