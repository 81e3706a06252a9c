-- Known registers decide a plan's results and the words of its steps (`known_decide`): its words' steps on registers read known registers alone, and
-- so do their share steps by DecidedBlocks. Rests also on checks' Unset, emitted's Steps and secret's Programs (words as steps).
use mathlib.Core.Path.{◌≡◌, sym, ap, ◌∙◌}
use mathlib.Core.Bool.{not}
use mathlib.Core.List.{List, [], ◌∷◌}
use mathlib.Core.Logic.{inl, inr}
use Prim.Native.Nat.{ℕ, suc, ◌≤◌, ◌<◌}
use native.Mathlib.Omega.{arith}
use lib.Dec.{T, eqb, eqb→eq}
use lib.ListN.{length, get_or, take}
use Rattle.word.specs.declared.step.Step.{Step}
use Rattle.word.specs.declared.step.Step.TheVariants.{Rand}
use Rattle.word.specs.Encoding.{kind_number, within, in_plan, in_program}
use Rattle.word.specs.Layout.{cell}
use Rattle.word.specs.Table.{dest, reads, Each, all_in}
use Rattle.word.proofs.Ranges.{both, tested_each, within_cells}
use Rattle.word.proofs.Together.{taken_rule}
use Rattle.checks.proofs.Unset.{passes_on}
use Rattle.masking.specs.Translation.{scratch, blocks, laid_out, program}
use Rattle.masking.specs.Foretold.{Accepted}
use Rattle.masking.specs.Machine.{exec, exec_steps}
use Rattle.checks.specs.Unset.{member_of, reads_only, known_after}
use Rattle.masking.specs.Reads.{AgreeIn, step_word, KnownDecide}
use Rattle.masking.proofs.emitted.Tests.{or_elim, all_take}
use Rattle.masking.proofs.emitted.Places.{share_register}
use Rattle.masking.proofs.emitted.Steps.{PlanWords, taken_kind, plan_steps, blocks_append, program_words, words_good, words_steps}
use Rattle.masking.proofs.joined.Cells.{Cells, at, steps_on, exec_on}
use Rattle.masking.proofs.joined.Plan.{laid_kinds}
use Rattle.masking.proofs.joined.Decided.{Some, plus, Decides, Same, run_same, words_same, decides_to, decides_then}
use Rattle.masking.proofs.joined.DecidedBlocks.{SharesOf, blocks_decide, laid_decides}
use Rattle.masking.proofs.secret.Programs.{steps_length, held_at}

-- it has no bad word
reads_words : (plan known : List ℕ) → T (reads_only plan known) → PlanWords plan
reads_words [] known h = tt
reads_words (w ∷ ws) known h =
    let p = passes_on known w ws h in (
      record { step = p.step; apart = p.apart; in_range = taken_rule in_plan w p.step p.apart; kind = taken_kind in_plan w p.step p.apart },
      reads_words ws (dest p.step ∷ known) p.rest,
    )

-- registers that are known
abbrev Known : List ℕ → Some
Known ks r = (r < 32) × T (member_of ks r)

-- a step that reads only known ones
reads_known : (known : List ℕ) (rs : List ℕ) → Each (λ r. r < 32) rs → Each (λ r. T (member_of known r)) rs → Each (Known known) rs
reads_known known [] l h = tt
reads_known known (r ∷ rs) l h = ((l.0, h.0), reads_known known rs l.1 h.1)

module _ (n : ℕ) where
  step_decides : (known : List ℕ) (s : Step) → T (in_plan s) → T (all_in (member_of known) (reads s))
      → Decides (SharesOf n (Known known)) (blocks scratch n (laid_out s)) (SharesOf n (Known (dest s ∷ known)))
  step_decides known s h t =
      blocks_decide scratch n (laid_out s) (laid_kinds s h) (Known known) (Known (dest s ∷ known))
      (decides_to (Known known) (plus (dest s) (Known known)) (Known (dest s ∷ known)) (laid_out s) more
      (laid_decides (Known known) s h (reads_known known (reads s) (within_cells 32 s registers).1 (tested_each (member_of known) (reads s) t))))
    where
      registers : T (within 32 s)
      registers = (both (not (eqb (kind_number s) 9)) (within 32 s) h).1

      more : (r : ℕ) → Known (dest s ∷ known) r → plus (dest s) (Known known) r
      more r q = or_elim (eqb (dest s) r) (member_of known r) (λ e. inl (sym (eqb→eq (dest s) r e))) (λ m. inr (q.0, m)) q.1

  plan_decides : (plan : List ℕ) → PlanWords plan → (known : List ℕ) → T (reads_only plan known)
      → Decides (SharesOf n (Known known)) (blocks scratch n (plan_steps plan)) (SharesOf n (Known (known_after plan known)))
  plan_decides [] p known h = λ k q. q
  plan_decides (w ∷ ws) p known h =
      let t = passes_on known w ws h in
      let s = t.step in
      rw (t.apart, blocks_append scratch n (laid_out s) (plan_steps ws))
      (decides_then (SharesOf n (Known known)) (SharesOf n (Known (dest s ∷ known))) (SharesOf n (Known (known_after ws (dest s ∷ known))))
      (blocks scratch n (laid_out s)) (blocks scratch n (plan_steps ws)) (step_decides known s (taken_rule in_plan w s t.apart) t.reads_known)
      (plan_decides ws p.1 (dest s ∷ known) t.rest))

-- ---- the law
module _ (n : ℕ) (plan known tape c c' : List ℕ) (h : T (reads_only plan known)) (size : length c ≡ 512) (size' : length c' ≡ 512) (agree : AgreeIn n known c c') where
  abbrev ss : List Step
  ss = blocks scratch n (plan_steps plan)

  words : PlanWords plan
  words = reads_words plan known h

  start : Same (SharesOf n (Known known)) (at c) (at c')
  start k (j, l, x, q, e) = rw (e, share_register j x q.0) (agree j x l q.0 q.1)

  after : n ≤ 8 → AgreeIn n (known_after plan known) (exec (program n plan) tape c) (exec (program n plan) tape c')
  after most i r li lr m =
      run c size ∙ run_same _ _ ss (plan_decides n plan words known h) tape (at c) (at c') start (cell i r) (i, li, r, (lr, m), sym (share_register i r lr))
      ∙ sym (run c' size')
    where
      run : (l : List ℕ) → length l ≡ 512 → at (exec (program n plan) tape l) (cell i r) ≡ steps_on ss tape (at l) (cell i r)
      run l e =
          ap (λ (x : List Step). at (exec_steps x tape l) (cell i r)) (words_steps n most plan words)
          ∙ ap (λ (f : Cells). f (cell i r)) (exec_on ss (words_good n most plan words) l tape e)

  on_the_way : Accepted n plan → (s : ℕ) → s < length (program n plan) → step_word n plan s tape c ≡ step_word n plan s tape c'
  on_the_way A s l =
      run c size ∙ words_same _ _ ss (plan_decides n plan words known h) tape (at c) (at c') start s (omega (arith, steps_length (program n plan) ss (program_words n plan) (words_good n A.most plan words))) ∙ sym (run c' size')
    where
      run : (k : List ℕ) → length k ≡ 512 → step_word n plan s tape k ≡ steps_on (take (suc s) ss) tape (at k) (dest (get_or ss s (Rand 0)))
      run k e =
          held_at (program n plan) ss (program_words n plan) (words_good n A.most plan words) s l tape k
          ∙ ap (λ (f : Cells). f (dest (get_or ss s (Rand 0)))) (exec_on (take (suc s) ss) (all_take (λ s. T (in_program s)) (suc s) ss (words_good n A.most plan words)) k tape e)

pub known_decide : KnownDecide
known_decide =
    record {
      registers = λ n most plan known tape c c' h size size' agree. after n plan known tape c c' h size size' agree most;
      steps = λ n plan known tape c c' A h size size' agree. on_the_way n plan known tape c c' h size size' agree A;
    }
