-- The joined result: after the share program of an accepted plan's first k words every register joins to what these words give unsplit,
-- over any tape. Rests on Blocks (share steps join), Add (the adder) and emitted.Steps (words as steps).
use mathlib.Core.Path.{◌≡◌, refl, sym, ap, ◌∙◌}
use mathlib.Core.Bool.{not}
use mathlib.Core.List.{List, [], ◌∷◌}
use Prim.Native.Nat.{ℕ, ◌<◌, ◌≤◌}
use native.Mathlib.Omega.{arith}
use lib.Dec.{T, eqb}
use lib.ListN.{length, get_or, take, length-set}
use Rattle.word.specs.declared.step.Step.{Step}
use Rattle.word.specs.declared.step.Step.TheVariants.{Const, Xor, And, Not, Shl, Shr, Spread, Add, Rand}
use Rattle.word.specs.Encoding.{within, kind_number, in_plan}
use Rattle.word.specs.Layout.{cell}
use Rattle.word.specs.Table.{dest, becomes}
use Rattle.plain.specs.Machine.{stepped, run}
use Rattle.masking.specs.Translation.{share_cell, scratch, blocks, laid_out, program}
use Rattle.masking.specs.Foretold.{Accepted}
use Rattle.masking.specs.Machine.{exec, exec_steps, Words}
use Rattle.masking.specs.Unsplit.{joined, unsplit}
use Rattle.word.proofs.Ranges.{both, within_cells}
use Rattle.masking.proofs.emitted.Rising.{get_d_from}
use Rattle.masking.proofs.emitted.Tests.{All}
use Rattle.masking.proofs.emitted.Places.{share_register, Places, places}
use Rattle.masking.proofs.emitted.Good.{laid_within}
use Rattle.masking.proofs.emitted.Steps.{PlanWords, plan_words, plan_steps, blocks_append, take_accepted, program_steps, plan_good}
use Rattle.masking.proofs.joined.Cells.{Cells, upd, upd_at, WordCells, at, at_set, within_dest, exec_on}
use Rattle.masking.proofs.joined.After.{after, after_mono, after_then, after_run}
use Rattle.masking.proofs.joined.Sums.{sum_same}
use Rattle.masking.proofs.joined.Once.{join_of, join_words}
use Rattle.masking.proofs.joined.Blocks.{unsplit_on, becomes_same, laid, Joins, blocks_joins}
use Rattle.masking.proofs.joined.Add.{adding_laid, adding_sum}

-- ---- one plan step

-- laid out, it has share steps
pub laid_kinds : (s : Step) → T (in_plan s) → All (λ s. T (laid s)) (laid_out s)
laid_kinds (Const d k) h = (tt, tt)
laid_kinds (Xor d a b) h = (tt, tt)
laid_kinds (And d a b) h = (tt, tt)
laid_kinds (Not d a) h = (tt, tt)
laid_kinds (Shl d a b) h = (tt, tt)
laid_kinds (Shr d a b) h = (tt, tt)
laid_kinds (Spread d a) h = (tt, tt)
laid_kinds (Add d a b) h = adding_laid d a b
laid_kinds (Rand d) h = tt

-- laid out on unsplit registers, it is itself
laid_same : (s : Step) → T (in_plan s) → (R : Cells) → WordCells R → (r : ℕ) → r < 32 → unsplit_on (laid_out s) R r ≡ upd R (dest s) (becomes s R 0) r
laid_same (Const d k) h R w r l = refl
laid_same (Xor d a b) h R w r l = refl
laid_same (And d a b) h R w r l = refl
laid_same (Not d a) h R w r l = refl
laid_same (Shl d a b) h R w r l = refl
laid_same (Shr d a b) h R w r l = refl
laid_same (Spread d a) h R w r l = refl
laid_same (Add d a b) h R w r l =
    let e = within_cells 32 (Add d a b) h in
    adding_sum R d a b e.1.0 e.1.1.0 (w a) (w b) r l
laid_same (Rand d) h R w r l = absurd h

stepped_length : (s : Step) (l : List ℕ) → length l ≡ 32 → length (stepped s l) ≡ 32
unfolding stepped
stepped_length s l e = length-set l (dest s) _ ∙ e

module _ (n : ℕ) (least : 2 ≤ n) (most : n ≤ 8) where
  -- the shares join to the registers of l
  abbrev pub JoinsTo : List ℕ → Cells → Type 0
  JoinsTo l e = WordCells e × ((r : ℕ) → r < 32 → join_of n e r ≡ at l r)

  step_joins : (s : Step) → T (in_plan s) → (l : List ℕ) → length l ≡ 32 → (c : Cells) → JoinsTo l c → after (blocks scratch n (laid_out s)) (JoinsTo (stepped s l)) c
  unfolding stepped
  step_joins s h l size c j =
      after_mono (blocks scratch n (laid_out s)) (Joins n 40 scratch P some (unsplit_on (laid_out s) (join_of n c))) (JoinsTo (stepped s l)) c
      (λ e q. (
        q.0,
        λ r m.
            q.1 r (omega arith) ∙ laid_same s h (join_of n c) (join_words n c j.0) r m
            ∙ upd_at (join_of n c) (at l) (dest s) (becomes s (join_of n c) 0) r (j.1 r m)
            ∙ ap (λ (v : ℕ). upd (at l) (dest s) v r) (becomes_same 32 s registers (join_of n c) (at l) j.1)
            ∙ ap (λ (R : Cells). R r) (sym (at_set l (dest s) _ (omega (arith, within_dest 32 s registers)))),
      ))
      (blocks_joins n 40 scratch P some (laid_out s) (laid_within s h) (laid_kinds s h) (join_of n c) c (j.0, λ r m. refl))
    where
      P : Places n 40 scratch
      P = places n most

      some : 0 < n
      some = omega arith

      registers : T (within 32 s)
      registers = (both (not (eqb (kind_number s) 9)) (within 32 s) h).1

  -- ---- a plan
  pub plan_joins : (plan : List ℕ) → PlanWords plan → (l : List ℕ) → length l ≡ 32 → (c : Cells) → JoinsTo l c
      → after (blocks scratch n (plan_steps plan)) (JoinsTo (run plan l)) c
  plan_joins [] h l size c j = j
  plan_joins (w ∷ ws) h l size c j =
      rw (h.0.apart, blocks_append scratch n (laid_out h.0.step) (plan_steps ws))
      (after_then (blocks scratch n (laid_out h.0.step)) (blocks scratch n (plan_steps ws)) (JoinsTo (stepped h.0.step l)) (JoinsTo (run ws (stepped h.0.step l))) c
      (step_joins h.0.step h.0.in_range l size c j) (λ e q. plan_joins ws h.1 (stepped h.0.step l) (stepped_length h.0.step l size) e q))

-- ---- lists of cells

module _ (n : ℕ) (l : List ℕ) (r : ℕ) (lr : r < 32) where
  pub joined_of : joined n l r ≡ join_of n (at l) r
  unfolding joined
  joined_of = sum_same n (λ i. at l (cell i r)) (λ i. at l (share_cell i r)) (λ i h. ap (at l) (sym (share_register i r lr)))

  unsplit_at : get_or (unsplit n l) r 0 ≡ joined n l r
  unsplit_at = get_d_from (joined n l) 0 32 r lr ∙ ap (joined n l) (omega arith)

-- over cells l and any tape, the shares of a plan's program join to the plan's registers
program_joins : (n : ℕ) (plan : List ℕ) → Accepted n plan → (l tape : List ℕ) → length l ≡ 512 → Words l → Words tape → (r : ℕ) → r < 32
    → joined n (exec (program n plan) tape l) r ≡ get_or (run plan (unsplit n l)) r 0
program_joins n plan A l tape size words tapeWords r lr =
    joined_of n (exec (program n plan) tape l) r lr
    ∙ ap (λ (c : Cells). join_of n c r)
    (ap (λ (ss : List Step). at (exec_steps ss tape l)) (program_steps n plan A) ∙ exec_on (blocks scratch n (plan_steps plan)) (plan_good n plan A) l tape size)
    ∙ (after_run (blocks scratch n (plan_steps plan)) (JoinsTo n A.least A.most (run plan (unsplit n l))) (at l)
    (plan_joins n A.least A.most plan (plan_words plan A.good) (unsplit n l) refl (at l)
    (words, λ r m. sym (joined_of n l r m) ∙ sym (unsplit_at n l r m))) tape tapeWords).1 r lr

-- the theorem
pub joined_after : (n : ℕ) (plan : List ℕ) → Accepted n plan → (l tape : List ℕ) → length l ≡ 512 → Words l → Words tape → (k r : ℕ) → r < 32
    → joined n (exec (program n (take k plan)) tape l) r ≡ get_or (run (take k plan) (unsplit n l)) r 0
joined_after n plan A l tape size words tapeWords k = program_joins n (take k plan) (take_accepted n plan A k) l tape size words tapeWords
