-- Agreement in one share is kept: over paired tapes two runs of a plan's whole program that start in agreement in a share end so. The row of
-- gadgets with no marks asks before it for the share asked for after it, and for no other. Rests on Gadgets for the row, on Hidden for the
-- pairing, and on Secret and emitted's Steps for the words that the translation writes.
use mathlib.Core.Path.{◌≡◌, sym, subst, ◌∙◌}
use mathlib.Core.Bool.{Bool}
use mathlib.Core.List.{List, [], ◌∷◌, map}
use Prim.Native.Nat.{ℕ, ◌<◌, ◌≤◌}
use native.Mathlib.Omega.{arith}
use lib.Dec.{T, ltb→lt, lt→ltb}
use lib.ListN.{get_or}
use Rattle.word.specs.declared.step.Step.{Step}
use Rattle.word.specs.Encoding.{in_program}
use Rattle.word.specs.Layout.{cell}
use Rattle.masking.specs.Translation.{Scratch, scratch, share_cell, blocks, program}
use Rattle.masking.specs.Foretold.{Accepted, foretold_tape}
use Rattle.masking.specs.Machine.{exec_steps, exec, Start}
use Rattle.masking.specs.Secrecy.{Agree, Tape, Pairing}
use Rattle.masking.specs.Kept.{SharesKept}
use Rattle.masking.proofs.emitted.Tests.{All}
use Rattle.masking.proofs.emitted.Places.{Places, places, share_register}
use Rattle.masking.proofs.emitted.Steps.{plan_steps, plan_good, program_steps}
use Rattle.masking.proofs.joined.Cells.{at}
use Rattle.masking.proofs.secret.Acts.{acts}
use Rattle.masking.proofs.secret.Sets.{has, has_head, has_only, count, count_has}
use Rattle.masking.proofs.secret.Registers.{Agreed}
use Rattle.masking.proofs.secret.Reading.{reading}
use Rattle.masking.proofs.secret.Gadgets.{Gadget, row, Ready, need, need_size, need_keeps, row_wp}
use Rattle.masking.proofs.secret.Blocks.{gadget, row_blocks, blocks_ready}
use Rattle.masking.proofs.secret.Hidden.{Ends, ends}
use Rattle.masking.proofs.secret.Secret.{registers, plan_reads, tape_length}

-- runs that start in agreement in share i of the registers R among w end so
abbrev KeptIn : ℕ → ℕ → (ℕ → Bool) → List Step → ℕ → Type 0
KeptIn n w R ss i = (l l' : List ℕ) → Start l → Start l' → Agreed n w R (has (i ∷ [])) (at l) (at l') → Ends (Agreed n w R (has (i ∷ []))) ss l l'

row_kept : (n w : ℕ) (gs : List (Gadget n w)) (R : ℕ → Bool) → Ready n w R gs → All (λ s. T (in_program s)) (row n w gs) → 2 ≤ n → (i : ℕ)
    → KeptIn n w R (row n w gs) i
row_kept n w gs R ready good two i l l' st st' g =
    ends (row n w gs) good [] l l' st st' (Agreed n w R (has (i ∷ [])))
    (row_wp n w gs (has []) (i ∷ []) R ready (omega (arith, none)) (at l) (at l') (λ k r lk lr q x. g k r lk lr q (rw (alone k x) (has_head [] i))))
  where
    none : count (has []) (acts (row n w gs)) ≤ 0
    none = count_has [] (acts (row n w gs))

    -- i is needed, and there is room for one only
    alone : (k : ℕ) → T (has (need n w gs (has []) (i ∷ [])) k) → k ≡ i
    alone =
        has_only (need n w gs (has []) (i ∷ [])) i (omega (arith, need_size n w gs (has []) (i ∷ []), none))
        (need_keeps n w gs (has []) (i ∷ []) i (has_head [] i))

blocks_kept : (n w : ℕ) (sc : Scratch) → Places n w sc → (ss : List Step) (R : ℕ → Bool) → T (reading w R ss)
    → All (λ s. T (in_program s)) (blocks sc n ss) → 2 ≤ n → (i : ℕ) → KeptIn n w R (blocks sc n ss) i
blocks_kept n w sc L ss R reads good two i =
    subst (λ (P : List Step). KeptIn n w R P i) (row_blocks n w sc L ss)
    (row_kept n w (map (gadget n w sc L) ss) R (blocks_ready n w sc L ss R reads)
    (subst (All (λ s. T (in_program s))) (sym (row_blocks n w sc L ss)) good) two i)

module _ (n : ℕ) (plan : List ℕ) (A : Accepted n plan) (i : ℕ) where
  abbrev steps : List Step
  steps = blocks scratch n (plan_steps plan)

  kept : KeptIn n 40 registers steps i
  kept = blocks_kept n 40 scratch (places n A.most) (plan_steps plan) registers (plan_reads n plan A) (plan_good n plan A) A.least i

  -- a pairing of tapes of length L whose runs end in agreement
  abbrev Agreeing : List ℕ → List ℕ → ℕ → Type 0
  Agreeing l l' L = (p : Pairing L) × ((tape : List ℕ) → Tape L tape → Agree i (exec (program n plan) tape l) (exec (program n plan) (p.there tape) l'))

  -- what share i of the plan's registers holds after the program's words is what it holds after the steps
  program_cell : (r : ℕ) → r < 32 → (tape l : List ℕ) → get_or (exec (program n plan) tape l) (cell i r) 0 ≡ get_or (exec_steps steps tape l) (share_cell i r) 0
  program_cell r lr tape l = rw (program_steps n plan A, share_register i r lr)

  agreed : (l l' : List ℕ) → Agree i l l' → Agreed n 40 registers (has (i ∷ [])) (at l) (at l')
  agreed l l' g k r lk lr q x =
      let l32 : r < 32 = ltb→lt r 32 q in
      rw (has_only (i ∷ []) i (omega arith) (has_head [] i) k x, share_register i r l32) (g r l32)

  ends_agreeing : i < n → (l l' : List ℕ) → Start l → Start l' → Agree i l l' → Agreeing l l' (foretold_tape n plan)
  ends_agreeing li l l' st st' g =
      let h = kept l l' st st' (agreed l l' g) in
      subst (Agreeing l l') (tape_length n plan A) (
        h.pairing,
        λ tape t r lr.
            program_cell r lr tape l ∙ h.end tape t i r li (omega arith) (lt→ltb r 32 lr) (has_head [] i) ∙ sym (program_cell r lr (h.pairing.there tape) l'),
      )

pub keeps_shares : SharesKept
keeps_shares n plan A i li l l' st st' g =
    let q = ends_agreeing n plan A i li l l' st st' g in
    record { pairing = q.0; agree = q.1 }
