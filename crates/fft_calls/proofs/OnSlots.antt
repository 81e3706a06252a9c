-- A call on slots, for any operation: its operands placed from slots a and b, its plan run from place t of the tape on, and register 2 kept in
-- slot `to`. What the run needs (`run_ready`), and what the slots are then (`call_done`). Rests on fft_slots' Holding and masked_call's Beside.
use mathlib.Core.Path.{◌≡◌, sym, ap, ap₂, ◌∙◌}
use mathlib.Core.List.{List, [], ◌∷◌}
use Prim.Native.Nat.{ℕ, ◌+◌, ◌*◌}
use native.Mathlib.Omega.{arith}
use lib.Dec.{T}
use lib.ListN.{get_or, drop}
use lib.Seq.{get_or-drop}
use Rattle.masking.specs.Foretold.{Accepted}
use Rattle.masking.specs.Machine.{steps_of}
use Rattle.checks.specs.Unset.{known_after, member_of, reads_only}
use Rattle.masking.specs.Translation.{program}
use Rattle.and_parts.specs.inner.Effects.{Enough, Ran}
use Rattle.binary64.specs.Operations.{Operation}
use Rattle.plans.specs.BuiltIns.{plan_of}
use Rattle.plans.proofs.BuiltIns.{built_ins}
use Rattle.operations.proofs.Joined.{accepted}
use Rattle.masked_call.specs.inner.Inner.{machine_cells}
use Rattle.masked_call.specs.Shares.{placed_in, result_shares}
use Rattle.masked_call.proofs.Beside.{After, after_beside, enough_from, result_size}
use Rattle.fft_numbers.specs.Acts.{Slots, holding}
use Rattle.fft_numbers.specs.Layout.{number_of}
use Rattle.fft_numbers.proofs.Laid.{number_size}
use Rattle.fft_copies.specs.inner.Inner.{written}
use Rattle.fft_slots.specs.declared.Slot.{Slot}
use Rattle.fft_slots.specs.inner.Inner.{slot_at, slot_number, slot_step, held_of, HeldIn}
use Rattle.fft_slots.proofs.Holding.{read_other, held_written}
use Rattle.fft_slots.proofs.Sixteen.{slot_few}
use Rattle.fft_calls.specs.inner.Inner.{CallReady, CallDone}

module _ (o : Operation) (n t : ℕ) (tape work : List ℕ) (R : CallReady o n t tape work) where
  fits : Accepted n (plan_of o)
  fits = accepted (plan_of o) _ (built_ins o).computes n R.0 R.1

  pub run_ready : Enough tape t (steps_of (program n (plan_of o)))
  run_ready = enough_from n (plan_of o) fits tape t R.3

  pub call_done : (to a b : Slot) → T (reads_only (plan_of o) (0 ∷ 1 ∷ [])) → T (member_of (known_after (plan_of o) (0 ∷ 1 ∷ [])) 2)
      → {w₁ w₂ w₃ : List ℕ} {next : ℕ} → w₁ ≡ placed_in 1 0 (held_of n (slot_number b) work) (placed_in 0 0 (held_of n (slot_number a) work) work)
      → Ran (steps_of (program n (plan_of o))) tape t w₁ w₂ next
      → w₃ ≡ written slot_step (slot_at (slot_number to)) 0 (number_of n 32 2 w₂) w₂
      → CallDone o n to a b t tape work next w₃
  call_done to a b reads writes {w₁} {w₂} {w₃} {next} e₁ r e₃ =
      let D = after_beside n (plan_of o) (held_of n (slot_number a) work) (held_of n (slot_number b) work) tape work fits
      (number_size n slot_step (slot_at (slot_number a)) work) (number_size n slot_step (slot_at (slot_number b)) work) R.2 reads writes t R.3 e₁ r in
      (D.next, λ s H. kept s H D)
    where
      kept : (s : Slots (List ℕ)) → HeldIn n work s → After (plan_of o) n (held_of n (slot_number a) work) (held_of n (slot_number b) work) tape (drop machine_cells work) t w₂ next
          → HeldIn n w₃ (holding s (slot_number to) (result_shares (plan_of o) n (s.held (slot_number a)) (s.held (slot_number b)) (drop t tape)))
      kept s H D =
          let same : HeldIn n w₂ s = record { size = D.size; each = λ m lm. slot_beside m D.beside ∙ H.each m lm } in
          let shares : number_of n 32 2 w₂ ≡ result_shares (plan_of o) n (s.held (slot_number a)) (s.held (slot_number b)) (drop t tape) =
          D.result ∙ ap₂ (λ (x y : List ℕ). result_shares (plan_of o) n x y (drop t tape)) (H.each (slot_number a) (slot_few a)) (H.each (slot_number b) (slot_few b)) in
          rw e₃ (rw shares (held_written n R.1 (slot_number to) (slot_few to) w₂ s same _ (result_size n (plan_of o) (s.held (slot_number a)) (s.held (slot_number b)) (drop t tape))))
        where
          slot_beside : (m : ℕ) → drop machine_cells w₂ ≡ drop machine_cells work → held_of n m w₂ ≡ held_of n m work
          slot_beside m q =
              read_other n slot_step (slot_at m) work w₂
              (λ i l.
              let p : slot_step * i + slot_at m ≡ machine_cells + (slot_step * i + m) = omega arith in
              ap (λ (x : ℕ). get_or w₂ x 0) p ∙ sym (get_or-drop machine_cells w₂ (slot_step * i + m) 0) ∙ ap (λ (l : List ℕ). get_or l (slot_step * i + m) 0) q
              ∙ get_or-drop machine_cells work (slot_step * i + m) 0 ∙ ap (λ (x : ℕ). get_or work x 0) (sym p))
