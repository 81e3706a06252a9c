-- Names that inner contracts cite: nothing here has to be believed. A call of operation o on the numbers in slots a and b, its result into slot
-- `to`, over the tape from `start` on.
use Rattle.std.specs.Prelude.{◌≡◌, List, [], ◌∷◌, ℕ, ◌+◌, ◌≤◌, length, drop}
use Rattle.masking.specs.Foretold.{foretold_tape}
use Rattle.binary64.specs.Operations.{Operation}
use Rattle.plans.specs.BuiltIns.{plan_of}
use Rattle.fft_numbers.specs.Acts.{Call}
use Rattle.fft_slots.specs.declared.Slot.{Slot}
use Rattle.fft_slots.specs.inner.Inner.{HeldDone, slot_number}

module _ (o : Operation) (n : ℕ) where
  -- what it needs
  abbrev pub CallReady : ℕ → List ℕ → List ℕ → Type 0
  CallReady start tape work = (2 ≤ n) × (n ≤ 8) × (length work ≡ 512) × (start + foretold_tape n (plan_of o) ≤ length tape)

  -- the next place of the tape, and what is held then
  abbrev pub CallDone : Slot → Slot → Slot → ℕ → List ℕ → List ℕ → ℕ → List ℕ → Type 0
  CallDone to a b start tape work next work' =
      (next ≡ start + foretold_tape n (plan_of o)) × HeldDone n (Call o (slot_number to) (slot_number a) (slot_number b) ∷ []) (drop start tape) work work'
