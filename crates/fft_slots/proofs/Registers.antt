-- A call's operands placed from slots. Rests on Holding.
use mathlib.Core.Path.{◌≡◌, refl, ap, ap₂, ◌∙◌}
use mathlib.Core.List.{List, [], ◌∷◌}
use Prim.Native.Nat.{ℕ, suc, ◌+◌, ◌*◌, ◌≤◌, ◌<◌}
use native.Mathlib.Omega.{arith}
use lib.ListN.{length, set}
use Rattle.word.specs.Layout.{cell}
use Rattle.masked_call.specs.Shares.{placed_in}
use Rattle.fft_numbers.proofs.Laid.{number_size}
use Rattle.fft_copies.specs.inner.Inner.{written}
use Rattle.fft_copies.proofs.Written.{written_other}
use Rattle.fft_slots.specs.inner.Inner.{slot_at, slot_step, held_of}
use Rattle.fft_slots.proofs.Holding.{read_other}

-- shares written 32 apart are shares placed in a register
written_placed : (r i : ℕ) (xs l : List ℕ) → written 32 r i xs l ≡ placed_in r i xs l
written_placed r i [] l = refl
written_placed r i (x ∷ xs) l = written_placed r (suc i) xs (set l (cell i r) x)

module _ (n : ℕ) (few : n ≤ 8) (work : List ℕ) (size : length work ≡ 512) where
  -- slots lie beside a register
  slot_placed : (r k : ℕ) (xs l : List ℕ) → r < 32 → length xs ≡ n → held_of n k (written 32 r 0 xs l) ≡ held_of n k l
  slot_placed r k xs l lr e =
      read_other n slot_step (slot_at k) l (written 32 r 0 xs l)
      (λ i li. written_other 32 r 0 xs l (slot_step * i + slot_at k) (λ j lo hi q. omega arith))

  pub operands_are : (a b : ℕ) {w₁ w₂ : List ℕ} → w₁ ≡ written 32 0 0 (held_of n a work) work → w₂ ≡ written 32 1 0 (held_of n b w₁) w₁
      → w₂ ≡ placed_in 1 0 (held_of n b work) (placed_in 0 0 (held_of n a work) work)
  operands_are a b {w₁} {w₂} e₁ e₂ =
      let held : held_of n b w₁ ≡ held_of n b work =
      ap (held_of n b) e₁ ∙ slot_placed 0 b (held_of n a work) work (omega arith) (number_size n slot_step (slot_at a) work) in
      e₂ ∙ ap₂ (written 32 1 0) held (e₁ ∙ written_placed 0 0 (held_of n a work) work) ∙ written_placed 1 0 (held_of n b work) _
