-- The complex product's operands taken from lent slices and its result put into one. Rests on fft_slots' Holding and fft_numbers's Laid.
use mathlib.Core.Path.{◌≡◌, refl, ap, ◌∙◌}
use mathlib.Core.Bool.{Bool, true, false, cond}
use mathlib.Core.List.{List}
use Prim.Native.Nat.{ℕ, zero, suc, ◌*◌, ◌≤◌, ◌<◌}
use native.Mathlib.Omega.{arith}
use lib.Dec.{eqb}
use lib.ListN.{length, replicate, length-replicate}
use Rattle.fft_numbers.specs.Acts.{Slots, holding, lending}
use Rattle.fft_numbers.specs.Complex.{slot_a, slot_b, slot_c, slot_d, slot_re, slot_im, slot_of_part, complex_acts}
use Rattle.fft_numbers.specs.Layout.{number_of}
use Rattle.fft_numbers.specs.Calls.{complex_start, complex_end, complex_shares}
use Rattle.fft_numbers.proofs.Laid.{number_size, laid_out_is}
use Rattle.fft_copies.specs.inner.Inner.{written}
use Rattle.fft_slots.specs.inner.Inner.{slot_at, slot_step, held_of, HeldIn, LentIn, HeldDone}
use Rattle.fft_lent.specs.inner.Inner.{PartsOut}
use Rattle.fft_slots.proofs.Holding.{zeros_held, held_written, lent_written}

part_slot : (j : ℕ) → slot_of_part j < 16
part_slot j = by (eqb j 0)
  where
    by : (b : Bool) → cond b slot_re slot_im < 16
    by true = omega arith
    by false = omega arith

module _ (n : ℕ) (few : n ≤ 8) where
  -- a number of a lent slice into slot k
  part_in : (k S j : ℕ) → k < 16 → (l : List ℕ) (s : Slots (List ℕ)) {w w' : List ℕ} → HeldIn n w s → w' ≡ written slot_step (slot_at k) 0 (number_of n S j l) w
      → HeldIn n w' (holding s k (number_of n S j l))
  part_in k S j lk l s {w} H e = rw e (held_written n few k lk w s H (number_of n S j l) (number_size n S j l))

  -- zeros, and four parts
  pub parts_in : (x y : List ℕ) {w₀ w₁ w₂ w₃ w₄ : List ℕ} → w₀ ≡ replicate 512 0
      → w₁ ≡ written slot_step (slot_at slot_a) 0 (number_of n 2 0 x) w₀ → w₂ ≡ written slot_step (slot_at slot_b) 0 (number_of n 2 1 x) w₁
      → w₃ ≡ written slot_step (slot_at slot_c) 0 (number_of n 2 0 y) w₂ → w₄ ≡ written slot_step (slot_at slot_d) 0 (number_of n 2 1 y) w₃
      → HeldIn n w₄ (complex_start n x y)
  parts_in x y {w₀} e e₁ e₂ e₃ e₄ =
      let s₀ : Slots (List ℕ) = record { held = λ k. replicate n 0; lent = λ j. replicate n 0 } in
      let H₀ : HeldIn n w₀ s₀ = record { size = ap length e ∙ length-replicate {A = ℕ} 512 0; each = λ k lk. ap (held_of n k) e ∙ zeros_held n k few lk } in
      let s₁ = holding s₀ slot_a (number_of n 2 0 x) in
      let s₂ = holding s₁ slot_b (number_of n 2 1 x) in
      let s₃ = holding s₂ slot_c (number_of n 2 0 y) in
      part_in slot_d 2 1 (omega arith) y s₃ (part_in slot_c 2 0 (omega arith) y s₂ (part_in slot_b 2 1 (omega arith) x s₁ (part_in slot_a 2 0 (omega arith) x s₀ H₀ e₁) e₂) e₃) e₄

  -- two parts out
  pub parts_out : (work result : List ℕ) → length result ≡ 2 * n → {r₁ r₂ : List ℕ} → r₁ ≡ written 2 0 0 (held_of n slot_re work) result
      → r₂ ≡ written 2 1 0 (held_of n slot_im work) r₁ → PartsOut n work r₂
  parts_out work result size {r₁} {r₂} e₁ e₂ =
      let s : Slots (List ℕ) = record { held = λ k. replicate n 0; lent = λ j. number_of n 2 j result } in
      let re = lent_written n 2 0 (omega arith) result s (record { size = size; each = λ j lj. refl }) (held_of n slot_re work) (number_size n slot_step (slot_at slot_re) work) in
      let s₁ = lending s 0 (held_of n slot_re work) in
      let L₁ : LentIn n 2 r₁ s₁ = rw e₁ re in
      let L₂ : LentIn n 2 r₂ (lending s₁ 1 (held_of n slot_im work)) = rw e₂ (lent_written n 2 1 (omega arith) r₁ s₁ L₁ (held_of n slot_im work) (number_size n slot_step (slot_at slot_im) work)) in
      record { size = L₂.size; each = at s L₂ }
    where
      at : (s : Slots (List ℕ)) → LentIn n 2 r₂ (lending (lending s 0 (held_of n slot_re work)) 1 (held_of n slot_im work)) → (j : ℕ) → j < 2 → number_of n 2 j r₂ ≡ held_of n (slot_of_part j) work
      at s L zero h = L.each 0 h
      at s L (suc zero) h = L.each 1 h
      at s L (suc (suc j)) h = absurd (omega arith)

  -- the result's words
  pub result_is : (x y tape : List ℕ) {work work' result : List ℕ} → HeldIn n work (complex_start n x y) → HeldDone n complex_acts tape work work' → PartsOut n work' result
      → result ≡ complex_shares n x y tape
  unfolding complex_shares
  result_is x y tape H D P =
      laid_out_is n 2 _ (λ j. (complex_end n x y tape).held (slot_of_part j)) P.size (λ j lj. P.each j lj ∙ (D (complex_start n x y) H).each (slot_of_part j) (part_slot j))
