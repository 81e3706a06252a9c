-- Wiped before the copy, z gives register d nothing but zeros. Rests on joined's Zeroed and Once.
use mathlib.Core.Path.{◌≡◌, refl, sym, ap, ◌∙◌}
use mathlib.Core.List.{List, ◌++◌, map}
use Prim.Native.Nat.{ℕ, ◌<◌, ◌≤◌}
use native.Mathlib.Omega.{arith}
use lib.Dec.{T}
use lib.ListN.{length, drop}
use Rattle.bits.specs.Ops.{shl_w}
use Rattle.bits.proofs.Xor.{xor_zero}
use Rattle.bits.proofs.Shift.{shl_zero}
use Rattle.word.specs.declared.step.Step.{Step}
use Rattle.word.specs.declared.step.Step.TheVariants.{Shl}
use Rattle.word.specs.Encoding.{in_program}
use Rattle.masking.specs.Translation.{shares, share_cell, scratch, scratch_cells, wiping}
use Rattle.masking.specs.Machine.{Words, exec_steps, rands_of}
use Rattle.masking.specs.Unsplit.{joined, xor_over}
use Rattle.masking.specs.WipedFirst.{WipedFirstZero}
use Rattle.masking.proofs.emitted.Places.{places}
use Rattle.masking.proofs.emitted.Wiping.{each_scratch, scratch_parts}
use Rattle.masking.proofs.emitted.Tests.{All, all_append}
use Rattle.masking.proofs.emitted.Ranges.{each, wiping_all}
use Rattle.masking.proofs.emitted.Good.{program_steps, below_512}
use Rattle.masking.proofs.joined.Cells.{Cells, upd_same, upd_other, at, exec_on, drop_words}
use Rattle.masking.proofs.joined.After.{after, after_mono, after_then, after_run}
use Rattle.masking.proofs.joined.Sums.{sum_same, sum_through}
use Rattle.masking.proofs.joined.Once.{join_of, Sets, each_joins}
use Rattle.masking.proofs.joined.Zeroed.{Zeroed, wiping_zeroes}
use Rattle.masking.proofs.joined.Plan.{joined_of}
use Rattle.masking.proofs.InARow.{exec_steps_append, exec_steps_size}

module _ (n d : ℕ) (most : n ≤ 8) (ld : d < 32) where
  abbrev W : List Step
  W = wiping (scratch_cells scratch n)

  abbrev copy : List Step
  copy = map (λ i. Shl (share_cell i d) (scratch.z i) 0) (shares n)

  good : All (λ s. T (in_program s)) (W ++ copy)
  good =
      let N = below_512 n most in
      let P : Step → Type 0 = λ s. T (in_program s) in
      all_append P W copy
      (wiping_all n 40 scratch (λ c. c < 512) N P program_steps (scratch_cells scratch n) (each_scratch (λ c. c < 512) scratch n N.y N.z N.t N.u))
      (each n 40 scratch (λ c. c < 512) N P program_steps _ (λ i l. program_steps (Shl (share_cell i d) (scratch.z i) 0) tt (N.share i d l (omega arith), (N.z i l, tt)) tt))

  zeros : xor_over (λ i. 0) (shares n) ≡ 0
  zeros = sum_through (λ x. 0) (λ a b. sym (xor_zero 0)) (λ i. 0) (shares n)

  -- a copy of zeros
  copied : (c : Cells) → Zeroed n scratch c → after copy (λ e. join_of n e d ≡ 0) c
  copied c z =
      let L = places n most in
      after_mono copy (Sets n 40 c d 0) (λ e. join_of n e d ≡ 0) c (λ e h. h d (omega arith) ∙ upd_same (join_of n c) d 0)
      (each_joins n 40 scratch L d (omega arith) (λ i. Shl (share_cell i d) (scratch.z i) 0) (λ i c. shl_w (c (scratch.z i)) 0) (λ i t c. refl)
      (λ c i j v l m ne. ap (λ (x : ℕ). shl_w x 0) (upd_other c (share_cell j d) v (scratch.z i) (λ q. L.share_z j d i m (omega arith) l (sym q)))) c 0
      (sum_same n (λ i. shl_w (c (scratch.z i)) 0) (λ i. 0) (λ i l. ap (λ (x : ℕ). shl_w x 0) ((scratch_parts (λ k. c k ≡ 0) scratch n z).z i l) ∙ shl_zero 0 (omega arith)) ∙ zeros))

  late : (l tape : List ℕ) → length l ≡ 512 → Words tape → joined n (exec_steps (W ++ copy) tape l) d ≡ 0
  late l tape size words =
      joined_of n (exec_steps (W ++ copy) tape l) d ld ∙ ap (λ (c : Cells). join_of n c d) (exec_on (W ++ copy) good l tape size)
      ∙ after_run (W ++ copy) (λ e. join_of n e d ≡ 0) (at l)
      (after_then W copy (Zeroed n scratch) (λ e. join_of n e d ≡ 0) (at l) (wiping_zeroes (scratch_cells scratch n) (at l)) copied) tape words

pub wiped_first_zero : WipedFirstZero
wiped_first_zero n d most ld before cells tape S words =
    ap (λ (l : List ℕ). joined n l d) (exec_steps_append before (W n d most ld ++ copy n d most ld) tape cells)
    ∙ late n d most ld (exec_steps before tape cells) (drop (rands_of before) tape) (exec_steps_size before tape cells ∙ S.size) (drop_words tape words (rands_of before))
