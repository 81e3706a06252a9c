-- The result's shares do not go by what the work slice held: where a plan reads only operands' registers, 0 and 1 at most, and those written before,
-- and writes register 2, they are those of the run over zeros (`uncleared_result`). Rests on masking's Known, and on Filling.
use mathlib.Core.Path.{◌≡◌, refl, sym, ap, ◌∙◌}
use mathlib.Core.List.{List, [], ◌∷◌}
use Prim.Native.Nat.{ℕ, suc, zero, ◌≤◌, ◌<◌}
use native.Mathlib.Nat.{zero-add}
use native.Mathlib.Omega.{arith}
use lib.Dec.{T, ltb, ltb→lt, eqb, eqb→eq}
use lib.ListN.{length, get_or, replicate}
use Rattle.word.specs.Layout.{cell}
use Rattle.word.specs.Table.{all_in}
use Rattle.word.proofs.Ranges.{both}
use Rattle.masking.specs.Translation.{program}
use Rattle.masking.specs.Machine.{exec, steps_of}
use Rattle.masking.specs.Foretold.{Accepted, foretold_tape}
use Rattle.checks.specs.Unset.{member_of, reads_only, known_after}
use Rattle.masking.specs.Reads.{step_word}
use Rattle.masking.proofs.emitted.Tests.{or_elim}
use Rattle.masking.proofs.joined.Known.{known_decide}
use Rattle.and_parts.specs.inner.Effects.{Ran}
use Rattle.masked_call.specs.Shares.{placed_in, placed_over, placed, result_shares, shares_of}
use Rattle.masked_call.proofs.Plans.{finished_is}
use Rattle.masked_call.proofs.Filling.{shares_same, placed_size, placed_other, placed_share}

-- registers that are known are operands' registers
below : (known : List ℕ) → T (all_in (λ r. ltb r 2) known) → (r : ℕ) → T (member_of known r) → r < 2
below [] h r m = absurd m
below (q ∷ known) h r m =
    let e = both (ltb q 2) (all_in (λ r. ltb r 2) known) h in
    or_elim (eqb q r) (member_of known r) (λ x. omega (arith, ltb→lt q 2 e.0, eqb→eq q r x)) (λ x. below known e.1 r x) m

-- both operands placed over any cells
module _ (n : ℕ) (small : n ≤ 8) (x y : List ℕ) (size_x : length x ≡ n) (size_y : length y ≡ n) where
  abbrev over : List ℕ → List ℕ
  over c = placed_over x y c

  over_size : (c : List ℕ) → length (over c) ≡ length c
  over_size c = placed_size 1 0 y (placed_in 0 0 x c) ∙ placed_size 0 0 x c

  register_0 : (c : List ℕ) → length c ≡ 512 → (i : ℕ) → i < n → get_or (over c) (cell i 0) 0 ≡ get_or x i 0
  register_0 c size i l =
      placed_other 1 0 y (placed_in 0 0 x c) (cell i 0) (λ j a b e. omega arith)
      ∙ ap (λ (k : ℕ). get_or (placed_in 0 0 x c) (cell k 0) 0) (sym (zero-add i))
      ∙ placed_share 0 0 x c i (omega arith) (omega arith) size (omega arith)

  register_1 : (c : List ℕ) → length c ≡ 512 → (i : ℕ) → i < n → get_or (over c) (cell i 1) 0 ≡ get_or y i 0
  register_1 c size i l =
      ap (λ (k : ℕ). get_or (over c) (cell k 1) 0) (sym (zero-add i))
      ∙ placed_share 1 0 y (placed_in 0 0 x c) i (omega arith) (omega arith) (placed_size 0 0 x c ∙ size) (omega arith)

  same : (c c' : List ℕ) → length c ≡ 512 → length c' ≡ 512 → (i r : ℕ) → i < n → r < 2 → get_or (over c) (cell i r) 0 ≡ get_or (over c') (cell i r) 0
  same c c' size size' i zero l h = register_0 c size i l ∙ sym (register_0 c' size' i l)
  same c c' size size' i (suc zero) l h = register_1 c size i l ∙ sym (register_1 c' size' i l)
  same c c' size size' i (suc (suc r)) l h = absurd (omega arith)

  pub uncleared_result : (plan known tape c : List ℕ) → T (all_in (λ r. ltb r 2) known) → T (reads_only plan known) → T (member_of (known_after plan known) 2)
      → length c ≡ 512 → shares_of n 2 (exec (program n plan) tape (placed_in 1 0 y (placed_in 0 0 x c))) ≡ shares_of n 2 (exec (program n plan) tape (placed x y))
  unfolding placed
  uncleared_result plan known tape c low reads writes size =
      let zeros : List ℕ = replicate 512 0 in
      shares_same n _ _
      (λ i l. known_decide.registers n small plan known tape (over c) (over zeros) reads (over_size c ∙ size) (over_size zeros)
      (λ j r k lr m. same c zeros size refl j r k (below known low r m)) i 2 l (omega arith) writes)

  -- at every step the same word
  pub uncleared_steps : (plan known tape c : List ℕ) → Accepted n plan → T (all_in (λ r. ltb r 2) known) → T (reads_only plan known) → length c ≡ 512
      → (s : ℕ) → s < length (program n plan) → step_word n plan s tape (placed_over x y c) ≡ step_word n plan s tape (placed x y)
  unfolding placed
  uncleared_steps plan known tape c A low reads size =
      let zeros : List ℕ = replicate 512 0 in
      known_decide.steps n plan known tape (over c) (over zeros) A reads (over_size c ∙ size) (over_size zeros) (λ j r k lr m. same c zeros size refl j r k (below known low r m))

  -- the same of a plan's words done on the cells, with the operands placed over whatever these held
  pub result_by : (plan tape : List ℕ) → Accepted n plan → foretold_tape n plan ≤ length tape → T (reads_only plan (0 ∷ 1 ∷ [])) → T (member_of (known_after plan (0 ∷ 1 ∷ [])) 2)
      → (c : List ℕ) {begun cells : List ℕ} {next : ℕ} → length c ≡ 512 → begun ≡ placed_in 1 0 y (placed_in 0 0 x c) → Ran (steps_of (program n plan)) tape 0 begun cells next
      → shares_of n 2 cells ≡ result_shares plan n x y tape
  unfolding result_shares
  result_by plan tape A h reads writes c size e r =
      ap (shares_of n 2) (r.cells ∙ ap (exec (program n plan) tape) e)
      ∙ uncleared_result plan (0 ∷ 1 ∷ []) tape c tt reads writes size
      ∙ ap (shares_of n 2) (sym (finished_is n plan x y tape A h))
