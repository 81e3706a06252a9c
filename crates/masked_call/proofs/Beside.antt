-- A plan's run over any cells: it leaves those from 352 on as they are, and the result's shares are those of the run over zeros
-- (`after_beside`). The result goes by the tape words foretold alone (`result_part`). Rests on masking's Low and Beside, and on Plans and Known.
use mathlib.Core.Path.{◌≡◌, refl, sym, ap, ◌∙◌}
use mathlib.Core.List.{List, [], ◌∷◌, ◌++◌}
use Prim.Native.Nat.{ℕ, suc, ◌+◌, ◌≤◌, ◌<◌}
use native.Mathlib.Omega.{arith}
use lib.Dec.{T}
use lib.ListN.{length, get_or, set, take, drop, take-append-drop, length-take, length-drop, length-set, length-map}
use lib.Seq.{set-append_left, drop_at, length-take-le}
use Rattle.word.specs.declared.step.Step.{Step}
use Rattle.word.specs.Layout.{cell}
use Rattle.masking.specs.Translation.{shares, program}
use Rattle.masking.specs.Foretold.{Accepted, foretold_tape}
use Rattle.checks.specs.Unset.{known_after, member_of, reads_only}
use Rattle.masking.specs.Machine.{steps_of, exec_steps, rands_of}
use Rattle.masking.proofs.emitted.Rising.{length_from}
use Rattle.masking.proofs.emitted.Counts.{plan_counts}
use Rattle.masking.proofs.emitted.Low.{program_low}
use Rattle.masking.proofs.joined.Beside.{exec_beside, exec_part}
use Rattle.masking.proofs.InARow.{exec_steps_size}
use Rattle.and_parts.specs.inner.Effects.{Enough, Ran}
use Rattle.masked_call.specs.inner.Inner.{machine_cells}
use Rattle.masked_call.specs.Shares.{placed_in, placed, finished, shares_of, result_shares}
use Rattle.masked_call.proofs.Filling.{placed_size}
use Rattle.masked_call.proofs.Plans.{finished_is}
use Rattle.masked_call.proofs.Known.{uncleared_result}

-- ---- operands and results beside other cells

-- shares into a register lie below 352
placed_beside : (r i : ℕ) (x low high : List ℕ) → r < 32 → i + length x ≤ 8 → length low ≡ machine_cells → placed_in r i x (low ++ high) ≡ placed_in r i x low ++ high
placed_beside r i [] low high lr few size = refl
placed_beside r i (v ∷ x) low high lr few size =
    ap (placed_in r (suc i) x) (set-append_left low high (cell i r) v (omega arith))
    ∙ placed_beside r (suc i) x (set low (cell i r) v) high lr (omega arith) (length-set low (cell i r) v ∙ size)

-- ---- a plan's run

-- after a run from place t of the tape: the cells beside are as they were, and register 2 has the result's shares
pub record After (plan : List ℕ) (n : ℕ) (x y tape high : List ℕ) (t : ℕ) (cells' : List ℕ) (t' : ℕ) : Type 0 where
  pub size : length cells' ≡ 512
  pub beside : drop machine_cells cells' ≡ high
  pub result : shares_of n 2 cells' ≡ result_shares plan n x y (drop t tape)
  pub next : t' ≡ t + foretold_tape n plan

pub result_size : (n : ℕ) (plan x y tape : List ℕ) → length (result_shares plan n x y tape) ≡ n
unfolding result_shares
result_size n plan x y tape = length-map (shares n) (λ i. get_or (finished plan n x y tape) (cell i 2) 0) ∙ length_from 0 n

module _ (n : ℕ) (plan : List ℕ) (A : Accepted n plan) where
  abbrev ss : List Step
  ss = steps_of (program n plan)

  taken : rands_of ss ≡ foretold_tape n plan
  taken = (plan_counts n plan A).tape

  -- the tape words foretold are enough from any place on
  pub enough_from : (tape : List ℕ) (t : ℕ) → t + foretold_tape n plan ≤ length tape → Enough tape t ss
  enough_from tape t h = omega (arith, taken)

  -- the result goes by no others
  pub result_part : (x y tape : List ℕ) → foretold_tape n plan ≤ length tape → result_shares plan n x y (take (foretold_tape n plan) tape) ≡ result_shares plan n x y tape
  unfolding result_shares
  result_part x y tape h =
      let part = take (foretold_tape n plan) tape in
      ap (shares_of n 2)
      (finished_is n plan x y part A (omega (arith, length-take (foretold_tape n plan) tape))
      ∙ ap (λ (k : ℕ). exec_steps ss (take k tape) (placed x y)) (sym taken) ∙ exec_part ss tape (placed x y) ∙ sym (finished_is n plan x y tape A h))

-- operands placed over any cells, and the plan run on them
pub after_beside : (n : ℕ) (plan x y tape c : List ℕ) → Accepted n plan → length x ≡ n → length y ≡ n → length c ≡ 512
    → T (reads_only plan (0 ∷ 1 ∷ [])) → T (member_of (known_after plan (0 ∷ 1 ∷ [])) 2) → (t : ℕ) → t + foretold_tape n plan ≤ length tape
    → {cells cells' : List ℕ} {t' : ℕ} → cells ≡ placed_in 1 0 y (placed_in 0 0 x c)
    → Ran (steps_of (program n plan)) tape t cells cells' t' → After plan n x y tape (drop machine_cells c) t cells' t'
unfolding result_shares
after_beside n plan x y tape c A lx ly size reads writes t h {cells} {cells'} {t'} e r =
    let ss = steps_of (program n plan) in
    let rest = drop t tape in
    let low = take machine_cells c in
    let high = drop machine_cells c in
    let low_size : length low ≡ machine_cells = length-take-le machine_cells c (omega arith) in
    let parted : cells ≡ placed_in 1 0 y (placed_in 0 0 x low) ++ high =
    e ∙ ap (λ (l : List ℕ). placed_in 1 0 y (placed_in 0 0 x l)) (sym (take-append-drop machine_cells c))
    ∙ ap (placed_in 1 0 y) (placed_beside 0 0 x low high (omega arith) (omega (arith, A.most)) low_size)
    ∙ placed_beside 1 0 y (placed_in 0 0 x low) high (omega arith) (omega (arith, A.most)) (placed_size 0 0 x low ∙ low_size) in
    let below = placed_in 1 0 y (placed_in 0 0 x low) in
    let below_size : length below ≡ machine_cells = placed_size 1 0 y (placed_in 0 0 x low) ∙ placed_size 0 0 x low ∙ low_size in
    let left : cells' ≡ exec_steps ss rest below ++ high =
    r.cells ∙ ap (exec_steps ss rest) parted ∙ exec_beside ss (program_low n plan A) rest below high below_size in
    record {
      size =
          ap length r.cells ∙ exec_steps_size ss rest cells ∙ ap length e
          ∙ placed_size 1 0 y (placed_in 0 0 x c) ∙ placed_size 0 0 x c ∙ size;
      beside = ap (drop machine_cells) left ∙ drop_at (exec_steps ss rest below) high machine_cells (exec_steps_size ss rest below ∙ below_size);
      result =
          ap (shares_of n 2) (r.cells ∙ ap (exec_steps ss rest) e)
          ∙ uncleared_result n A.most x y lx ly plan (0 ∷ 1 ∷ []) rest c tt reads writes size
          ∙ ap (shares_of n 2) (sym (finished_is n plan x y rest A (omega (arith, length-drop t tape))));
      next = r.place ∙ ap (λ (k : ℕ). t + k) (taken n plan A);
    }
