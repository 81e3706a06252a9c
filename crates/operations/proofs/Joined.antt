-- The operations' results: over a tape as long as foretold a whole share run is done, and its register 2 joins to the operation on the joined
-- operands. One lemma over any plan that computes an operation. Over any plan the result's shares are words (`result_words`). Rests on Placed,
-- Plans, masking's joined results and Beside, and the plans' theorems.
use mathlib.Core.Path.{◌≡◌, refl, sym, ap, ap₂, ◌∙◌}
use mathlib.Core.List.{List, [], ◌∷◌, map}
use Prim.Native.Nat.{ℕ, zero, suc, ◌^◌, ◌≤◌, ◌<◌}
use native.Mathlib.Nat.{le_of_eq}
use native.Mathlib.Omega.{arith}
use lib.Dec.{T}
use lib.ListN.{length, get_or}
use lib.Seq.{take-length}
use lib.Pow.{pow_pos}
use Rattle.bits.specs.Ops.{xor_w}
use Rattle.word.specs.Encoding.{in_program}
use Rattle.word.specs.Layout.{cell}
use Rattle.plain.specs.Machine.{run}
use Rattle.masking.specs.Translation.{up_from, shares, program}
use Rattle.masking.specs.Foretold.{Accepted, foretold_tape}
use Rattle.masking.specs.Machine.{Words, steps_of, exec}
use Rattle.masking.specs.Unsplit.{xor_over, joined, unsplit}
use Rattle.masking.proofs.emitted.Tests.{All}
use Rattle.masking.proofs.emitted.Steps.{program_steps, plan_good}
use Rattle.masking.proofs.joined.Beside.{exec_words}
use Rattle.masking.proofs.joined.Plan.{joined_after}
use Rattle.masking.proofs.joined.Sums.{sum_lt}
use Rattle.plans.specs.Computes.{Computes}
use Rattle.masked_call.specs.Shares.{placed, finished, result_shares}
use Rattle.split_join.specs.SplitJoin.{xor_all}
use Rattle.operations.specs.Masked.{Operand, Joins}
use Rattle.masked_call.proofs.Plans.{finished_is}
use Rattle.operations.proofs.Placed.{placed_start, joins_0, joins_1}

-- the exclusive-or of a list over share numbers
xor_map : (f : ℕ → ℕ) (is : List ℕ) → xor_all (map f is) ≡ xor_over f is
xor_map f [] = refl
xor_map f (i ∷ is) = ap (xor_w (f i)) (xor_map f is)

map_words : (f : ℕ → ℕ) → ((i : ℕ) → f i < 2 ^ 64) → (is : List ℕ) → Words (map f is)
map_words f h [] k = pow_pos 64
map_words f h (i ∷ is) zero = h i
map_words f h (i ∷ is) (suc k) = map_words f h is k

joined_lt : (n : ℕ) (cells : List ℕ) → Words cells → (r : ℕ) → joined n cells r < 2 ^ 64
unfolding joined
joined_lt n cells w r = sum_lt (λ i. get_or cells (cell i r) 0) (λ i. w (cell i r)) (shares n)

-- a plan with what it computes is accepted for each share count
pub accepted : (plan : List ℕ) (op : ℕ → ℕ → ℕ) → Computes plan op → (n : ℕ) → 2 ≤ n → n ≤ 8 → Accepted n plan
accepted plan op C n least most = record { least = least; most = most; short = C.short; good = C.none_bad }

module _ (plan : List ℕ) (op : ℕ → ℕ → ℕ) (C : Computes plan op) (n : ℕ) (least : 2 ≤ n) (most : n ≤ 8) (x y tape : List ℕ) where
  result_joins : Operand n x → Words y → length y ≤ n → Words tape → foretold_tape n plan ≤ length tape
      → xor_all (result_shares plan n x y tape) ≡ op (xor_all x) (xor_all y)
  unfolding result_shares joined
  result_joins X wy ly W enough =
      let A = accepted plan op C n least most in
      let lx : length x ≤ 8 = omega (arith, X.size) in
      let ly8 : length y ≤ 8 = omega arith in
      let S = placed_start x y lx ly8 X.words wy in
      let r = C.result (unsplit n (placed x y)) refl (map_words (joined n (placed x y)) (joined_lt n (placed x y) S.words) (up_from 0 32)) in
      xor_map (λ i. get_or (finished plan n x y tape) (cell i 2) 0) (shares n)
      ∙ ap (λ (c : List ℕ). joined n c 2) (finished_is n plan x y tape A enough)
      ∙ ap (λ (p : List ℕ). joined n (exec (program n p) tape (placed x y)) 2) (sym (take-length plan))
      ∙ joined_after n plan A (placed x y) tape S.size S.words W (length plan) 2 (omega arith)
      ∙ ap (λ (p : List ℕ). get_or (run p (unsplit n (placed x y))) 2 0) (take-length plan)
      ∙ r ∙ ap₂ op (joins_0 x y lx ly8 n (le_of_eq X.size)) (joins_1 x y lx ly8 n ly)

pub plan_joins : (plan : List ℕ) (op : ℕ → ℕ → ℕ) → Computes plan op → Joins plan op
plan_joins plan op C n least most x y tape X Y W enough = result_joins plan op C n least most x y tape X Y.words (le_of_eq Y.size) W enough

-- the result's shares are words
pub result_words : (n : ℕ) (plan x y tape : List ℕ) → Accepted n plan → length x ≤ 8 → length y ≤ 8 → Words x → Words y → Words tape
    → foretold_tape n plan ≤ length tape → Words (result_shares plan n x y tape)
unfolding result_shares
result_words n plan x y tape A lx ly wx wy W enough =
    let good : All (λ s. T (in_program s)) (steps_of (program n plan)) = rw (program_steps n plan A) (plan_good n plan A) in
    let words : Words (finished plan n x y tape) =
    rw (finished_is n plan x y tape A enough) (exec_words (steps_of (program n plan)) good tape (placed x y) W (placed_start x y lx ly wx wy).words) in
    map_words (λ i. get_or (finished plan n x y tape) (cell i 2) 0) (λ i. words (cell i 2)) (shares n)
