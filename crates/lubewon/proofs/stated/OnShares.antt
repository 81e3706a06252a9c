-- The claims on the operations on shares and on split and join, field by field: what is narrowed, halved or asks for more fails here.
use mathlib.Core.Path.{◌≡◌}
use mathlib.Core.List.{List, ◌∷◌}
use Prim.Native.Nat.{ℕ, suc, ◌≤◌, ◌<◌}
use lib.ListN.{length, get_or, take}
use Rattle.word.specs.Encoding.{field_d}
use Rattle.word.specs.Head.{head_word}
use Rattle.checks.specs.Answers as answers
use Rattle.masking.specs.Translation.{program}
use Rattle.masking.specs.Foretold.{foretold_tape}
use Rattle.masking.specs.Machine.{Start, exec}
use Rattle.masking.specs.Runs.{standing, told, run_answer}
use Rattle.masking.specs.Secrecy.{Hidden}
use Rattle.binary64.specs.Product.{product}
use Rattle.binary64.specs.Sum.{sum}
use Rattle.binary64.specs.Floor.{floor}
use Rattle.binary64.specs.Truncate.{truncate}
use Rattle.binary64.specs.Nearest.{nearest}
use Rattle.binary64.specs.Operations.{Operation, Product, Sum, Floor, Truncate, Nearest, on_words}
use Rattle.plans.specs.BuiltIns.{plan_of}
use Rattle.plans.specs.words.ProductPlan.{product_plan}
use Rattle.plans.specs.words.SumPlan.{sum_plan}
use Rattle.plans.specs.words.FloorPlan.{floor_plan}
use Rattle.plans.specs.words.TruncatePlan.{truncate_plan}
use Rattle.plans.specs.words.NearestPlan.{nearest_plan}
use Rattle.masked_call.specs.Shares.{call_answer, finished, placed, placed_over, result_after, result_shares}
use Rattle.masked_call.specs.WholeRun.{WholeRun}
use Rattle.operations.specs.Masked.{Operand, StepSecret, OnShares}
use Rattle.split_join.specs.SplitJoin.{xor_all, split_of, split_answer, split_out, joined_word, SplitJoins}
use Rattle.lubewon.specs.Claims.{Claims}
use Rattle.lubewon.proofs.stated.Conditions.{AllWords}

module _ {plan : List ℕ} {n : ℕ} {x y tape : List ℕ} (h : WholeRun plan n x y tape) where
  whole_run_done : foretold_tape n plan ≤ length tape
      → run_answer (head_word n ∷ program n plan) tape (standing (placed x y) 0 0) (told n (suc (length (program n plan)))) ≡ answers.done (suc (length (program n plan))) (foretold_tape n plan)
  whole_run_done = h.done

  whole_run_short : length tape < foretold_tape n plan
      → run_answer (head_word n ∷ program n plan) tape (standing (placed x y) 0 0) (told n (suc (length (program n plan)))) ≡ answers.refused 6
  whole_run_short = h.short

  whole_run_cells : foretold_tape n plan ≤ length tape → finished plan n x y tape ≡ exec (program n plan) tape (placed x y)
  whole_run_cells = h.cells

module _ {plan : List ℕ} {n s : ℕ} (h : StepSecret plan n s) where
  step_secret_share : ℕ
  step_secret_share = h.share

  step_secret_below : h.share < n
  step_secret_below = h.below

  step_secret_hidden : (x y x' y' cells cells' : List ℕ) → Operand n x → Operand n y → Operand n x' → Operand n y' → Start cells → Start cells'
      → get_or x h.share 0 ≡ get_or x' h.share 0 → get_or y h.share 0 ≡ get_or y' h.share 0
      → Hidden n plan s (placed_over x y cells) (placed_over x' y' cells')
  step_secret_hidden = h.hidden

-- what the cell of step s holds after it, from these cells
abbrev word_at : ℕ → List ℕ → ℕ → List ℕ → List ℕ → ℕ
word_at n plan s tape cells = get_or (exec (take (suc s) (program n plan)) tape cells) (field_d (get_or (program n plan) s 0)) 0

module _ {plan : List ℕ} {op : ℕ → ℕ → ℕ} (h : OnShares plan op) where
  on_shares_run : (n : ℕ) → 2 ≤ n → n ≤ 8 → (x y tape : List ℕ) → WholeRun plan n x y tape
  on_shares_run = h.run

  on_shares_joins : (n : ℕ) → 2 ≤ n → n ≤ 8 → (x y tape : List ℕ) → Operand n x → Operand n y → AllWords tape → foretold_tape n plan ≤ length tape
      → xor_all (result_shares plan n x y tape) ≡ op (xor_all x) (xor_all y)
  on_shares_joins = h.joins

  on_shares_call : (x y result work tape : List ℕ) → AllWords x → AllWords y → AllWords tape → (call_answer plan x y result work tape).number ≡ 0
      → xor_all (result_after plan x y result work tape) ≡ op (xor_all x) (xor_all y)
  on_shares_call = h.call

  on_shares_secret : (n : ℕ) → 2 ≤ n → n ≤ 8 → (s : ℕ) → s < length (program n plan) → StepSecret plan n s
  on_shares_secret = h.secret

  on_shares_start : (n : ℕ) → 2 ≤ n → n ≤ 8 → (x y cells tape : List ℕ) → Operand n x → Operand n y → length cells ≡ 512
      → (s : ℕ) → s < length (program n plan) → word_at n plan s tape (placed_over x y cells) ≡ word_at n plan s tape (placed x y)
  on_shares_start = h.start

module _ (h : SplitJoins) where
  split_joins_shares : (word : ℕ) (masks : List ℕ) → xor_all (split_of word masks) ≡ word
  split_joins_shares = h.shares

  split_joins_calls : (word : ℕ) (tape out : List ℕ) → (split_answer (length out) (length tape)).number ≡ 0 → joined_word (split_out word tape out) ≡ word
  split_joins_calls = h.calls

module _ (C : Claims) where
  masked : (o : Operation) → OnShares (plan_of o) (on_words o)
  masked = C.masked

  product_masked : OnShares product_plan product
  product_masked = C.masked Product

  sum_masked : OnShares sum_plan sum
  sum_masked = C.masked Sum

  floor_masked : OnShares floor_plan (λ a b. floor a)
  floor_masked = C.masked Floor

  truncate_masked : OnShares truncate_plan (λ a b. truncate a)
  truncate_masked = C.masked Truncate

  nearest_masked : OnShares nearest_plan (λ a b. nearest a)
  nearest_masked = C.masked Nearest

  split_joins : SplitJoins
  split_joins = C.split_joins
