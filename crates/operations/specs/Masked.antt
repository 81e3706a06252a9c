-- What is proved of the operations on shares: their results join to the operation on the joined operands, and each step of the share program
-- that defines them has demand 3's secrecy in terms of the operands' shares alone, whatever the work slice held.
use Rattle.std.specs.Prelude.{◌≡◌, List, ℕ, ◌≤◌, ◌<◌, length, get_or}
use Rattle.masking.specs.Translation.{program}
use Rattle.masking.specs.Foretold.{foretold_tape}
use Rattle.masking.specs.Machine.{Start, Words}
use Rattle.masking.specs.Reads.{step_word}
use Rattle.masking.specs.Secrecy.{Hidden}
use Rattle.binary64.specs.Operations.{Operation, on_words}
use Rattle.plans.specs.BuiltIns.{plan_of}
use Rattle.split_join.specs.SplitJoin.{xor_all}
use Rattle.masked_call.specs.Shares.{placed, placed_over, result_shares, call_answer, result_after}
use Rattle.masked_call.specs.WholeRun.{RunsWhole}

-- n shares
pub record Operand (n : ℕ) (x : List ℕ) : Type 0 where
  pub size : length x ≡ n
  pub words : Words x

-- over any tape at least as long as foretold, the result joins to the operation `op` on the joined operands
abbrev pub Joins : List ℕ → (ℕ → ℕ → ℕ) → Type 0
Joins plan op =
    (n : ℕ) → 2 ≤ n → n ≤ 8 → (x y tape : List ℕ) → Operand n x → Operand n y → Words tape → foretold_tape n plan ≤ length tape
    → xor_all (result_shares plan n x y tape) ≡ op (xor_all x) (xor_all y)

-- for each step some share number: for any operands that agree in that share, placed over any cells, zeros among them, the step's word is hidden
-- (Hidden is demand 3's). The cells may differ, in that share too.
pub record StepSecret (plan : List ℕ) (n s : ℕ) : Type 0 where
  pub share : ℕ
  pub below : share < n
  pub hidden : (x y x' y' cells cells' : List ℕ) → Operand n x → Operand n y → Operand n x' → Operand n y' → Start cells → Start cells'
      → get_or x share 0 ≡ get_or x' share 0 → get_or y share 0 ≡ get_or y' share 0
      → Hidden n plan s (placed_over x y cells) (placed_over x' y' cells')

abbrev pub Secretive : List ℕ → Type 0
Secretive plan = (n : ℕ) → 2 ≤ n → n ≤ 8 → (s : ℕ) → s < length (program n plan) → StepSecret plan n s

-- The calls place the operands over what the work slice holds: from any cells each step writes the word that it writes from zeros.
abbrev pub AnyStart : List ℕ → Type 0
AnyStart plan =
    (n : ℕ) → 2 ≤ n → n ≤ 8 → (x y cells tape : List ℕ) → Operand n x → Operand n y → length cells ≡ 512 → (s : ℕ) → s < length (program n plan)
    → step_word n plan s tape (placed_over x y cells) ≡ step_word n plan s tape (placed x y)

-- and of the calls themselves: where one is done, the result's words join to the operation on the joined operands
abbrev pub CallJoins : List ℕ → (ℕ → ℕ → ℕ) → Type 0
CallJoins plan op =
    (x y result work tape : List ℕ) → Words x → Words y → Words tape → (call_answer plan x y result work tape).number ≡ 0
    → xor_all (result_after plan x y result work tape) ≡ op (xor_all x) (xor_all y)

-- what is proved of an operation on shares, over its plan and the operation on words; one with a single operand does not
-- look at the second, which its call sets to zeros
pub record OnShares (plan : List ℕ) (op : ℕ → ℕ → ℕ) : Type 0 where
  pub run : RunsWhole plan
  pub joins : Joins plan op
  pub call : CallJoins plan op
  pub secret : Secretive plan
  pub start : AnyStart plan

-- of every built-in operation
abbrev pub Masked : Type 0
Masked = (o : Operation) → OnShares (plan_of o) (on_words o)
