-- The operations on shares, from document 01's section "Calls and their turn-downs": "n is the first operand's length; the other
-- operand and the result have n words, the work slice 512. Work starts as zeros with operands placed, runs the translated plan and is zeros
-- afterwards. The result shares are exactly those that share run gives over the same tape. The answer gives tape words used."
use Rattle.std.specs.Prelude.{not, ◌&&◌, List, [], ◌∷◌, map, ℕ, suc, ltb, eqb, length, get_or, set, replicate}
use Rattle.checks.specs.declared.answer.Answer.{Answer}
use Rattle.word.specs.Layout.{is_share_count, cell}
use Rattle.checks.specs.Answers.{done, refused, given, after_call}
use Rattle.masking.specs.Translation.{shares, headed}
use Rattle.masking.specs.Foretold.{foretold_tape}
use Rattle.masking.specs.Runs.{standing, told, run_answer, run_cells}

-- the answer, by lengths, where `needed` tape words are needed: 1 "share count not 2..8", 4 "a slice of wrong length", 6 "tape too short"
unfoldable pub answer_for : ℕ → ℕ → ℕ → ℕ → ℕ → ℕ → Answer
answer_for needed n other result work tape =
    given (not (is_share_count n)) (refused 1)
    (given (not (eqb other n && (eqb result n && eqb work 512))) (refused 4)
    (given (ltb tape needed) (refused 6)
    (done 0 needed)))

-- of a call over a plan, which needs what is foretold
abbrev pub operation_answer : List ℕ → ℕ → ℕ → ℕ → ℕ → ℕ → Answer
operation_answer plan n other result work tape = answer_for (foretold_tape n plan) n other result work tape

-- shares into register r, from share i on
abbrev pub placed_in : ℕ → ℕ → List ℕ → List ℕ → List ℕ
placed_in r i [] cells = cells
placed_in r i (x ∷ xs) cells = placed_in r (suc i) xs (set cells (cell i r) x)

-- operands in registers r and up, over cells
abbrev pub placed_from : ℕ → List (List ℕ) → List ℕ → List ℕ
placed_from r [] cells = cells
placed_from r (x ∷ xs) cells = placed_from (suc r) xs (placed_in r 0 x cells)

-- two of them, in registers 0 and 1
abbrev pub placed_over : List ℕ → List ℕ → List ℕ → List ℕ
placed_over x y cells = placed_from 0 (x ∷ y ∷ []) cells

-- "Work starts as zeros with operands placed". The code places them over what the work slice holds; that its results are those from zeros is
-- proved (masking/specs/Reads, and operations/specs/Masked for each step's word).
unfoldable pub placed : List ℕ → List ℕ → List ℕ
placed x y = placed_over x y (replicate 512 0)

-- a share run over the whole translated plan, head included, told n: its answer, and the cells afterwards
abbrev pub whole_run : List ℕ → ℕ → List ℕ → List ℕ → List ℕ → Answer
whole_run plan n x y tape = run_answer (headed n plan) tape (standing (placed x y) 0 0) (told n (length (headed n plan)))

unfoldable pub finished : List ℕ → ℕ → List ℕ → List ℕ → List ℕ → List ℕ
finished plan n x y tape = run_cells (headed n plan) tape (standing (placed x y) 0 0) (told n (length (headed n plan)))

-- the n shares of register r
abbrev pub shares_of : ℕ → ℕ → List ℕ → List ℕ
shares_of n r cells = map (λ i. get_or cells (cell i r) 0) (shares n)

-- the result's shares: register 2
unfoldable pub result_shares : List ℕ → ℕ → List ℕ → List ℕ → List ℕ → List ℕ
result_shares plan n x y tape = shares_of n 2 (finished plan n x y tape)

-- A call on lent slices, by its plan: the answer, the result afterwards, and the work slice afterwards. Each operation is an instance. So is
-- each call in place, which document 01 does not have: there x is the result slice too, and `result_after` says what it holds afterwards.
module _ (plan x y result work tape : List ℕ) where
  abbrev pub call_answer : Answer
  call_answer = operation_answer plan (length x) (length y) (length result) (length work) (length tape)

  abbrev pub result_after : List ℕ
  result_after = after_call call_answer (result_shares plan (length x) x y tape) result

  abbrev pub work_after : List ℕ
  work_after = after_call call_answer (replicate 512 0) work

-- the second operand of an operation with one: zeros in register 1
abbrev pub zeros_for : List ℕ → List ℕ
zeros_for x = replicate (length x) 0
