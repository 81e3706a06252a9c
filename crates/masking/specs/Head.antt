-- What holds of the head of a share program, document 02's No. 7: "kind 10, d the share count, a and b zero. It changes no cell, uses no tape and counts as
-- one word done." "One share step accepts a head and reports one word done."
use Rattle.std.specs.Prelude.{◌≡◌, List, ◌∷◌, ℕ, ◌≤◌, T, length, None}
use Rattle.word.specs.Encoding.{kind_of, bit27, field_d, field_a, field_b, plan_step, program_step}
use Rattle.word.specs.Head.{head_word, is_head}
use Rattle.checks.specs.Answers.{done}
use Rattle.masking.specs.Machine.{exec, rands}
use Rattle.masking.specs.Runs.{State, Run, run_answer, step_answer, step_cells}

-- of the head for n shares
pub record HeadHolds (n : ℕ) : Type 0 where
  -- its fields, and that it is one
  pub kind : kind_of (head_word n) ≡ 10
  pub count : field_d (head_word n) ≡ n
  pub zero : (bit27 (head_word n) ≡ 0) × (field_a (head_word n) ≡ 0) × (field_b (head_word n) ≡ 0)
  pub head : T (is_head (head_word n))
  -- the words behind it do what they do without it, over the same tape words
  pub cells : (words tape cells : List ℕ) → exec (head_word n ∷ words) tape cells ≡ exec words tape cells
  pub tape : (words : List ℕ) → rands (head_word n ∷ words) ≡ rands words
  -- one share step, on 512 cells and from a place on the tape
  pub step : (tape cells : List ℕ) (place : ℕ) → length cells ≡ 512 → place ≤ length tape → step_answer (head_word n) tape cells place ≡ done 1 0
  pub step_cells_is : (tape cells : List ℕ) (place : ℕ) → step_cells (head_word n) tape cells place ≡ cells

pub record HeadsHold : Type 0 where
  pub each : (n : ℕ) → 2 ≤ n → n ≤ 8 → HeadHolds n
  -- no other word is a head
  pub only : (w : ℕ) → T (is_head w) → (2 ≤ field_d w) × (field_d w ≤ 8) × (w ≡ head_word (field_d w))
  -- "A head past place 0 .. is a bad word", and so is any word of kind 10, in a plan too
  pub past : (w : ℕ) → kind_of w ≡ 10 → (program_step w ≡ None) × (plan_step w ≡ None)
  -- a run that finds a bad word finds it behind the head
  pub behind : (program tape : List ℕ) (st : State) (run : Run) → (run_answer program tape st run).number ≡ 3 → 1 ≤ (run_answer program tape st run).place
