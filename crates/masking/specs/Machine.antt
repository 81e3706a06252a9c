-- "Share machine: 512 cells and the tape. The program's words in order each set cell d by the table and leave the others; RAND takes
-- the next tape word."
use Rattle.std.specs.Prelude.{List, [], ◌∷◌, ◌≡◌, ℕ, ◌+◌, ◌^◌, ◌<◌, length, get_or, set, drop, Option, Some, None}
use Rattle.word.specs.declared.step.Step.{Step}
use Rattle.word.specs.declared.step.Step.TheVariants.{Const, Xor, And, Not, Shl, Shr, Spread, Add, Rand}
use Rattle.word.specs.Encoding.{program_step}
use Rattle.word.specs.Table.{dest, becomes}

-- tape words that a step takes
abbrev pub takes : Step → ℕ
takes (Const d k) = 0
takes (Xor d a b) = 0
takes (And d a b) = 0
takes (Not d a) = 0
takes (Shl d a b) = 0
takes (Shr d a b) = 0
takes (Spread d a) = 0
takes (Add d a b) = 0
takes (Rand d) = 1

-- the steps of words; a head is none (document 02, No. 7: it "changes no cell, uses no tape"), nor is a bad word (no run goes over a program that
-- has one)
abbrev pub with_step : Option Step → List Step → List Step
with_step (Some s) ss = s ∷ ss
with_step None ss = ss

abbrev pub steps_of : List ℕ → List Step
steps_of [] = []
steps_of (w ∷ ws) = with_step (program_step w) (steps_of ws)

-- one step over a tape
unfoldable pub exec_step : Step → List ℕ → List ℕ → List ℕ
exec_step s tape cells = set cells (dest s) (becomes s (λ c. get_or cells c 0) (get_or tape 0 0))

abbrev pub exec_steps : List Step → List ℕ → List ℕ → List ℕ
exec_steps [] tape cells = cells
exec_steps (s ∷ ss) tape cells = exec_steps ss (drop (takes s) tape) (exec_step s tape cells)

abbrev pub rands_of : List Step → ℕ
rands_of [] = 0
rands_of (s ∷ ss) = takes s + rands_of ss

-- the cells after a list of words, and the RANDs among them
abbrev pub exec : List ℕ → List ℕ → List ℕ → List ℕ
exec words tape cells = exec_steps (steps_of words) tape cells

abbrev pub rands : List ℕ → ℕ
rands words = rands_of (steps_of words)

-- all are 64-bit words
abbrev pub Words : List ℕ → Type 0
Words l = (k : ℕ) → get_or l k 0 < 2 ^ 64

-- any 512 cells
pub record Start (cells : List ℕ) : Type 0 where
  pub size : length cells ≡ 512
  pub words : Words cells
