-- What a plan's shares depend on, for "Work starts as zeros with operands placed": the statement that the results of a plan which reads no register but
-- those known at the start and those written before (checks' Unset), and the words of its share program's steps, go by the known registers and
-- the tape alone. So an operation's code need not write the zeros.
use Rattle.std.specs.Prelude.{◌≡◌, List, ℕ, suc, ◌≤◌, ◌<◌, T, length, get_or, take}
use Rattle.word.specs.Encoding.{field_d}
use Rattle.word.specs.Layout.{cell}
use Rattle.checks.specs.Unset.{member_of, reads_only, known_after}
use Rattle.masking.specs.Translation.{program}
use Rattle.masking.specs.Foretold.{Accepted}
use Rattle.masking.specs.Machine.{exec}

-- two lists of cells hold the same n shares of each of these registers
abbrev pub AgreeIn : ℕ → List ℕ → List ℕ → List ℕ → Type 0
AgreeIn n ks c c' = (i r : ℕ) → i < n → r < 32 → T (member_of ks r) → get_or c (cell i r) 0 ≡ get_or c' (cell i r) 0

-- what the cell of step s holds after it, in a run of the plan's share words, without the head, from these cells
abbrev pub step_word : ℕ → List ℕ → ℕ → List ℕ → List ℕ → ℕ
step_word n plan s tape cells = get_or (exec (take (suc s) (program n plan)) tape cells) (field_d (get_or (program n plan) s 0)) 0

-- over one tape, and whatever the cells of other registers and those from 256 on hold at the start: a plan that reads only known registers and
-- those written before leaves the same shares in all of them, and each step of its share program writes the same word
pub record KnownDecide : Type 0 where
  pub registers : (n : ℕ) → n ≤ 8 → (plan known tape c c' : List ℕ) → T (reads_only plan known) → length c ≡ 512 → length c' ≡ 512 → AgreeIn n known c c'
      → AgreeIn n (known_after plan known) (exec (program n plan) tape c) (exec (program n plan) tape c')
  pub steps : (n : ℕ) (plan known tape c c' : List ℕ) → Accepted n plan → T (reads_only plan known) → length c ≡ 512 → length c' ≡ 512 → AgreeIn n known c c'
      → (s : ℕ) → s < length (program n plan) → step_word n plan s tape c ≡ step_word n plan s tape c'
