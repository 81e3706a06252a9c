-- Document 01's cut "NOT or CONST put into every share: right for odd n only": for each even n there is a start from which they join wrongly.
use Rattle.std.specs.Prelude.{◌≡◌, List, [], map, ℕ}
use Rattle.bits.specs.Ops.{not_w}
use Rattle.word.specs.declared.step.Step.{Step}
use Rattle.word.specs.declared.step.Step.TheVariants.{Const, Not}
use Rattle.masking.specs.Translation.{shares, share_cell}
use Rattle.masking.specs.Machine.{Start, exec_steps}
use Rattle.masking.specs.Unsplit.{joined}

-- NOT 1 0 and CONST 1 700 with every share treated as share 0 is
abbrev pub not_in_every : ℕ → List Step
not_in_every n = map (λ i. Not (share_cell i 1) (share_cell i 0)) (shares n)

abbrev pub const_in_every : ℕ → List Step
const_in_every n = map (λ i. Const (share_cell i 1) 700) (shares n)

pub record JoinsWrongly (n : ℕ) : Type 0 where
  pub cells : List ℕ
  pub start : Start cells
  pub not_wrong : joined n (exec_steps (not_in_every n) [] cells) 1 ≡ not_w (joined n cells 0) → ⊥
  pub const_wrong : joined n (exec_steps (const_in_every n) [] cells) 1 ≡ 700 → ⊥

abbrev pub EveryShareWrong : Type 0
EveryShareWrong = JoinsWrongly 2 × JoinsWrongly 4 × JoinsWrongly 6 × JoinsWrongly 8
