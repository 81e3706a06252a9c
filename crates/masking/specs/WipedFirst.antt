-- What goes wrong where AND's scratch cells are wiped before z is copied to d, and not after, as document 02's No. 4 has it: d joins to 0, whatever
-- came before, and so wrongly wherever a AND b is not 0.
use Rattle.std.specs.Prelude.{◌≡◌, List, ◌++◌, map, ℕ, ◌≤◌, ◌<◌}
use Rattle.word.specs.declared.step.Step.{Step}
use Rattle.word.specs.declared.step.Step.TheVariants.{Shl}
use Rattle.masking.specs.Translation.{shares, share_cell, scratch, scratch_cells, wiping}
use Rattle.masking.specs.Machine.{Start, Words, exec_steps}
use Rattle.masking.specs.Unsplit.{joined}

-- any steps, then the wiping, and only then the copy of z to register d
abbrev pub wiped_first : ℕ → ℕ → List Step → List Step
wiped_first n d before = before ++ (wiping (scratch_cells scratch n) ++ map (λ i. Shl (share_cell i d) (scratch.z i) 0) (shares n))

abbrev pub WipedFirstZero : Type 0
WipedFirstZero = (n d : ℕ) → n ≤ 8 → d < 32 → (before : List Step) (cells tape : List ℕ) → Start cells → Words tape
    → joined n (exec_steps (wiped_first n d before) tape cells) d ≡ 0
