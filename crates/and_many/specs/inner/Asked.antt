-- d = a AND b on n shares, for operands whose shares lie `over` cells apart: its steps and what they ask, said once for all functions that do them.
-- Nothing here has to be believed: the contracts of the public calls do not cite it.
use Rattle.std.specs.Prelude.{◌≡◌, List, ℕ, ◌≤◌, length}
use Rattle.word.specs.declared.step.Step.{Step}
use Rattle.masking.specs.Translation.{and_block, scratch}
use Rattle.and_parts.specs.declared.once.Place.{Place}
use Rattle.and_parts.specs.inner.Effects.{Enough, Register, at, placed}

abbrev pub and_of : ℕ → Place → ℕ → ℕ → ℕ → List Step
and_of n d a b over = and_block scratch n (at d) (at (placed a over)) (at (placed b over))

pub record Asked (n : ℕ) (d : Place) (a b over : ℕ) (tape : List ℕ) (t : ℕ) (cells : List ℕ) : Type 0 where
  pub least : 2 ≤ n
  pub most : n ≤ 8
  pub size : length cells ≡ 512
  pub to : Register d
  pub left : Register (placed a over)
  pub right : Register (placed b over)
  pub words : Enough tape t (and_of n d a b over)
