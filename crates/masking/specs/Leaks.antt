-- Document 01's cut "AND without the refresh: with a = b, u holds two shares of one number", for two shares: for either there are two starts
-- that agree in it and whose words at u differ over any two tapes, paired or not. So Secrecy is no empty demand.
use Rattle.std.specs.Prelude.{◌≡◌, List, [], ◌∷◌, ℕ, get_or}
use Rattle.word.specs.declared.step.Step.{Step}
use Rattle.word.specs.declared.step.Step.TheVariants.{Shl, And, Xor, Rand}
use Rattle.masking.specs.Machine.{Start, exec_steps}
use Rattle.masking.specs.Secrecy.{Agree}

-- AND 1 0 0 for two shares, up to the first cross product, with y as it was copied
abbrev pub unrefreshed : List Step
unrefreshed = Shl 256 0 0 ∷ Shl 257 32 0 ∷ And 264 0 256 ∷ And 265 32 257 ∷ Rand 272 ∷ Xor 264 264 272 ∷ And 273 0 257 ∷ []

-- the word at u
abbrev pub at_u : List ℕ → List ℕ → ℕ
at_u cells tape = get_or (exec_steps unrefreshed tape cells) 273 0

-- two starts that agree in share i, with different words there over any two tapes
pub record Leak (i : ℕ) : Type 0 where
  pub l : List ℕ
  pub l' : List ℕ
  pub start : Start l
  pub start' : Start l'
  pub agree : Agree i l l'
  pub differ : (tape tape' : List ℕ) → at_u l tape ≡ at_u l' tape' → ⊥

abbrev pub UnrefreshedLeaks : Type 0
UnrefreshedLeaks = Leak 0 × Leak 1
