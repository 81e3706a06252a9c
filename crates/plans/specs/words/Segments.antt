-- Short runs of steps with a name, of which the built-in plans are made: a mask from a bit, a shift by choice, tests in lanes, a word folded.
-- Nothing here has to be believed: the words of the built-in plans are the team's choice (document 01), and what they compute is proved.
use Rattle.std.specs.Prelude.{List, [], ◌∷◌, ℕ}
use Rattle.word.specs.declared.step.Step.{Step}
use Rattle.word.specs.declared.step.Step.TheVariants.{Xor, And, Not, Shr, Spread}

-- m: all ones or 0 by bit k of a
unfoldable pub spread_bit : ℕ → ℕ → ℕ → List Step
spread_bit m a k = Shr m a k ∷ Spread m m ∷ []

-- w shifted right by s where the mask m is all ones; t is scratch
unfoldable pub stage_right : ℕ → ℕ → ℕ → ℕ → List Step
stage_right w t m s = Shr t w s ∷ Xor t t w ∷ And t t m ∷ Xor w w t ∷ []

-- bits 0, 16, 32 and 48 of z: whether sixteen bits of z were all 0, in four lanes; t is scratch
unfoldable pub zero_tests : ℕ → ℕ → List Step
zero_tests z t = Not z z ∷ Shr t z 8 ∷ And z z t ∷ Shr t z 4 ∷ And z z t ∷ Shr t z 2 ∷ And z z t ∷ Shr t z 1 ∷ And z z t ∷ []

-- w folded: each place the exclusive-or of itself and all places above it, so that one place alone becomes a mask up to it; register 3 is scratch
unfoldable pub fold_down : ℕ → List Step
fold_down w =
    Shr 3 w 1 ∷ Xor w w 3 ∷ Shr 3 w 2 ∷ Xor w w 3 ∷ Shr 3 w 4 ∷ Xor w w 3 ∷ Shr 3 w 8 ∷ Xor w w 3 ∷ Shr 3 w 16 ∷ Xor w w 3 ∷ Shr 3 w 32 ∷ Xor w w 3 ∷ []
