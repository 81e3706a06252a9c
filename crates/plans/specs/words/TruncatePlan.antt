-- The built-in plan of truncation (document 02, No. 1), with the operand in register 0 and the result in 2: the bits to drop, by the decoder, are cleared.
use Rattle.std.specs.Prelude.{List, [], ◌∷◌, ◌++◌, map, ℕ}
use Rattle.word.specs.declared.step.Step.{Step}
use Rattle.word.specs.declared.step.Step.TheVariants.{Xor, And, Not}
use Rattle.word.specs.Encoding.{word_of}
use Rattle.plans.specs.words.Decoder.{decoder}

-- the operand with the bits of W and U cleared
unfoldable pub drop_fraction : List Step
drop_fraction = Xor 3 6 7 ∷ Not 3 3 ∷ And 2 0 3 ∷ []

unfoldable pub truncate_steps : List Step
unfolding decoder drop_fraction
truncate_steps = decoder ++ drop_fraction

-- the plan's words
unfoldable pub truncate_plan : List ℕ
unfolding truncate_steps
truncate_plan = map word_of truncate_steps
