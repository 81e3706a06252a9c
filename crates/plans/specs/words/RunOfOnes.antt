-- A stage that finds a run of ones and an OR together, with one AND.
-- Registers: 17 N, the opposite of the word whose low run of ones is found, so that N has zeros there, 18 the word F whose OR is taken;
-- 3, 4, 19 and 20 are scratch. Nothing here has to be believed: what the plans compute is proved.
use Rattle.std.specs.Prelude.{List, [], ◌∷◌, ℕ, ◌-◌, ◌*◌}
use Rattle.word.specs.declared.step.Step.{Step}
use Rattle.word.specs.declared.step.Step.TheVariants.{Xor, And, Not, Shl, Shr}

-- N takes N shifted left by k, by OR, and the k low places fold F's OR from 2k places to k
unfoldable pub run_stage : ℕ → List Step
run_stage k =
    Xor 3 17 18 ∷ Shl 3 3 (64 - k) ∷ Shr 3 3 (64 - k) ∷ Xor 19 17 3 ∷ Not 19 19 ∷
    Shl 20 17 k ∷ Shl 4 18 (64 - 2 * k) ∷ Shr 4 4 (64 - k) ∷ Xor 20 20 4 ∷ And 19 19 20 ∷
    Shl 4 19 (64 - k) ∷ Shr 4 4 (64 - k) ∷ Xor 18 18 4 ∷ Xor 19 19 4 ∷ Xor 17 17 19 ∷ []
