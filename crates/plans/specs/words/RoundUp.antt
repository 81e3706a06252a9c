-- The end of a plan that rounds to a whole number by a decision: the bits to drop are cleared, and where one bit and at least one of others are set, one is added in the
-- last place kept. Adding one flips a run of ones and the place above it, so it is an exclusive-or with ones there.
-- Registers: 0 the operand; 6 the mask W of the bits to drop where these are low bits of F, else 0; 16 the bits to drop; 21 the one bit; 15 whether the operand is below 1, so
-- that the next whole number is 1, which need be right only where one may be added; 17 the run, 18 what decides; 2 the result; 3, 4, 5, 19 and 20 are scratch.
-- Nothing here has to be believed: what the plans compute is proved.
use Rattle.std.specs.Prelude.{List, [], ◌∷◌, ◌++◌, ℕ}
use Rattle.word.specs.declared.step.Step.{Step}
use Rattle.word.specs.declared.step.Step.TheVariants.{Xor, And, Not, Shl, Shr, Spread}
use Rattle.plans.specs.words.RunOfOnes.{run_stage}

-- register 18: the others, from register o, and in place 63 the opposite of the one bit
unfoldable pub decides : ℕ → List Step
decides o = Not 3 21 ∷ Shl 3 3 63 ∷ Xor 18 o 3 ∷ []

-- register 17: 0 in the low places, as many as the operand has ones there once the bits of W are set and the other bits to drop cleared, and 1 from there on; place 0 of
-- register 18: whether it held a 1
unfoldable pub run_and_or : List Step
unfolding run_stage
run_and_or =
    Xor 17 0 6 ∷ Xor 17 17 16 ∷ Not 17 17 ∷
    (run_stage 32 ++ (run_stage 16 ++ (run_stage 8 ++ (run_stage 4 ++ (run_stage 2 ++ run_stage 1)))))

-- register 3: what adding one in the last place kept flips, or the bits of 1, 1023 · 2^52, by register 15; register 18: in place 0 whether it is added, since the OR is 1 where the
-- one bit is 0, and else says whether another is set beside it; then the result
unfoldable pub raise_rounded : List Step
raise_rounded =
    Shl 3 17 1 ∷ Not 3 3 ∷ Xor 3 3 6 ∷ Spread 4 15 ∷ Shr 5 4 54 ∷ Shl 5 5 52 ∷ Shr 4 4 63 ∷ Xor 5 5 4 ∷ Xor 3 3 5 ∷
    Not 18 18 ∷ Xor 18 18 21 ∷ Spread 4 18 ∷ And 3 3 4 ∷ Xor 2 0 16 ∷ Xor 2 2 3 ∷ []

unfoldable pub round_up : ℕ → List Step
unfolding decides run_and_or raise_rounded
round_up o = decides o ++ (run_and_or ++ raise_rounded)
