-- The built-in plan of nearest (document 02, No. 1), with the operand in register 0 and the result in 2: the bits to drop, by the decoder, are cleared, and
-- where the first of them is 1 and a later one or the last bit kept is too, one is added in the last place kept (RoundUp).
-- Registers: 8 the place of the first bit dropped, 6 W, 7 U, 13 the decoded word; 15 whether E = 1022, 16 the bits dropped, 18 what decides beside the first of them,
-- 21 that one; 3 is scratch.
use Rattle.std.specs.Prelude.{List, [], ◌∷◌, ◌++◌, map, ℕ}
use Rattle.word.specs.declared.step.Step.{Step}
use Rattle.word.specs.declared.step.Step.TheVariants.{Xor, And, Shl, Shr}
use Rattle.word.specs.Encoding.{word_of}
use Rattle.plans.specs.words.Segments.{fold_down}
use Rattle.plans.specs.words.RoundUp.{round_up}
use Rattle.plans.specs.words.Decoder.{decoder}

-- For E from 1023 to 1074: register 16 has the bits dropped, 21 the first of them, alone in its place, 18 the others and the last bit kept. Below, register 16
-- has all bits but the sign, 21 none, and 18 those of F; from 1075 on none has any.
unfoldable pub dropped_bits : List Step
dropped_bits =
    Xor 3 6 7 ∷ And 16 0 3 ∷ And 21 0 8 ∷ Shl 18 16 12 ∷ Shr 18 18 12 ∷ Xor 18 18 21 ∷ Shl 3 8 1 ∷ And 3 3 0 ∷ Xor 18 18 3 ∷ []

-- register 21: in place 0 the first bit dropped, or 1 for E = 1022, where it is the leading bit, which has no place
unfoldable pub first_dropped : List Step
unfolding fold_down
first_dropped = fold_down 21 ++ (Shl 15 13 62 ∷ Shr 15 15 63 ∷ Xor 21 21 15 ∷ [])

unfoldable pub nearest_steps : List Step
unfolding decoder dropped_bits first_dropped round_up
nearest_steps = decoder ++ (dropped_bits ++ (first_dropped ++ round_up 18))

-- the plan's words
unfoldable pub nearest_plan : List ℕ
unfolding nearest_steps
nearest_plan = map word_of nearest_steps
