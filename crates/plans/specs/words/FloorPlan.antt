-- The built-in plan of floor: document 01, "Each built-in plan is a constant table of at most 2,048 words, .. with operands in registers 0
-- and 1 and the result in 2"; document 02, No. 2 for zeros. The bits to drop, by the decoder, are cleared, and where the operand is negative and no zero and one of
-- them is set, one is added in the last place kept; below 1, where none is kept, the bits of 1 are put (RoundUp).
-- Registers: 6 W, 7 U; 15 whether E < 1023, 16 the bits to drop, 21 whether E = 0, then whether the operand is negative and no zero; 3 and 4 are scratch.
use Rattle.std.specs.Prelude.{List, [], ◌∷◌, ◌++◌, map, ℕ}
use Rattle.word.specs.declared.step.Step.{Step}
use Rattle.word.specs.declared.step.Step.TheVariants.{Xor, And, Not, Shl, Shr}
use Rattle.word.specs.Encoding.{word_of}
use Rattle.plans.specs.words.RoundUp.{round_up}
use Rattle.plans.specs.words.Decoder.{decoder_with_zero}

-- For E from 1023 to 1074 register 16 has the bits of the fraction, for E < 1023 all bits but the sign, from 1075 on none. The sign goes through the same AND, with the
-- opposite of register 21.
unfoldable pub fraction_and_sign : List Step
fraction_and_sign = Xor 3 6 7 ∷ Not 4 21 ∷ Shl 4 4 63 ∷ Xor 3 3 4 ∷ And 16 0 3 ∷ Shr 21 16 63 ∷ Shl 16 16 1 ∷ Shr 16 16 1 ∷ Shr 15 7 62 ∷ []

-- below 1 a negative number that is no zero has a bit of E set, so that the bits to drop decide there too
unfoldable pub floor_steps : List Step
unfolding decoder_with_zero fraction_and_sign round_up
floor_steps = decoder_with_zero ++ (fraction_and_sign ++ round_up 16)

-- the plan's words
unfoldable pub floor_plan : List ℕ
unfolding floor_steps
floor_plan = map word_of floor_steps
