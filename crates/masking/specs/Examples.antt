-- Worked examples of the translation at n = 2: document 01's listed XOR, the kinds that treat share 0 apart, AND with all registers alike, and
-- the words and tape words of ADD.
use Rattle.std.specs.Prelude.{◌≡◌, [], ◌∷◌, length}
use Rattle.word.specs.declared.step.Step.TheVariants.{Const, Xor, And, Not, Shl, Add, Rand}
use Rattle.masking.specs.Translation.{headed, translated}
use Rattle.masking.specs.Machine.{rands_of}

pub record TranslationExamples : Type 0 where
  -- "words 3 and a line A0080000 before its steps" (document 02, No. 7): 20080001 and 20884021. The empty plan's program is the head alone.
  pub listed : headed 2 (0x20080001 ∷ []) ≡ 0xA0080000 ∷ 0x20080001 ∷ 0x20884021 ∷ []
  pub empty : headed 8 [] ≡ 0xA0200000 ∷ []
  pub share_0_apart : translated 2 (Const 3 700) ≡ Const 3 700 ∷ Const 35 0 ∷ []
  pub inverted_once : translated 2 (Not 1 0) ≡ Not 1 0 ∷ Shl 33 32 0 ∷ []
  -- AND 1 1 1: y, refreshed; z, with both cross products of the pair; then d; then the scratch cells wiped
  pub and_alike : translated 2 (And 1 1 1)
      ≡ Shl 256 1 0 ∷ Shl 257 33 0
      ∷ Rand 272 ∷ Xor 256 256 272 ∷ Xor 257 257 272
      ∷ And 264 1 256 ∷ And 265 33 257
      ∷ Rand 272 ∷ Xor 264 264 272 ∷ And 273 1 257 ∷ Xor 272 272 273 ∷ And 273 33 256 ∷ Xor 272 272 273 ∷ Xor 265 265 272
      ∷ Shl 1 264 0 ∷ Shl 33 265 0
      ∷ Const 256 0 ∷ Const 257 0 ∷ Const 264 0 ∷ Const 265 0 ∷ Const 272 0 ∷ Const 273 0 ∷ []
  -- ADD at n = 2
  pub add_words : length (translated 2 (Add 2 0 1)) ≡ 306
  pub add_tape : rands_of (translated 2 (Add 2 0 1)) ≡ 24
