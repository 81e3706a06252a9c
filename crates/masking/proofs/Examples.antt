-- The worked examples of the translation hold, by computation.
use mathlib.Core.Path.{refl}
use Rattle.word.specs.Encoding.{named, row, put}
use Rattle.masking.specs.Translation.{translated, and_steps, and_block, adding, share_cell}
use Rattle.masking.specs.Examples.{TranslationExamples}

pub translation_examples : TranslationExamples
unfolding named row put translated share_cell and_steps and_block adding
translation_examples = record { listed = refl; empty = refl; share_0_apart = refl; inverted_once = refl; and_alike = refl; add_words = refl; add_tape = refl }
