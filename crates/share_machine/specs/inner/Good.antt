-- Names for good words, cited by inner functions only: nothing here has to be believed.
use Rattle.std.specs.Prelude.{◌≡◌, List, ℕ, ◌<◌, length, get_or, Some}
use Rattle.word.specs.declared.step.Step.{Step}
use Rattle.word.specs.Encoding.{kind_of, program_step}

-- a good word of a share program
abbrev pub GoodWord : ℕ → Type 0
GoodWord w = (s : Step) × (program_step w ≡ Some s)

-- words of kind RAND are good: so they can be counted by their kind, also where a head stands among the words
abbrev pub RandsGood : List ℕ → Type 0
RandsGood words = (i : ℕ) → i < length words → kind_of (get_or words i 0) ≡ 9 → GoodWord (get_or words i 0)
