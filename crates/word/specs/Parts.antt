-- What is proved of taking apart and putting together, for the rule of plans and for that of share programs.
use Rattle.std.specs.Prelude.{◌≡◌, Bool, ◌⊎◌, ℕ, ◌^◌, ◌<◌, T, Some, None}
use Rattle.word.specs.declared.step.Step.{Step}
use Rattle.word.specs.Encoding.{taken, word_of, in_plan, in_program}

-- a word that is not bad is what its parts put together again, and these parts are in the rule's range
pub record OfParts (rule : Step → Bool) (w : ℕ) : Type 0 where
  pub step : Step
  pub apart : taken rule w ≡ Some step
  pub in_range : T (rule step)
  pub together : word_of step ≡ w

-- a bad word: no parts in the rule's range put it together
pub record OfNone (rule : Step → Bool) (w : ℕ) : Type 0 where
  pub apart : taken rule w ≡ None
  pub none : (s : Step) → T (rule s) → word_of s ≡ w → ⊥

-- parts in range put together and taken apart are themselves, and every 32-bit word is either made of parts or bad
pub record Exact (rule : Step → Bool) : Type 0 where
  pub back : (s : Step) → T (rule s) → (word_of s < 2 ^ 32) × (taken rule (word_of s) ≡ Some s)
  pub every : (w : ℕ) → w < 2 ^ 32 → OfParts rule w ⊎ OfNone rule w

-- what is proved: so it is by the rule of plans and by that of share programs
pub record WordsExact : Type 0 where
  pub plans : Exact in_plan
  pub programs : Exact in_program
