-- Names that inner contracts cite: nothing here has to be believed.
use Rattle.std.specs.Prelude.{◌≡◌, List, ℕ, ◌<◌, length, get_or}
use Rattle.fft_numbers.specs.Acts.{Act, Slots, run_plain}

-- the lent words are the lent numbers
pub record PlainLent (S : ℕ) (numbers : List ℕ) (s : Slots ℕ) : Type 0 where
  pub size : length numbers ≡ S
  pub each : (j : ℕ) → j < S → get_or numbers j 0 ≡ s.lent j

-- words that lent numbers before some acts, and those that lend them after
abbrev pub PlainDone : ℕ → List Act → List ℕ → List ℕ → Type 0
PlainDone S acts numbers numbers' = (s : Slots ℕ) → PlainLent S numbers s → PlainLent S numbers' (run_plain acts s)
