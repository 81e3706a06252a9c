-- Names that inner contracts cite: nothing here has to be believed.
use Rattle.std.specs.Prelude.{◌≡◌, List, ℕ, ◌*◌, ◌<◌, length}
use Rattle.fft_numbers.specs.Complex.{slot_of_part}
use Rattle.fft_numbers.specs.Layout.{number_of}
use Rattle.fft_slots.specs.inner.Inner.{held_of}

-- the complex product's result is what its slots hold
pub record PartsOut (n : ℕ) (work result : List ℕ) : Type 0 where
  pub size : length result ≡ 2 * n
  pub each : (j : ℕ) → j < 2 → number_of n 2 j result ≡ held_of n (slot_of_part j) work
