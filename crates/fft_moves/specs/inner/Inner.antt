-- Names that inner contracts cite: nothing here has to be believed.
use Rattle.std.specs.Prelude.{List, [], ◌∷◌, ℕ, ◌+◌}
use Rattle.fft_numbers.specs.Acts.{Act, Load}
use Rattle.fft_numbers.specs.Complex.{slot_c, slot_d}
use Rattle.fft_numbers.specs.Layer.{slot_ure, slot_uim}

-- a pair's numbers into their slots
abbrev pub numbers_loaded : ℕ → ℕ → ℕ → List Act
numbers_loaded N h p = Load slot_c (p + h) ∷ Load slot_d (N + (p + h)) ∷ Load slot_ure p ∷ Load slot_uim (N + p) ∷ []
