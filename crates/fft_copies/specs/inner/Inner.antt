-- Names that inner contracts cite: nothing here has to be believed. A number's shares lie `step` apart from `at` on.
use Rattle.std.specs.Prelude.{◌≡◌, List, [], ◌∷◌, ℕ, suc, ◌+◌, ◌*◌, ◌<◌, set}

-- words written from `at` on, `step` apart, from share i on
abbrev pub written : ℕ → ℕ → ℕ → List ℕ → List ℕ → List ℕ
written step at i [] l = l
written step at i (x ∷ xs) l = written step at (suc i) xs (set l (step * i + at) x)

-- a number's places lie in a slice of this length
abbrev pub Inside : ℕ → ℕ → ℕ → ℕ → Type 0
Inside n step at size = (i : ℕ) → i < n → step * i + at < size

-- the places of one number are none of another's
abbrev pub Apart : ℕ → ℕ → ℕ → ℕ → ℕ → Type 0
Apart n step at step' at' = (i i' : ℕ) → i < n → i' < n → step * i + at ≡ step' * i' + at' → ⊥
