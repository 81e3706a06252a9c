-- Document 01's table of kinds: which cell a step sets, which cells it reads, and what the cell becomes. Both machines go by this one table.
use Rattle.std.specs.Prelude.{Bool, true, ◌&&◌, List, [], ◌∷◌, ℕ}
use Rattle.bits.specs.Ops.{xor_w, and_w, not_w, shl_w, shr_w, spread_w, add_w}
use Rattle.word.specs.declared.step.Step.{Step}
use Rattle.word.specs.declared.step.Step.TheVariants.{Const, Xor, And, Not, Shl, Shr, Spread, Add, Rand}

-- "cell d"
abbrev pub dest : Step → ℕ
dest (Const d k) = d
dest (Xor d a b) = d
dest (And d a b) = d
dest (Not d a) = d
dest (Shl d a b) = d
dest (Shr d a b) = d
dest (Spread d a) = d
dest (Add d a b) = d
dest (Rand d) = d

-- the cells that it reads: "a", "b" where they name cells
abbrev pub reads : Step → List ℕ
reads (Const d k) = []
reads (Xor d a b) = a ∷ b ∷ []
reads (And d a b) = a ∷ b ∷ []
reads (Not d a) = a ∷ []
reads (Shl d a b) = a ∷ []
reads (Shr d a b) = a ∷ []
reads (Spread d a) = a ∷ []
reads (Add d a b) = a ∷ b ∷ []
reads (Rand d) = []

-- what holds of each cell of a list; a test of each, and of each cell that a step names
abbrev pub Each : (ℕ → Type 0) → List ℕ → Type 0
Each P [] = Unit {0}
Each P (c ∷ cs) = P c × Each P cs

abbrev pub all_in : (ℕ → Bool) → List ℕ → Bool
all_in p [] = true
all_in p (c ∷ cs) = p c && all_in p cs

abbrev pub naming : (ℕ → Bool) → Step → Bool
naming p s = all_in p (dest s ∷ reads s)

-- "cell d becomes": `at` reads a cell, `next` is the next tape word
abbrev pub becomes : Step → (ℕ → ℕ) → ℕ → ℕ
becomes (Const d k) at next = k
becomes (Xor d a b) at next = xor_w (at a) (at b)
becomes (And d a b) at next = and_w (at a) (at b)
becomes (Not d a) at next = not_w (at a)
becomes (Shl d a b) at next = shl_w (at a) b
becomes (Shr d a b) at next = shr_w (at a) b
becomes (Spread d a) at next = spread_w (at a)
becomes (Add d a b) at next = add_w (at a) (at b)
becomes (Rand d) at next = next
