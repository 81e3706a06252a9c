-- "Unsplit: 32 cells .. Register r joins to the exclusive-or of cells 32i + r for i below n; the unsplit start is the start so joined."
use Rattle.std.specs.Prelude.{List, [], ◌∷◌, map, ℕ, get_or}
use Rattle.bits.specs.Ops.{xor_w}
use Rattle.word.specs.Layout.{cell}
use Rattle.masking.specs.Translation.{up_from, shares}

-- the exclusive-or of f over share numbers
abbrev pub xor_over : (ℕ → ℕ) → List ℕ → ℕ
xor_over f [] = 0
xor_over f (i ∷ is) = xor_w (f i) (xor_over f is)

-- register r joined
unfoldable pub joined : ℕ → List ℕ → ℕ → ℕ
joined n cells r = xor_over (λ i. get_or cells (cell i r) 0) (shares n)

-- the 32 registers joined
abbrev pub unsplit : ℕ → List ℕ → List ℕ
unsplit n cells = map (joined n cells) (up_from 0 32)
