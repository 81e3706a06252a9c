-- Document 01's ADD on unsplit words: the helper registers H, G, P and T, step by step.
use Rattle.std.specs.Prelude.{◌≡◌, List, [], ◌∷◌, ℕ, ◌^◌, ◌<◌}
use Rattle.bits.specs.Ops.{xor_w, and_w, shl_w, add_w}

-- helpers G and P; H stays as it is and T is spent within a round
pub record Carry : Type 0 where
  pub G : ℕ
  pub P : ℕ

-- "T = G SHL k; T = P AND T; G = G XOR T; .. T = P SHL k; P = P AND T"
-- (after k = 32 the last two words are left out: nothing reads that P)
abbrev pub carry_round : ℕ → Carry → Carry
carry_round k c = record { G = xor_w c.G (and_w c.P (shl_w c.G k)); P = and_w c.P (shl_w c.P k) }

abbrev pub carry_rounds : List ℕ → Carry → Carry
carry_rounds [] c = c
carry_rounds (k ∷ ks) c = carry_rounds ks (carry_round k c)

-- "H = a XOR b; G = a AND b; P = H by SHL 0"
abbrev pub entered : ℕ → ℕ → Carry
entered a b = record { G = and_w a b; P = shl_w (xor_w a b) 0 }

-- "For k = 1, 2, 4, 8, 16, 32: ..  Then T = G SHL 1; d = H XOR T."
unfoldable pub adder : ℕ → ℕ → ℕ
adder a b = xor_w (xor_w a b) (shl_w (carry_rounds (1 ∷ 2 ∷ 4 ∷ 8 ∷ 16 ∷ 32 ∷ []) (entered a b)).G 1)

-- what is proved of it: for all words it is the wrapping sum
abbrev pub AdderAdds : Type 0
AdderAdds = (a b : ℕ) → a < 2 ^ 64 → b < 2 ^ 64 → adder a b ≡ add_w a b
