-- The carries of a sum of two words a and b, with its run of ones beside them, for 12 ANDs: as many as ADD, which gives the sum alone.
-- Registers: H = a XOR b, G the carries out of each place, so that a + b is H XOR (G SHL 1), N a run: a place is 0 where H is 1 there and in all places below, so that
-- N is the complement of a prefix adder's propagate bits, and H XOR (G SHL 1) XOR NOT (N SHL 1) is a + b + 1.
-- Nothing here has to be believed: what the plans compute is proved.
use Rattle.std.specs.Prelude.{List, [], ◌∷◌, ◌++◌, ℕ, ◌-◌}
use Rattle.word.specs.declared.step.Step.{Step}
use Rattle.word.specs.declared.step.Step.TheVariants.{Xor, And, Not, Shl, Shr}

-- carries over twice k places, and the run over twice k places; p and t are scratch
unfoldable pub carry_step : ℕ → ℕ → ℕ → ℕ → ℕ → List Step
carry_step k G N p t = Not p N ∷ Shl t G k ∷ And t p t ∷ Xor G G t ∷ Shl t N k ∷ And t p t ∷ Xor N N t ∷ []

-- the same with one AND, where only the f top places of G and N shifted by k can hold a 1: G's part is in these places, N's in the f low ones; t, u and v are scratch
unfoldable pub paired_step : ℕ → ℕ → ℕ → ℕ → ℕ → ℕ → ℕ → List Step
paired_step f k G N t u v =
    Not t N ∷ Shr t t (64 - f) ∷ Shl v t (64 - f) ∷ Xor t t v ∷ Shl u G k ∷ Shl v N k ∷ Shr v v (64 - f) ∷ Xor u u v ∷ And t t u
    ∷ Shr u t (64 - f) ∷ Shl u u (64 - f) ∷ Xor G G u ∷ Shl u t (64 - f) ∷ Xor N N u ∷ []

-- H the exclusive-or of registers a and b, G the carries of their sum, N its run
unfoldable pub add_with_run : ℕ → ℕ → ℕ → ℕ → ℕ → ℕ → ℕ → ℕ → ℕ → List Step
unfolding carry_step paired_step
add_with_run a b H G N p t u v =
    Xor H a b ∷ And G a b ∷ Not N H
    ∷ (carry_step 1 G N p t ++ (carry_step 2 G N p t ++ (carry_step 4 G N p t ++ (carry_step 8 G N p t ++ (carry_step 16 G N p t ++ paired_step 32 32 G N t u v)))))
