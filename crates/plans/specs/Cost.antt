-- What a plan costs on shares, by its own words: document 01's "2Q for each AND among them and 24Q for each ADD", 2Q = n(n−1).
use Rattle.std.specs.Prelude.{◌≡◌, cond, List, [], ◌∷◌, ℕ, ◌+◌, ◌-◌, ◌*◌, ◌≤◌, eqb, length}
use Rattle.word.specs.Encoding.{kind_of}
use Rattle.masking.specs.Foretold.{foretold_tape}

-- how many of a plan's words are of a kind (3 AND, 8 ADD)
abbrev pub of_kind : ℕ → List ℕ → ℕ
of_kind k [] = 0
of_kind k (w ∷ ws) = cond (eqb (kind_of w) k) 1 0 + of_kind k ws

-- the masked ANDs of a plan: one for each AND among its words, twelve for each ADD
abbrev pub masked_ands : List ℕ → ℕ
masked_ands plan = of_kind 3 plan + 12 * of_kind 8 plan

-- a plan's figures, and the tape words that follow from them
pub record Figures (plan : List ℕ) (words ands adds : ℕ) : Type 0 where
  pub words_are : length plan ≡ words
  pub ands_are : of_kind 3 plan ≡ ands
  pub adds_are : of_kind 8 plan ≡ adds
  pub tape_is : (n : ℕ) → 2 ≤ n → n ≤ 8 → foretold_tape n plan ≡ (ands + 12 * adds) * (n * (n - 1))
