-- Names for what the parts of Translate write, by masking's definitions, cited by inner functions and their proofs only: nothing here has to be believed.
use Rattle.std.specs.Prelude.{◌≡◌, List, [], ◌∷◌, map, ℕ, zero, suc, ◌+◌, ◌*◌, ◌^◌, ◌≤◌, ◌<◌, length}
use Rattle.std.proofs.lemmas.List.Edits.{sets}
use Rattle.word.specs.declared.step.Step.{Step}
use Rattle.word.specs.Encoding.{put, word_of}
use Rattle.masking.specs.Translation.{up_from}
use Rattle.emission_rows.specs.declared.Cells.{Cells}

-- words stand in `out` from place `at` on, and the next place is behind them
pub record Words (out : List ℕ) (at : ℕ) (ws : List ℕ) (after : List ℕ) (next : ℕ) : Type 0 where
  pub written : after ≡ sets out at ws
  pub ends : next ≡ at + length ws

-- the words of steps do
pub record Emits (out : List ℕ) (at : ℕ) (ss : List Step) (after : List ℕ) (next : ℕ) : Type 0 where
  pub written : after ≡ sets out at (map word_of ss)
  pub ends : next ≡ at + length ss

-- `out` has room for them
pub record Room (out : List ℕ) (at : ℕ) (ss : List Step) : Type 0 where
  pub fits : at + length ss ≤ length out

-- words in a row, each the last one and `over`
abbrev pub row_of : ℕ → ℕ → ℕ → List ℕ
row_of first over zero = []
row_of first over (suc c) = first ∷ row_of (first + over) over c

-- they are 32-bit words, and so is what would come next: kinds below 8, and at most 73 cells from share to share
pub record Rises (first over n : ℕ) : Type 0 where
  pub kind : first < 2 ^ 31
  pub small : over < 2 ^ 25
  pub most : n ≤ 8

-- share i's cell
abbrev pub cells_on : Cells → ℕ → ℕ
cells_on c i = c.first + c.over * i

-- a field has room for those of eight shares
pub record Fits (c : Cells) : Type 0 where
  pub field : c.first + c.over * 7 < 512

pub record EachFits (k : ℕ) (d a b : Cells) (n : ℕ) : Type 0 where
  pub kind : k < 8
  pub fits_d : Fits d
  pub fits_a : Fits a
  pub fits_b : Fits b
  pub most : n ≤ 8

-- a word of kind k for each of so many shares from one on, and for each share
abbrev pub each_from : ℕ → Cells → Cells → Cells → ℕ → ℕ → List ℕ
each_from k d a b s c = map (λ i. put k (cells_on d i) (cells_on a i) (cells_on b i)) (up_from s c)

abbrev pub each_word : ℕ → Cells → Cells → Cells → ℕ → List ℕ
each_word k d a b n = each_from k d a b 0 n
