-- Wiped scratch, from document 02, No. 4: "After the whole program of a plan that holds AND or ADD those 2n + 2 cells are zero."
use Rattle.std.specs.Prelude.{◌≡◌, Bool, false, ◌||◌, List, [], ◌∷◌, ℕ, ◌<◌, eqb, get_or}
use Rattle.word.specs.Encoding.{kind_of}
use Rattle.word.specs.Layout.{cell_y, cell_z, cell_t, cell_u}

-- "a plan that holds AND or ADD", kinds 3 and 8
abbrev pub holds_and_or_add : List ℕ → Bool
holds_and_or_add [] = false
holds_and_or_add (w ∷ ws) = (eqb (kind_of w) 3 || eqb (kind_of w) 8) || holds_and_or_add ws

-- "those 2n + 2 cells are zero": y and z of each of n shares, t and u. (A cell past the end reads 0 too; `size` of `InARow` says that there are
-- 512.)
pub record Wiped (n : ℕ) (cells : List ℕ) : Type 0 where
  pub y : (i : ℕ) → i < n → get_or cells (cell_y i) 0 ≡ 0
  pub z : (i : ℕ) → i < n → get_or cells (cell_z i) 0 ≡ 0
  pub t : get_or cells cell_t 0 ≡ 0
  pub u : get_or cells cell_u 0 ≡ 0
