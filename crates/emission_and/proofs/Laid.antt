-- AND in the parts in which it is written: its five and the wiping, each part's words by where its cells lie. Rests on masking's Wiping.
use mathlib.Core.Path.{◌≡◌, refl, ap₂}
use mathlib.Core.List.{List, [], ◌∷◌, ◌++◌, map}
use Prim.Native.Nat.{ℕ, ◌+◌}
use Rattle.word.specs.declared.step.Step.{Step}
use Rattle.word.specs.declared.step.Step.TheVariants.{Const, And, Shl}
use Rattle.word.specs.Encoding.{put}
use Rattle.word.specs.Layout.{cell_y, cell_z}
use Rattle.masking.specs.Translation.{scratch, shares, pairs, scratch_cells, wiping, and_steps, and_block}
use Rattle.masking.proofs.emitted.Wiping.{wiping_shares}
use Rattle.emission_rows.specs.declared.Cells.{Cells}
use Rattle.emission_rows.specs.inner.Written.{Words, Emits, cells_on, each_word}
use Rattle.emission_rows.proofs.Parts.{as_steps}
use Rattle.emission_rows.proofs.Each.{in_row, fixed, words_each, in_row_is, stays}
use Rattle.emission_pairs.specs.declared.EachPair.TheVariants.{Refresh, Products}
use Rattle.emission_pairs.specs.inner.Pairs.{pair_steps}

-- what share i gets: "copy b's shares to y", "z_i .. = a_i AND y_i", "copy z to d", CONST 0 into cells in a row
abbrev pub copy_in : Cells → ℕ → Step
copy_in b i = Shl (cell_y i) (cells_on b i) 0

abbrev pub diagonal : Cells → ℕ → Step
diagonal a i = And (cell_z i) (cells_on a i) (cell_y i)

abbrev pub copy_out : Cells → ℕ → Step
copy_out d i = Shl (cells_on d i) (cell_z i) 0

abbrev pub wipe : ℕ → ℕ → Step
wipe c i = Const (c + i) 0

pub and_parts : (n : ℕ) (d a b : Cells) → and_steps scratch n (cells_on d) (cells_on a) (cells_on b) ≡
    map (copy_in b) (shares n)
    ++ (pair_steps Refresh (pairs (shares n))
    ++ (map (diagonal a) (shares n)
    ++ (pair_steps (Products a) (pairs (shares n))
    ++ map (copy_out d) (shares n))))
unfolding and_steps
and_parts n d a b = refl

pub and_wiped : (n : ℕ) (d a b : Cells) → and_block scratch n (cells_on d) (cells_on a) (cells_on b)
    ≡ and_steps scratch n (cells_on d) (cells_on a) (cells_on b) ++ wiping (scratch_cells scratch n)
unfolding and_block
and_wiped n d a b = refl

pub wiping_parts : (n : ℕ) → wiping (scratch_cells scratch n)
    ≡ map (wipe 256) (shares n) ++ (map (wipe 264) (shares n) ++ ((Const 272 0 ∷ []) ++ (Const 273 0 ∷ [])))
wiping_parts n = wiping_shares scratch n

-- ---- their words

module _ {out : List ℕ} {at : ℕ} {after : List ℕ} {next : ℕ} where
  pub copied_in : (b : Cells) (n : ℕ) → Words out at (each_word 5 (in_row 256) b (fixed 0) n) after next → Emits out at (map (copy_in b) (shares n)) after next
  copied_in b n = as_steps _ (words_each (copy_in b) _ (λ i. ap₂ (λ (x y : ℕ). put 5 x (cells_on b i) y) (in_row_is 256 i) (stays 0 i)) 0 n)

  pub multiplied : (a : Cells) (n : ℕ) → Words out at (each_word 3 (in_row 264) a (in_row 256) n) after next → Emits out at (map (diagonal a) (shares n)) after next
  multiplied a n = as_steps _ (words_each (diagonal a) _ (λ i. ap₂ (λ (x y : ℕ). put 3 x (cells_on a i) y) (in_row_is 264 i) (in_row_is 256 i)) 0 n)

  pub copied_out : (d : Cells) (n : ℕ) → Words out at (each_word 5 d (in_row 264) (fixed 0) n) after next → Emits out at (map (copy_out d) (shares n)) after next
  copied_out d n = as_steps _ (words_each (copy_out d) _ (λ i. ap₂ (λ (x y : ℕ). put 5 (cells_on d i) x y) (in_row_is 264 i) (stays 0 i)) 0 n)

  pub wiped : (c n : ℕ) → Words out at (each_word 1 (in_row c) (fixed 0) (fixed 0) n) after next → Emits out at (map (wipe c) (shares n)) after next
  wiped c n = as_steps _ (words_each (wipe c) _ (λ i. ap₂ (λ (x y : ℕ). put 1 x y y) (in_row_is c i) (stays 0 i)) 0 n)
