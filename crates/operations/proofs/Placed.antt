-- The work slice at the start: operands of at most eight words in registers 0 and 1, over any cells and over zeros. Rests on plain's Laws (stores keep words), masking's Sums and masked_call's Filling.
use mathlib.Core.Path.{◌≡◌, refl, sym, ap, ap₂, ◌∙◌}
use mathlib.Core.List.{List, [], ◌∷◌}
use Prim.Native.Nat.{ℕ, zero, suc, ◌+◌, ◌≤◌, ◌<◌}
use native.Mathlib.Nat.{add-zero, zero-add}
use native.Mathlib.Omega.{arith}
use native.Mathlib.Decide.{dec_lt}
use lib.ListN.{length, get_or, set, replicate, get_or-replicate, get_or-eq_default}
use lib.Pow.{pow_pos}
use Rattle.bits.specs.Ops.{xor_w}
use Rattle.bits.proofs.Xor.{xor_zero}
use Rattle.word.specs.Layout.{cell}
use Rattle.masking.specs.Translation.{up_from, shares}
use Rattle.masking.specs.Machine.{Words, Start}
use Rattle.masking.specs.Unsplit.{xor_over, joined}
use Rattle.masking.specs.Secrecy.{Agree}
use Rattle.plain.proofs.Laws.{set_words}
use Rattle.masking.proofs.joined.Sums.{sum_same}
use Rattle.masked_call.proofs.Filling.{placed_size, placed_other, placed_share}
use Rattle.masked_call.specs.Shares.{placed_in, placed, placed_over}
use Rattle.split_join.specs.SplitJoin.{xor_all}

-- ---- exclusive-ors of n words
shares_from : (x : List ℕ) (s c : ℕ) (f : ℕ → ℕ) → length x ≤ c → ((j : ℕ) → f (s + j) ≡ get_or x j 0) → xor_over f (up_from s c) ≡ xor_all x
shares_from [] s zero f l h = refl
shares_from [] s (suc c) f l h =
    ap₂ xor_w (ap f (sym (add-zero s)) ∙ h 0) (shares_from [] (suc s) c f (omega arith) (λ j. ap f (omega arith) ∙ h (suc j))) ∙ xor_zero 0
shares_from (v ∷ x) s zero f l h = absurd (omega arith)
shares_from (v ∷ x) s (suc c) f l h = ap₂ xor_w (ap f (sym (add-zero s)) ∙ h 0) (shares_from x (suc s) c f (omega arith) (λ j. ap f (omega arith) ∙ h (suc j)))

-- words past the operand's end are 0
all_shares : (n : ℕ) (x : List ℕ) → length x ≤ n → xor_over (λ i. get_or x i 0) (shares n) ≡ xor_all x
all_shares n x l = shares_from x 0 n (λ i. get_or x i 0) l (λ j. ap (λ (k : ℕ). get_or x k 0) (zero-add j))

-- ---- shares into one register
in_words : (r i : ℕ) (x cells : List ℕ) → Words x → Words cells → Words (placed_in r i x cells)
in_words r i [] cells wx w = w
in_words r i (v ∷ x) cells wx w = in_words r (suc i) x (set cells (cell i r) v) (λ k. wx (suc k)) (set_words cells (cell i r) v w (wx 0))

-- operands placed over a start make one
pub over_start : (x y : List ℕ) → Words x → Words y → (cells : List ℕ) → Start cells → Start (placed_over x y cells)
over_start x y wx wy cells S =
    record {
      size = placed_size 1 0 y (placed_in 0 0 x cells) ∙ placed_size 0 0 x cells ∙ S.size;
      words = in_words 1 0 y (placed_in 0 0 x cells) wy (in_words 0 0 x cells wx S.words);
    }

-- share i + j of cells that are 0 there: past the operand's end both are 0
in_share : (r i : ℕ) (x cells : List ℕ) (j : ℕ) → r < 32 → i + length x ≤ 8 → length cells ≡ 512 → get_or cells (cell (i + j) r) 0 ≡ 0
    → get_or (placed_in r i x cells) (cell (i + j) r) 0 ≡ get_or x j 0
in_share r i x cells j lr few size z = by (dec_lt j (length x))
  where
    by : Dec (j < length x) → get_or (placed_in r i x cells) (cell (i + j) r) 0 ≡ get_or x j 0
    by (yes h) = placed_share r i x cells j lr few size h
    by (no h) = placed_other r i x cells (cell (i + j) r) (λ m a b e. omega arith) ∙ z ∙ sym (get_or-eq_default x 0 {n = j} (omega arith))

-- ---- the work slice
abbrev zeros : List ℕ
zeros = replicate 512 0

zero_at : (k : ℕ) → get_or zeros k 0 ≡ 0
zero_at k = by (dec_lt k 512)
  where
    by : Dec (k < 512) → get_or zeros k 0 ≡ 0
    by (yes h) = get_or-replicate 512 k 0 0 h
    by (no h) = get_or-eq_default zeros 0 {n = k} (omega arith)

pub zeros_start : Start zeros
zeros_start = record { size = refl; words = λ k. rw (zero_at k) (pow_pos 64) }

module _ (x y : List ℕ) (few_x : length x ≤ 8) (few_y : length y ≤ 8) where
  abbrev with_x : List ℕ
  with_x = placed_in 0 0 x zeros

  with_x_size : length with_x ≡ 512
  with_x_size = placed_size 0 0 x zeros

  pub register_0 : (i : ℕ) → get_or (placed x y) (cell i 0) 0 ≡ get_or x i 0
  unfolding placed
  register_0 i =
      placed_other 1 0 y with_x (cell i 0) (λ j l m e. omega arith)
      ∙ ap (λ (k : ℕ). get_or with_x (cell k 0) 0) (sym (zero-add i))
      ∙ in_share 0 0 x zeros i (omega arith) (omega arith) refl (zero_at (cell (0 + i) 0))

  pub register_1 : (i : ℕ) → get_or (placed x y) (cell i 1) 0 ≡ get_or y i 0
  unfolding placed
  register_1 i =
      ap (λ (k : ℕ). get_or (placed_in 1 0 y with_x) (cell k 1) 0) (sym (zero-add i))
      ∙ in_share 1 0 y with_x i (omega arith) (omega arith) with_x_size (placed_other 0 0 x zeros (cell (0 + i) 1) (λ j l m e. omega arith) ∙ zero_at (cell (0 + i) 1))

  pub other_register : (i r : ℕ) → 2 ≤ r → r < 32 → get_or (placed x y) (cell i r) 0 ≡ 0
  unfolding placed
  other_register i r l h =
      placed_other 1 0 y with_x (cell i r) (λ j m o e. omega arith) ∙ placed_other 0 0 x zeros (cell i r) (λ j m o e. omega arith) ∙ zero_at (cell i r)

  pub placed_start : Words x → Words y → Start (placed x y)
  unfolding placed
  placed_start wx wy = over_start x y wx wy zeros zeros_start

  -- ---- joined
  pub joins_0 : (n : ℕ) → length x ≤ n → joined n (placed x y) 0 ≡ xor_all x
  unfolding joined
  joins_0 n l = sum_same n (λ i. get_or (placed x y) (cell i 0) 0) (λ i. get_or x i 0) (λ i h. register_0 i) ∙ all_shares n x l

  pub joins_1 : (n : ℕ) → length y ≤ n → joined n (placed x y) 1 ≡ xor_all y
  unfolding joined
  joins_1 n l = sum_same n (λ i. get_or (placed x y) (cell i 1) 0) (λ i. get_or y i 0) (λ i h. register_1 i) ∙ all_shares n y l

-- operands that agree in a share make starts that agree in it
pub placed_agree : (x y x' y' : List ℕ) → length x ≤ 8 → length y ≤ 8 → length x' ≤ 8 → length y' ≤ 8
    → (i : ℕ) → get_or x i 0 ≡ get_or x' i 0 → get_or y i 0 ≡ get_or y' i 0 → Agree i (placed x y) (placed x' y')
placed_agree x y x' y' lx ly lx' ly' i ex ey zero h = register_0 x y lx ly i ∙ ex ∙ sym (register_0 x' y' lx' ly' i)
placed_agree x y x' y' lx ly lx' ly' i ex ey (suc zero) h = register_1 x y lx ly i ∙ ey ∙ sym (register_1 x' y' lx' ly' i)
placed_agree x y x' y' lx ly lx' ly' i ex ey (suc (suc r)) h =
    other_register x y lx ly i (suc (suc r)) (omega arith) h ∙ sym (other_register x' y' lx' ly' i (suc (suc r)) (omega arith) h)
