-- What holds of every share step on named cells holds of all share steps of a step on registers. Rests on word's Ranges, Tests, Pairs and
-- Wiping.
use mathlib.Core.Bool.{not}
use mathlib.Core.List.{List, [], ◌∷◌, map}
use Prim.Native.Nat.{ℕ, zero, suc, ◌<◌}
use native.Mathlib.Omega.{arith}
use lib.Dec.{T, eqb}
use Rattle.word.specs.declared.step.Step.{Step}
use Rattle.word.specs.declared.step.Step.TheVariants.{Const, Xor, And, Not, Shl, Shr, Spread, Add, Rand}
use Rattle.word.specs.Encoding.{number_fits, kind_number, within}
use Rattle.word.specs.Table.{dest, reads, Each}
use Rattle.word.proofs.Ranges.{within_cells, within_number}
use Rattle.masking.specs.Translation.{shares, Pair, pairs, share_cell, cells_of, first_other, Scratch, refresh, products, and_steps, scratch_cells, wiping, and_block, block, blocks}
use Rattle.masking.proofs.emitted.Tests.{All, all_append, all_from}
use Rattle.masking.proofs.emitted.Pairs.{Apart, apart_pairs}
use Rattle.masking.proofs.emitted.Wiping.{each_scratch}

-- cells that Q names for n shares of w registers
pub record Names (n w : ℕ) (c : Scratch) (Q : ℕ → Type 0) : Type 0 where
  pub share : (i r : ℕ) → i < n → r < w → Q (share_cell i r)
  pub y : (i : ℕ) → i < n → Q (c.y i)
  pub z : (i : ℕ) → i < n → Q (c.z i)
  pub t : Q c.t
  pub u : Q c.u

-- P holds of every step but ADD whose cells are such cells and whose number fits
abbrev pub HoldsOn : (ℕ → Type 0) → (Step → Type 0) → Type 0
HoldsOn Q P = (s : Step) → T (not (eqb (kind_number s) 8)) → Each Q (dest s ∷ reads s) → T (number_fits s) → P s

first_other_is : (P : Step → Type 0) (i : ℕ) (s o : Step) → P s → P o → P (first_other i s o)
first_other_is P zero s o a b = a
first_other_is P (suc i) s o a b = b

module _ (n w : ℕ) (c : Scratch) (Q : ℕ → Type 0) (N : Names n w c Q) (P : Step → Type 0) (K : HoldsOn Q P) where
  -- "c XOR e" puts the result in c
  xor_in : (d e : ℕ) → Q d → Q e → P (Xor d d e)
  xor_in d e hd he = K (Xor d d e) tt (hd, (hd, (he, tt))) tt

  pub refresh_all : (ps : List Pair) → Apart n ps → All P (refresh c ps)
  refresh_all [] h = tt
  refresh_all (e ∷ ps) h =
      (K (Rand c.t) tt (N.t, tt) tt, (xor_in _ _ (N.y _ h.0) N.t, (xor_in _ _ (N.y _ h.1) N.t, refresh_all ps h.3)))

  module _ (a : ℕ) (la : a < w) where
    pub products_all : (ps : List Pair) → Apart n ps → All P (products c (cells_of a) ps)
    products_all [] h = tt
    products_all (e ∷ ps) h =
        let and_u : (i j : ℕ) → i < n → j < n → P (And c.u (share_cell i a) (c.y j)) = λ i j l m. K (And c.u (share_cell i a) (c.y j)) tt (N.u, (N.share i a l la, (N.y j m, tt))) tt in
        let t_u = xor_in c.t c.u N.t N.u in (
          K (Rand c.t) tt (N.t, tt) tt,
          (
            xor_in _ _ (N.z _ h.0) N.t,
            (and_u _ _ h.0 h.1, (t_u, (and_u _ _ h.1 h.0, (t_u, (xor_in _ _ (N.z _ h.1) N.t, products_all ps h.3))))),
          ),
        )

  pub each : (f : ℕ → Step) → ((i : ℕ) → i < n → P (f i)) → All P (map f (shares n))
  each f h = all_from P f 0 n (λ i l m. h i (omega arith))

  steps_all : (d a b : ℕ) → d < w → a < w → b < w → All P (and_steps c n (cells_of d) (cells_of a) (cells_of b))
  unfolding and_steps
  steps_all d a b ld la lb =
      all_append P (map (λ i. Shl (c.y i) (share_cell i b) 0) (shares n)) _ (each _ (λ i l. K (Shl (c.y i) (share_cell i b) 0) tt (N.y i l, (N.share i b l lb, tt)) tt))
      (all_append P (refresh c (pairs (shares n))) _ (refresh_all (pairs (shares n)) (apart_pairs n))
      (all_append P (map (λ i. And (c.z i) (share_cell i a) (c.y i)) (shares n)) _ (each _ (λ i l. K (And (c.z i) (share_cell i a) (c.y i)) tt (N.z i l, (N.share i a l la, (N.y i l, tt))) tt))
      (all_append P (products c (cells_of a) (pairs (shares n))) _ (products_all a la (pairs (shares n)) (apart_pairs n))
      (each _ (λ i l. K (Shl (share_cell i d) (c.z i) 0) tt (N.share i d l ld, (N.z i l, tt)) tt)))))

  pub wiping_all : (ks : List ℕ) → Each Q ks → All P (wiping ks)
  wiping_all [] h = tt
  wiping_all (k ∷ ks) h = (K (Const k 0) tt (h.0, tt) tt, wiping_all ks h.1)

  and_all : (d a b : ℕ) → d < w → a < w → b < w → All P (and_block c n (cells_of d) (cells_of a) (cells_of b))
  unfolding and_block
  and_all d a b ld la lb =
      all_append P (and_steps c n (cells_of d) (cells_of a) (cells_of b)) _ (steps_all d a b ld la lb)
      (wiping_all (scratch_cells c n) (each_scratch Q c n N.y N.z N.t N.u))

  -- registers in range have their shares among the cells
  shared : (i : ℕ) → i < n → (rs : List ℕ) → Each (λ r. r < w) rs → Each Q (map (share_cell i) rs)
  shared i l [] h = tt
  shared i l (r ∷ rs) h = (N.share i r l h.0, shared i l rs h.1)

  -- the share steps of a step on registers
  pub block_all : (s : Step) → T (within w s) → All P (block c n s)
  block_all (Const d k) h =
      each _ (λ i l.
      let e = shared i l (d ∷ []) (within_cells w (Const d k) h) in
      first_other_is P i _ _ (K (Const (share_cell i d) k) tt e (within_number w (Const d k) h)) (K (Const (share_cell i d) 0) tt e tt))
  block_all (Xor d a b) h =
      each _ (λ i l. K (Xor (share_cell i d) (share_cell i a) (share_cell i b)) tt (shared i l (d ∷ a ∷ b ∷ []) (within_cells w (Xor d a b) h)) tt)
  block_all (And d a b) h = let e = within_cells w (And d a b) h in and_all d a b e.0 e.1.0 e.1.1.0
  block_all (Not d a) h =
      each _ (λ i l.
      let e = shared i l (d ∷ a ∷ []) (within_cells w (Not d a) h) in
      first_other_is P i _ _ (K (Not (share_cell i d) (share_cell i a)) tt e tt) (K (Shl (share_cell i d) (share_cell i a) 0) tt e tt))
  block_all (Shl d a b) h =
      each _ (λ i l. K (Shl (share_cell i d) (share_cell i a) b) tt (shared i l (d ∷ a ∷ []) (within_cells w (Shl d a b) h)) (within_number w (Shl d a b) h))
  block_all (Shr d a b) h =
      each _ (λ i l. K (Shr (share_cell i d) (share_cell i a) b) tt (shared i l (d ∷ a ∷ []) (within_cells w (Shr d a b) h)) (within_number w (Shr d a b) h))
  block_all (Spread d a) h = each _ (λ i l. K (Spread (share_cell i d) (share_cell i a)) tt (shared i l (d ∷ a ∷ []) (within_cells w (Spread d a) h)) tt)
  block_all (Add d a b) h = tt
  block_all (Rand d) h = tt

  pub blocks_all : (ss : List Step) → All (λ s. T (within w s)) ss → All P (blocks c n ss)
  blocks_all [] h = tt
  blocks_all (s ∷ ss) h = all_append P (block c n s) (blocks c n ss) (block_all s h.0) (blocks_all ss h.1)
