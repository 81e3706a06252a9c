-- Steps on registers, each for all shares, join to the same steps of an unsplit machine: every kind that ADD is laid out in. Over any
-- scratch places that lie apart.
use mathlib.Core.Path.{◌≡◌, refl, ap, ◌∙◌}
use mathlib.Core.Bool.{Bool, not, ◌&&◌}
use mathlib.Core.List.{List, [], ◌∷◌}
use Prim.Native.Nat.{ℕ, ◌<◌}
use lib.Dec.{T, eqb}
use Rattle.word.specs.declared.step.Step.{Step}
use Rattle.word.specs.declared.step.Step.TheVariants.{Const, Xor, And, Not, Shl, Shr, Spread, Add, Rand}
use Rattle.word.specs.Encoding.{within, kind_number}
use Rattle.word.specs.Table.{dest, reads, becomes}
use Rattle.word.proofs.Ranges.{each_of, within_cells}
use Rattle.word.proofs.Becomes.{becomes_reads}
use Rattle.masking.specs.Translation.{Scratch, block, blocks}
use Rattle.masking.proofs.emitted.Tests.{All}
use Rattle.masking.proofs.emitted.Places.{Places}
use Rattle.masking.proofs.emitted.Ranges.{block_all}
use Rattle.masking.proofs.joined.Cells.{Cells, upd, upd_other, upd_at, WordCells, step_on, Fits}
use Rattle.masking.proofs.joined.After.{after, after_then, after_words, Off}
use Rattle.masking.proofs.joined.Once.{join_of, Sets, once_joins}
use Rattle.masking.proofs.joined.And.{any, fit_steps, and_joins}

-- the unsplit machine: registers as a function
abbrev pub unsplit_on : List Step → Cells → Cells
unsplit_on [] R = R
unsplit_on (s ∷ ss) R = unsplit_on ss (step_on s 0 R)

pub unsplit_off : (ss : List Step) (R : Cells) (r : ℕ) → Off r ss → unsplit_on ss R r ≡ R r
unsplit_off [] R r o = refl
unsplit_off (s ∷ ss) R r o = unsplit_off ss (step_on s 0 R) r o.1 ∙ upd_other R (dest s) (becomes s R 0) r o.0

pub becomes_same : (w : ℕ) (s : Step) → T (within w s) → (f g : Cells) → ((r : ℕ) → r < w → f r ≡ g r) → becomes s f 0 ≡ becomes s g 0
becomes_same w s h f g e = becomes_reads s f g (each_of (λ r. r < w) (λ r. f r ≡ g r) e (reads s) (within_cells w s h).1) 0

-- a step that has share steps: neither ADD, which is laid out first, nor RAND
abbrev pub laid : Step → Bool
laid s = not (eqb (kind_number s) 8) && not (eqb (kind_number s) 9)

module _ (n w : ℕ) (C : Scratch) (L : Places n w C) (some : 0 < n) where
  pub block_joins : (s : Step) → T (within w s) → T (laid s) → (c : Cells) → WordCells c → after (block C n s) (Sets n w c (dest s) (becomes s (join_of n c) 0)) c
  block_joins (Const d k) h o c words = once_joins n w C L (Const d k) h tt some c words
  block_joins (Xor d a b) h o c words = once_joins n w C L (Xor d a b) h tt some c words
  block_joins (And d a b) h o c words = let q = within_cells w (And d a b) h in and_joins n w C L d a b q.0 q.1.0 q.1.1.0 c words
  block_joins (Not d a) h o c words = once_joins n w C L (Not d a) h tt some c words
  block_joins (Shl d a b) h o c words = once_joins n w C L (Shl d a b) h tt some c words
  block_joins (Shr d a b) h o c words = once_joins n w C L (Shr d a b) h tt some c words
  block_joins (Spread d a) h o c words = once_joins n w C L (Spread d a) h tt some c words
  block_joins (Add d a b) h o c words = absurd o
  block_joins (Rand d) h o c words = absurd o

  -- words, joining to registers R
  abbrev pub Joins : Cells → Cells → Type 0
  Joins R e = WordCells e × ((r : ℕ) → r < w → join_of n e r ≡ R r)

  pub blocks_joins : (ss : List Step) → All (λ s. T (within w s)) ss → All (λ s. T (laid s)) ss → (R c : Cells) → Joins R c
      → after (blocks C n ss) (Joins (unsplit_on ss R)) c
  blocks_joins [] h o R c j = j
  blocks_joins (s ∷ ss) h o R c j =
      after_then (block C n s) (blocks C n ss) (λ e. WordCells e × Sets n w c (dest s) (becomes s (join_of n c) 0) e) (Joins (unsplit_on (s ∷ ss) R)) c
      (after_words (block C n s) (Sets n w c (dest s) (becomes s (join_of n c) 0)) c
      (block_all n w C _ (any n w C) Fits fit_steps s h.0) j.0 (block_joins s h.0 o.0 c j.0))
      (λ e q. blocks_joins ss h.1 o.1 (step_on s 0 R) e (
        q.0,
        λ r l.
            q.1 r l ∙ upd_at (join_of n c) R (dest s) (becomes s (join_of n c) 0) r (j.1 r l)
            ∙ ap (λ (v : ℕ). upd R (dest s) v r) (becomes_same w s h.0 (join_of n c) R j.1),
      ))
