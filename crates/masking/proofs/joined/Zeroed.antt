-- Cells wiped by CONST 0: they are zero afterwards, and cells that are not among them stay. Rests on emitted's Wiping.
use mathlib.Core.Path.{◌≡◌, refl}
use mathlib.Core.Bool.{Bool, true, false, cond}
use mathlib.Core.List.{List, [], ◌∷◌}
use Prim.Native.Nat.{ℕ, ◌<◌}
use lib.Dec.{eqb}
use Rattle.word.specs.Table.{Each}
use Rattle.word.proofs.Ranges.{each_of}
use Rattle.masking.specs.Translation.{share_cell, Scratch, scratch_cells, wiping}
use Rattle.masking.proofs.emitted.Places.{Places}
use Rattle.masking.proofs.emitted.Wiping.{Aside, scratch_aside}
use Rattle.masking.proofs.joined.Cells.{Cells, upd, upd_same}
use Rattle.masking.proofs.joined.After.{after, after_mono, Off}

-- a cell that is none of them
pub wiping_off : (x : ℕ) (ks : List ℕ) → Each (λ k. x ≡ k → ⊥) ks → Off x (wiping ks)
wiping_off x [] h = tt
wiping_off x (k ∷ ks) h = (h.0, wiping_off x ks h.1)

-- a share is none of AND's scratch cells
pub share_apart : (n w : ℕ) (C : Scratch) → Places n w C → (i r : ℕ) → i < n → r < w → Each (λ k. share_cell i r ≡ k → ⊥) (scratch_cells C n)
share_apart n w C L i r l lr = each_of (Aside n w) (λ k. share_cell i r ≡ k → ⊥) (λ k a. a i r l lr) (scratch_cells C n) (scratch_aside n w C L)

-- AND's scratch cells are zero
abbrev pub Zeroed : ℕ → Scratch → Cells → Type 0
Zeroed n C e = Each (λ k. e k ≡ 0) (scratch_cells C n)

-- a zero put somewhere leaves zeros
zero_stays : (c : Cells) (d k : ℕ) → c k ≡ 0 → upd c d 0 k ≡ 0
unfolding upd
zero_stays c d k h = by (eqb k d)
  where
    by : (b : Bool) → cond b 0 (c k) ≡ 0
    by true = refl
    by false = h

zeroing : (ks : List ℕ) (c : Cells) → after (wiping ks) (λ e. ((k : ℕ) → c k ≡ 0 → e k ≡ 0) × Each (λ k. e k ≡ 0) ks) c
zeroing [] c = (λ k h. h, tt)
zeroing (x ∷ ks) c =
    λ t l.
    after_mono (wiping ks) (λ e. ((k : ℕ) → upd c x 0 k ≡ 0 → e k ≡ 0) × Each (λ k. e k ≡ 0) ks) _ (upd c x 0)
    (λ e h. (λ k z. h.0 k (zero_stays c x k z), (h.0 x (upd_same c x 0), h.1))) (zeroing ks (upd c x 0))

-- they are zero
pub wiping_zeroes : (ks : List ℕ) (c : Cells) → after (wiping ks) (λ e. Each (λ k. e k ≡ 0) ks) c
wiping_zeroes ks c = after_mono (wiping ks) _ (λ e. Each (λ k. e k ≡ 0) ks) c (λ e h. h.1) (zeroing ks c)
