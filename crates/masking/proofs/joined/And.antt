-- AND on shares joins to the AND of the joined words and changes no other register, over any scratch places that lie apart. d, a and b
-- may be one register: d is written after the last read of a and b, from z, and the wiping that follows writes no share. Rests on Refresh, Products,
-- Once's step for each share, and Zeroed.
use mathlib.Core.Path.{◌≡◌, refl, sym, ap, ap₂, ◌∙◌}
use mathlib.Core.List.{List, map}
use Prim.Native.Nat.{ℕ, ◌<◌}
use native.Mathlib.Omega.{arith}
use Rattle.bits.specs.Ops.{xor_w, and_w, shl_w}
use Rattle.bits.proofs.Shift.{shl_zero}
use Rattle.word.specs.declared.step.Step.{Step}
use Rattle.word.specs.declared.step.Step.TheVariants.{And, Shl}
use Rattle.word.proofs.Becomes.{becomes_lt}
use Rattle.masking.specs.Translation.{shares, pairs, share_cell, Scratch, refresh, products, and_steps, scratch_cells, wiping, and_block, cells_of}
use Rattle.masking.specs.Unsplit.{xor_over}
use Rattle.masking.proofs.emitted.Pairs.{apart_pairs}
use Rattle.masking.proofs.emitted.Places.{Places}
use Rattle.masking.proofs.emitted.Ranges.{Names, HoldsOn, refresh_all, products_all, each}
use Rattle.masking.proofs.joined.Cells.{Cells, upd, upd_other, upd_at, WordCells, Fits}
use Rattle.masking.proofs.joined.After.{after, after_mono, after_then, after_words, Off, after_off}
use Rattle.masking.proofs.joined.Sums.{sum_same, crosses, crosses_same, all_products}
use Rattle.masking.proofs.joined.Once.{Written, each_after, join_of, Sets, each_joins}
use Rattle.masking.proofs.joined.Zeroed.{wiping_off, share_apart}
use Rattle.masking.proofs.joined.Refresh.{Refreshed, refresh_joins}
use Rattle.masking.proofs.joined.Products.{Multiplied, products_joins}

-- share steps on any cells write words
pub any : (n w : ℕ) (C : Scratch) → Names n w C (λ x. Unit {0})
any n w C = record { share = λ i r l m. tt; y = λ i l. tt; z = λ i l. tt; t = tt; u = tt }

pub fit_steps : HoldsOn (λ x. Unit {0}) Fits
fit_steps s k c f = becomes_lt s f

-- the shares of all registers stay
abbrev Kept : ℕ → ℕ → Cells → Cells → Type 0
Kept n w c e = (i r : ℕ) → i < n → r < w → e (share_cell i r) ≡ c (share_cell i r)

module _ (n w : ℕ) (C : Scratch) (L : Places n w C) (d a b : ℕ) (ld : d < w) (la : a < w) (lb : b < w) where
  abbrev sum_y : Cells → ℕ
  sum_y c = xor_over (λ i. c (C.y i)) (shares n)

  abbrev sum_z : Cells → ℕ
  sum_z c = xor_over (λ i. c (C.z i)) (shares n)

  abbrev added : Cells → ℕ
  added c = crosses (λ i. c (share_cell i a)) (λ i. c (C.y i)) (pairs (shares n))

  abbrev copy_b : List Step
  copy_b = map (λ i. Shl (C.y i) (share_cell i b) 0) (shares n)

  abbrev own_products : List Step
  own_products = map (λ i. And (C.z i) (share_cell i a) (C.y i)) (shares n)

  abbrev copy_d : List Step
  copy_d = map (λ i. Shl (share_cell i d) (C.z i) 0) (shares n)

  -- y joins to b
  copied : (c : Cells) → WordCells c → after copy_b (λ e. WordCells e × ((sum_y e ≡ join_of n c b) × Kept n w c e)) c
  copied c words =
      after_words copy_b (λ e. (sum_y e ≡ join_of n c b) × Kept n w c e) c
      (each n w C _ (any n w C) Fits fit_steps (λ i. Shl (C.y i) (share_cell i b) 0) (λ i l. becomes_lt (Shl (C.y i) (share_cell i b) 0) tt)) words
      (after_mono copy_b (Written C.y g 0 n c) (λ e. (sum_y e ≡ join_of n c b) × Kept n w c e) c
      (λ e h. (
        sum_same n (λ i. e (C.y i)) (λ i. c (share_cell i b)) (λ i l. h.0 i (omega arith) (omega arith) ∙ shl_zero _ (words _)),
        λ i r l m. h.1 (share_cell i r) (λ j lj mj. L.share_y i r j l m (omega arith)),
      ))
      (each_after n (λ i. Shl (C.y i) (share_cell i b) 0) C.y g (λ i t c. refl) L.y_y
      (λ c i j v l m ne. ap (λ (x : ℕ). shl_w x 0) (upd_other c (C.y j) v (share_cell i b) (L.share_y i b j l lb m))) c))
    where
      g : ℕ → Cells → ℕ
      g i c = shl_w (c (share_cell i b)) 0

  -- refreshed, it still does
  refreshed : (c : Cells) → WordCells c → after (refresh C (pairs (shares n))) (λ e. WordCells e × Refreshed n w C L c e) c
  refreshed c words =
      after_words (refresh C (pairs (shares n))) (Refreshed n w C L c) c
      (refresh_all n w C _ (any n w C) Fits fit_steps (pairs (shares n)) (apart_pairs n)) words (refresh_joins n w C L (pairs (shares n)) (apart_pairs n) c)

  -- z and the products still to come join to the AND
  started : (c : Cells) → WordCells c
      → after own_products (λ e. WordCells e × ((xor_w (sum_z e) (added e) ≡ and_w (join_of n c a) (sum_y c)) × Kept n w c e)) c
  started c words =
      after_words own_products (λ e. (xor_w (sum_z e) (added e) ≡ and_w (join_of n c a) (sum_y c)) × Kept n w c e) c
      (each n w C _ (any n w C) Fits fit_steps (λ i. And (C.z i) (share_cell i a) (C.y i)) (λ i l. becomes_lt (And (C.z i) (share_cell i a) (C.y i)) tt)) words
      (after_mono own_products (Written C.z g 0 n c) (λ e. (xor_w (sum_z e) (added e) ≡ and_w (join_of n c a) (sum_y c)) × Kept n w c e) c
      (λ e h. (
        ap₂ xor_w (sum_same n (λ i. e (C.z i)) (λ i. g i c) (λ i l. h.0 i (omega arith) (omega arith)))
            (crosses_same n (λ i. e (share_cell i a)) (λ i. e (C.y i)) (λ i. c (share_cell i a)) (λ i. c (C.y i))
            (λ i l. h.1 (share_cell i a) (λ j lj mj. L.share_z i a j l la (omega arith)))
            (λ i l. h.1 (C.y i) (λ j lj mj. L.y_z i j l (omega arith))) (pairs (shares n)) (apart_pairs n))
            ∙ all_products (λ i. c (share_cell i a)) (λ i. c (C.y i)) (shares n),
        λ i r l m. h.1 (share_cell i r) (λ j lj mj. L.share_z i r j l m (omega arith)),
      ))
      (each_after n (λ i. And (C.z i) (share_cell i a) (C.y i)) C.z g (λ i t c. refl) L.z_z
      (λ c i j v l m ne.
      ap₂ and_w (upd_other c (C.z j) v (share_cell i a) (L.share_z i a j l la m)) (upd_other c (C.z j) v (C.y i) (L.y_z i j l m))) c))
    where
      g : ℕ → Cells → ℕ
      g i c = and_w (c (share_cell i a)) (c (C.y i))

  multiplied : (c : Cells) → WordCells c → after (products C (cells_of a) (pairs (shares n))) (λ e. WordCells e × Multiplied n w C L a la (pairs (shares n)) c e) c
  multiplied c words =
      after_words (products C (cells_of a) (pairs (shares n))) (Multiplied n w C L a la (pairs (shares n)) c) c
      (products_all n w C _ (any n w C) Fits fit_steps a la (pairs (shares n)) (apart_pairs n)) words (products_joins n w C L a la (pairs (shares n)) (apart_pairs n) c)

  -- d joins to z
  written : (c : Cells) → WordCells c → after copy_d (Sets n w c d (sum_z c)) c
  written c words =
      each_joins n w C L d ld (λ i. Shl (share_cell i d) (C.z i) 0) (λ i c. shl_w (c (C.z i)) 0) (λ i t c. refl)
      (λ c i j v l m ne. ap (λ (x : ℕ). shl_w x 0) (upd_other c (share_cell j d) v (C.z i) (λ q. L.share_z j d i m ld l (sym q)))) c (sum_z c)
      (sum_same n (λ i. shl_w (c (C.z i)) 0) (λ i. c (C.z i)) (λ i l. shl_zero _ (words _)))

  -- d joins to the AND, and the other registers stay
  abbrev Anded : Cells → Cells → Type 0
  Anded c = Sets n w c d (and_w (join_of n c a) (join_of n c b))

  steps_join : (c : Cells) → WordCells c → after (and_steps C n (cells_of d) (cells_of a) (cells_of b)) (Anded c) c
  unfolding and_steps
  steps_join c words =
      after_then copy_b _ _ (Anded c) c (copied c words) (λ e₁ h₁.
      after_then (refresh C (pairs (shares n))) _ _ (Anded c) e₁ (refreshed e₁ h₁.0) (λ e₂ h₂.
      after_then own_products _ _ (Anded c) e₂ (started e₂ h₂.0) (λ e₃ h₃.
      after_then (products C (cells_of a) (pairs (shares n))) copy_d _ (Anded c) e₃ (multiplied e₃ h₃.0) (λ e₄ h₄.
      after_mono copy_d (Sets n w e₄ d (sum_z e₄)) (Anded c) e₄ (λ e h r l.
      h r l ∙ upd_at (join_of n e₄) (join_of n c) d (sum_z e₄) r
      (sum_same n (λ i. e₄ (share_cell i r)) (λ i. c (share_cell i r)) (λ i m. h₄.1.1 i r m l ∙ h₃.1.1 i r m l ∙ h₂.1.1 i r m l ∙ h₁.1.1 i r m l))
      ∙ ap (λ (v : ℕ). upd (join_of n c) d v r)
      (h₄.1.0 ∙ h₃.1.0
      ∙ ap₂ and_w (sum_same n (λ i. e₂ (share_cell i a)) (λ i. c (share_cell i a)) (λ i m. h₂.1.1 i a m la ∙ h₁.1.1 i a m la)) (h₂.1.0 ∙ h₁.1.0)))
      (written e₄ h₄.0)))))

  -- wiping its scratch cells leaves the shares
  pub and_joins : (c : Cells) → WordCells c → after (and_block C n (cells_of d) (cells_of a) (cells_of b)) (Anded c) c
  unfolding and_block
  and_joins c words =
      let W = wiping (scratch_cells C n) in
      after_then (and_steps C n (cells_of d) (cells_of a) (cells_of b)) W _ (Anded c) c (steps_join c words) (λ e h.
      after_mono W (λ f. (k : ℕ) → Off k W → f k ≡ e k) (Anded c) e
      (λ f q r l.
      sum_same n (λ i. f (share_cell i r)) (λ i. e (share_cell i r)) (λ i m. q (share_cell i r) (wiping_off (share_cell i r) (scratch_cells C n) (share_apart n w C L i r m l)))
      ∙ h r l)
      (after_off W e))
