-- The refresh of y: with a share k of which nothing is known, every other share comes out equal. At the pair of i and k the tape words
-- differ by what the two y_i differ by, at other pairs not at all. Shares of B are equal from the start, so that their marked words are.
use mathlib.Core.Path.{◌≡◌, refl, sym, ◌∙◌}
use mathlib.Core.Bool.{Bool}
use mathlib.Core.List.{List, [], ◌∷◌}
use mathlib.Core.Logic.{◌⊎◌, inl, inr, ⊎_elim}
use Prim.Native.Nat.{ℕ, ◌^◌, ◌<◌}
use native.Mathlib.Omega.{arith}
use native.Mathlib.Decide.{ℕ_discrete}
use lib.Dec.{T}
use Rattle.bits.specs.Ops.{xor_w}
use Rattle.bits.proofs.Xor.{xor_self, xor_zero, xor·ring}
use Rattle.bits.proofs.Bound.{xor_lt}
use Rattle.masking.specs.Translation.{Pair, Scratch, share_cell, refresh}
use Rattle.masking.proofs.joined.Cells.{Cells, upd, upd_same, upd_other, WordCells}
use Rattle.masking.proofs.secret.Acts.{acts}
use Rattle.masking.proofs.secret.Wp.{Marks, next, wp, Off}
use Rattle.masking.proofs.emitted.Places.{Places}
use Rattle.masking.proofs.emitted.Pairs.{Apart}
use Rattle.masking.proofs.secret.Meeting.{Meets, Due, Distinct}

-- the marked steps of the refresh write shares of B
abbrev pub Refreshed : (ℕ → Bool) → Marks → List Pair → Type 0
Refreshed B m [] = Unit
Refreshed B m (p ∷ ps) =
    (T (m 0) → T (B p.lo)) × (T (m 1) → T (B p.lo)) × (T (m 2) → T (B p.hi)) × Refreshed B (next (next (next m))) ps

meet : (x x' r : ℕ) → xor_w x r ≡ xor_w x' (xor_w r (xor_w x x'))
meet x x' r = simp xor·ring

module _ (n w : ℕ) (sc : Scratch) (L : Places n w sc) where
  open sc use {y, t}

  -- the cells after a pair's three steps over the tape word r
  abbrev after : Pair → ℕ → Cells → Cells
  after p r c =
      let e = upd c t r in
      let f = upd e (y p.lo) (xor_w (e (y p.lo)) (e t)) in
      upd f (y p.hi) (xor_w (f (y p.hi)) (f t))

  module _ (p : Pair) (d : Distinct n p) (r : ℕ) (c : Cells) where
    lh : y p.lo ≡ y p.hi → ⊥
    lh e = d.ne (L.y_y _ _ d.l d.h e)

    hl : y p.hi ≡ y p.lo → ⊥
    hl e = d.ne (sym (L.y_y _ _ d.h d.l e))

    lt : y p.lo ≡ t → ⊥
    lt = L.y_t _ d.l

    ht : y p.hi ≡ t → ⊥
    ht = L.y_t _ d.h

    tl : t ≡ y p.lo → ⊥
    tl e = L.y_t _ d.l (sym e)

    after_lo : after p r c (y p.lo) ≡ xor_w (c (y p.lo)) r
    after_lo = simp (upd_same, upd_other, lh, lt)

    after_hi : after p r c (y p.hi) ≡ xor_w (c (y p.hi)) r
    after_hi = simp (upd_same, upd_other, hl, tl, lt, ht)

    after_other : (i : ℕ) → i < n → (i ≡ p.lo → ⊥) → (i ≡ p.hi → ⊥) → after p r c (y i) ≡ c (y i)
    after_other i li a b =
        let a' : y i ≡ y p.lo → ⊥ = λ e. a (L.y_y _ _ li d.l e) in
        let b' : y i ≡ y p.hi → ⊥ = λ e. b (L.y_y _ _ li d.h e) in
        let o : y i ≡ t → ⊥ = L.y_t i li in
        simp upd_other

  module _ (k : ℕ) (B : ℕ → Bool) where
    -- the difference of the tape words at a pair: that of the share which meets k
    record Choice (p : Pair) (c c' : Cells) : Type 0 where
      δ : ℕ
      agreed : (i : ℕ) → (i ≡ p.lo) ⊎ (i ≡ p.hi) → (i ≡ k → ⊥) → c (y i) ≡ c' (y i) → δ ≡ 0
      small : WordCells c → WordCells c' → δ < 2 ^ 64
      met : (i : ℕ) → (i ≡ k → ⊥) → Meets k i p → δ ≡ xor_w (c (y i)) (c' (y i))

    choose : (p : Pair) (c c' : Cells) → Choice p c c'
    choose p c c' = by (ℕ_discrete p.lo k) (ℕ_discrete p.hi k)
      where
        by : Dec (p.lo ≡ k) → Dec (p.hi ≡ k) → Choice p c c'
        by (yes a) e =
            record {
              δ = xor_w (c (y p.hi)) (c' (y p.hi));
              agreed = λ i v o q. ⊎_elim (λ (s : i ≡ p.lo). absurd (o (cc))) (λ (s : i ≡ p.hi). cc (xor_self (c (y i)))) v;
              small = λ h h'. xor_lt 64 _ _ (h _) (h' _);
              met = λ i o v. ⊎_elim (λ (s : (p.lo ≡ i) × (p.hi ≡ k)). absurd (o (cc))) (λ (s : (p.lo ≡ k) × (p.hi ≡ i)). cc) v;
            }
        by (no a) (yes b) =
            record {
              δ = xor_w (c (y p.lo)) (c' (y p.lo));
              agreed = λ i v o q. ⊎_elim (λ (s : i ≡ p.lo). cc (xor_self (c (y i)))) (λ (s : i ≡ p.hi). absurd (o (cc))) v;
              small = λ h h'. xor_lt 64 _ _ (h _) (h' _);
              met = λ i o v. ⊎_elim (λ (s : (p.lo ≡ i) × (p.hi ≡ k)). cc) (λ (s : (p.lo ≡ k) × (p.hi ≡ i)). absurd (a s.0)) v;
            }
        by (no a) (no b) =
            record {
              δ = 0;
              agreed = λ i v o q. refl;
              small = λ h h'. omega arith;
              met = λ i o v.
                  ⊎_elim (λ (s : (p.lo ≡ i) × (p.hi ≡ k)). absurd (b s.1)) (λ (s : (p.lo ≡ k) × (p.hi ≡ i)). absurd (a s.0)) v;
            }

    module _ (p : Pair) (d : Distinct n p) (c c' : Cells) (r : ℕ) where
      -- a share of the pair that is equal, or meets k, is equal once refreshed
      blend : (i : ℕ) → (i ≡ p.lo) ⊎ (i ≡ p.hi) → (i ≡ k → ⊥) → (c (y i) ≡ c' (y i)) ⊎ Meets k i p
          → xor_w (c (y i)) r ≡ xor_w (c' (y i)) (xor_w r (choose p c c').δ)
      blend i v o (inl e) = rw ((choose p c c').agreed i v o e, xor_zero, e)
      blend i v o (inr q) = rw ((choose p c c').met i o q) (meet (c (y i)) (c' (y i)) r)

      agree_after : (i : ℕ) → i < n → (i ≡ k → ⊥) → (c (y i) ≡ c' (y i)) ⊎ Meets k i p
          → after p r c (y i) ≡ after p (xor_w r (choose p c c').δ) c' (y i)
      agree_after i li o q = by q (ℕ_discrete i p.lo) (ℕ_discrete i p.hi)
        where
          r' : ℕ
          r' = xor_w r (choose p c c').δ

          by : (c (y i) ≡ c' (y i)) ⊎ Meets k i p → Dec (i ≡ p.lo) → Dec (i ≡ p.hi) → after p r c (y i) ≡ after p r' c' (y i)
          by s (yes e) f = rw e (after_lo p d r c ∙ (rw e at (blend i (inl e) o s)) ∙ sym (after_lo p d r' c'))
          by s (no e) (yes f) = rw f (after_hi p d r c ∙ (rw f at (blend i (inr f) o s)) ∙ sym (after_hi p d r' c'))
          by (inl s) (no e) (no f) = after_other p d r c i li e f ∙ s ∙ sym (after_other p d r' c' i li e f)
          by (inr (inl s)) (no e) (no f) = absurd (e (sym s.0))
          by (inr (inr s)) (no e) (no f) = absurd (f (sym s.1))

    pub refresh_wp : (m : Marks) (ps : List Pair) (c c' : Cells) → Apart n ps → Refreshed B m ps → (T (B k) → ⊥)
        → ((i : ℕ) → i < n → T (B i) → c (y i) ≡ c' (y i))
        → ((i : ℕ) → i < n → (i ≡ k → ⊥) → (c (y i) ≡ c' (y i)) ⊎ Due k i ps)
        → wp m (acts (refresh sc ps)) (λ e e'. (i : ℕ) → i < n → (i ≡ k → ⊥) → e (y i) ≡ e' (y i)) c c'
    refresh_wp m [] c c' s mk nk h_b h_y = λ i j o. ⊎_elim (λ (e : c (y i) ≡ c' (y i)). e) absurd (h_y i j o)
    refresh_wp m (p ∷ ps) c c' s mk nk h_b h_y = (
      ch.δ,
      λ x. ch.agreed p.lo (inl refl) (off_k p.lo (mk.0 x)) (h_b p.lo d.l (mk.0 x)),
      ch.small,
      λ r. (
        λ x. simp (upd_same, upd_other, L.y_t _ d.l)
            (blend p d c c' r p.lo (inl refl) (off_k p.lo (mk.1 x)) (inl (h_b p.lo d.l (mk.1 x)))),
        (
          λ x. simp upd_same (simp upd_same at (agree_after p d c c' r p.hi d.h (off_k p.hi (mk.2 x)) (inl (h_b p.hi d.h (mk.2 x))))),
          refresh_wp (next (next (next m))) ps (after p r c) (after p (xor_w r ch.δ) c') s.3 mk.3 nk
              (λ i li b. agree_after p d c c' r i li (off_k i b) (inl (h_b i li b))) (λ i li o. later r i li o (h_y i li o)),
        ),
      ),
    )
      where
        d : Distinct n p
        d = record { l = s.0; h = s.1; ne = s.2 }

        ch : Choice p c c'
        ch = choose p c c'

        off_k : (i : ℕ) → T (B i) → i ≡ k → ⊥
        off_k i h e = nk (rw e at h)

        later : (r i : ℕ) → i < n → (i ≡ k → ⊥) → (c (y i) ≡ c' (y i)) ⊎ Due k i (p ∷ ps)
            → (after p r c (y i) ≡ after p (xor_w r ch.δ) c' (y i)) ⊎ Due k i ps
        later r i li o (inl e) = inl (agree_after p d c c' r i li o (inl e))
        later r i li o (inr (inl q)) = inl (agree_after p d c c' r i li o (inr q))
        later r i li o (inr (inr q)) = inr q

  -- the refresh sets no share of a register
  pub refresh_off : (i r : ℕ) → i < n → r < w → (ps : List Pair) → Apart n ps → Off (share_cell i r) (acts (refresh sc ps))
  refresh_off i r l lr [] s = tt
  refresh_off i r l lr (p ∷ ps) s =
      (L.share_t i r l lr, (L.share_y i r _ l lr s.0, (L.share_y i r _ l lr s.1, refresh_off i r l lr ps s.3)))
