-- AND's refresh on shares: y joins to what it did, and no register's share changes. Over any scratch places that lie apart.
use mathlib.Core.Path.{◌≡◌, refl, sym, ap₂, ◌∙◌}
use mathlib.Core.List.{List, [], ◌∷◌}
use Prim.Native.Nat.{ℕ, ◌<◌}
use Rattle.bits.specs.Ops.{xor_w}
use Rattle.bits.proofs.Xor.{xor·ring}
use Rattle.masking.specs.Translation.{shares, Pair, share_cell, Scratch, refresh}
use Rattle.masking.specs.Unsplit.{xor_over}
use Rattle.masking.proofs.emitted.Pairs.{Apart}
use Rattle.masking.proofs.emitted.Places.{Places}
use Rattle.masking.proofs.joined.Cells.{Cells, upd, upd_same, upd_other}
use Rattle.masking.proofs.joined.After.{after, after_mono}
use Rattle.masking.proofs.joined.Sums.{sum_two}

-- a pair's three steps over the tape word r
abbrev blended : Scratch → Pair → ℕ → Cells → Cells
blended C p r c =
    let e = upd c C.t r in
    let f = upd e (C.y p.lo) (xor_w (e (C.y p.lo)) (e C.t)) in
    upd f (C.y p.hi) (xor_w (f (C.y p.hi)) (f C.t))

module _ (n w : ℕ) (C : Scratch) (L : Places n w C) where
  module _ (p : Pair) (r : ℕ) (c : Cells) (l : p.lo < n) (h : p.hi < n) (ne : p.lo ≡ p.hi → ⊥) where
    blended_lo : blended C p r c (C.y p.lo) ≡ xor_w (c (C.y p.lo)) r
    blended_lo =
        let lh : C.y p.lo ≡ C.y p.hi → ⊥ = λ e. ne (L.y_y _ _ l h e) in
        let lt : C.y p.lo ≡ C.t → ⊥ = L.y_t _ l in
        simp (upd_same, upd_other, lh, lt)

    blended_hi : blended C p r c (C.y p.hi) ≡ xor_w (c (C.y p.hi)) r
    blended_hi =
        let hl : C.y p.hi ≡ C.y p.lo → ⊥ = λ e. ne (sym (L.y_y _ _ h l e)) in
        let ht : C.y p.hi ≡ C.t → ⊥ = L.y_t _ h in
        let tl : C.t ≡ C.y p.lo → ⊥ = λ e. L.y_t _ l (sym e) in
        simp (upd_same, upd_other, hl, ht, tl)

    blended_off : (x : ℕ) → (x ≡ C.t → ⊥) → (x ≡ C.y p.lo → ⊥) → (x ≡ C.y p.hi → ⊥) → blended C p r c x ≡ c x
    blended_off x xt xl xh = simp upd_other

    blended_sum : xor_over (λ i. blended C p r c (C.y i)) (shares n) ≡ xor_over (λ i. c (C.y i)) (shares n)
    blended_sum =
        sum_two n (λ i. c (C.y i)) (λ i. blended C p r c (C.y i)) p.lo p.hi l h ne
        (λ i li a b. sym (blended_off (C.y i) (L.y_t i li) (λ e. a (L.y_y _ _ li l e)) (λ e. b (L.y_y _ _ li h e))))
        ∙ ap₂ (λ (v v' : ℕ). xor_w (xor_w (xor_over (λ i. c (C.y i)) (shares n)) (xor_w (c (C.y p.lo)) v)) (xor_w (c (C.y p.hi)) v')) blended_lo blended_hi
        ∙ regroup (xor_over (λ i. c (C.y i)) (shares n)) (c (C.y p.lo)) (c (C.y p.hi)) r
      where
        regroup : (s x v r : ℕ) → xor_w (xor_w s (xor_w x (xor_w x r))) (xor_w v (xor_w v r)) ≡ s
        regroup s x v r = simp xor·ring

  -- y joins to what it did, and the shares stay
  abbrev pub Refreshed : Cells → Cells → Type 0
  Refreshed c e = (xor_over (λ i. e (C.y i)) (shares n) ≡ xor_over (λ i. c (C.y i)) (shares n)) × ((i r : ℕ) → i < n → r < w → e (share_cell i r) ≡ c (share_cell i r))

  pub refresh_joins : (ps : List Pair) → Apart n ps → (c : Cells) → after (refresh C ps) (Refreshed c) c
  refresh_joins [] s c = (refl, λ i r l m. refl)
  refresh_joins (p ∷ ps) s c = λ r lr t₁ l₁ t₂ l₂.
      after_mono (refresh C ps) (Refreshed (blended C p r c)) (Refreshed c) (blended C p r c)
      (λ e q. (
        q.0 ∙ blended_sum p r c s.0 s.1 s.2,
        λ i x l m.
            q.1 i x l m ∙ blended_off p r c s.0 s.1 s.2 (share_cell i x) (L.share_t i x l m) (L.share_y i x _ l m s.0) (L.share_y i x _ l m s.1),
      ))
      (refresh_joins ps s.3 (blended C p r c))
