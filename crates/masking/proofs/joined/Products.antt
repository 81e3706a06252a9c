-- AND's products on shares: z's join gains the cross products of all pairs, and no share of a register changes. Over any scratch places
-- that lie apart.
use mathlib.Core.Path.{◌≡◌, refl, sym, ap₂, ◌∙◌}
use mathlib.Core.List.{List, [], ◌∷◌}
use Prim.Native.Nat.{ℕ, ◌<◌}
use Rattle.bits.specs.Ops.{xor_w, and_w}
use Rattle.bits.proofs.Xor.{xor·ring, xor_zero, xor_assoc}
use Rattle.word.specs.declared.step.Step.{Step}
use Rattle.word.specs.declared.step.Step.TheVariants.{Xor, And}
use Rattle.masking.specs.Translation.{shares, Pair, share_cell, Scratch, products, cells_of}
use Rattle.masking.specs.Unsplit.{xor_over}
use Rattle.masking.proofs.emitted.Pairs.{Apart}
use Rattle.masking.proofs.emitted.Places.{Places}
use Rattle.masking.proofs.joined.Cells.{Cells, upd, upd_same, upd_other}
use Rattle.masking.proofs.joined.After.{after, after_mono, after_known}
use Rattle.masking.proofs.joined.Sums.{sum_two, cross, crosses, crosses_same}

-- a pair's steps from the second on, before `rest`
module _ (C : Scratch) (a : ℕ) (p : Pair) (rest : List Step) where
  abbrev from7 : List Step
  from7 = Xor (C.z p.hi) (C.z p.hi) C.t ∷ rest

  abbrev from6 : List Step
  from6 = Xor C.t C.t C.u ∷ from7

  abbrev from5 : List Step
  from5 = And C.u (share_cell p.hi a) (C.y p.lo) ∷ from6

  abbrev from4 : List Step
  from4 = Xor C.t C.t C.u ∷ from5

  abbrev from3 : List Step
  from3 = And C.u (share_cell p.lo a) (C.y p.hi) ∷ from4

-- the words that they write, r the tape word, and the cells after each
module _ (C : Scratch) (a : ℕ) (p : Pair) (r : ℕ) (c : Cells) where
  abbrev w2 : ℕ
  w2 = xor_w (c (C.z p.lo)) r

  abbrev w3 : ℕ
  w3 = and_w (c (share_cell p.lo a)) (c (C.y p.hi))

  abbrev w5 : ℕ
  w5 = and_w (c (share_cell p.hi a)) (c (C.y p.lo))

  abbrev w6 : ℕ
  w6 = xor_w (xor_w r w3) w5

  abbrev w7 : ℕ
  w7 = xor_w (c (C.z p.hi)) w6

  abbrev c1 : Cells
  c1 = upd c C.t r

  abbrev c2 : Cells
  c2 = upd c1 (C.z p.lo) w2

  abbrev c3 : Cells
  c3 = upd c2 C.u w3

  abbrev c4 : Cells
  c4 = upd c3 C.t (xor_w r w3)

  abbrev c5 : Cells
  c5 = upd c4 C.u w5

  abbrev c6 : Cells
  c6 = upd c5 C.t w6

  abbrev c7 : Cells
  c7 = upd c6 (C.z p.hi) w7

module _ (n w : ℕ) (C : Scratch) (L : Places n w C) (a : ℕ) (la : a < w) where
  module _ (p : Pair) (r : ℕ) (c : Cells) (l : p.lo < n) (h : p.hi < n) (ne : p.lo ≡ p.hi → ⊥) where
    -- a cell apart from t, u and the pair's two z
    c7_off : (x : ℕ) → (x ≡ C.t → ⊥) → (x ≡ C.u → ⊥) → (x ≡ C.z p.lo → ⊥) → (x ≡ C.z p.hi → ⊥) → c7 C a p r c x ≡ c x
    c7_off x xt xu xl xh = simp upd_other

    share_off : (i s : ℕ) → i < n → s < w → c7 C a p r c (share_cell i s) ≡ c (share_cell i s)
    share_off i s li ls = c7_off (share_cell i s) (L.share_t i s li ls) (L.share_u i s li ls) (L.share_z i s _ li ls l) (L.share_z i s _ li ls h)

    y_off : (i : ℕ) → i < n → c7 C a p r c (C.y i) ≡ c (C.y i)
    y_off i li = c7_off (C.y i) (L.y_t i li) (L.y_u i li) (L.y_z i _ li l) (L.y_z i _ li h)

    tu : C.t ≡ C.u → ⊥
    tu = L.t_u

    tl : C.t ≡ C.z p.lo → ⊥
    tl e = L.z_t _ l (sym e)

    e2 : xor_w (c1 C a p r c (C.z p.lo)) (c1 C a p r c C.t) ≡ w2 C a p r c
    e2 = let lt : C.z p.lo ≡ C.t → ⊥ = L.z_t _ l in simp (upd_same, upd_other, lt)

    e3 : and_w (c2 C a p r c (share_cell p.lo a)) (c2 C a p r c (C.y p.hi)) ≡ w3 C a p r c
    e3 =
        let at : share_cell p.lo a ≡ C.t → ⊥ = L.share_t _ a l la in
        let az : share_cell p.lo a ≡ C.z p.lo → ⊥ = L.share_z _ a _ l la l in
        let yt : C.y p.hi ≡ C.t → ⊥ = L.y_t _ h in
        let yz : C.y p.hi ≡ C.z p.lo → ⊥ = L.y_z _ _ h l in
        simp (upd_other, at, az, yt, yz)

    e4 : xor_w (c3 C a p r c C.t) (c3 C a p r c C.u) ≡ xor_w r (w3 C a p r c)
    e4 = simp (upd_same, upd_other, tu, tl)

    e5 : and_w (c4 C a p r c (share_cell p.hi a)) (c4 C a p r c (C.y p.lo)) ≡ w5 C a p r c
    e5 =
        let at : share_cell p.hi a ≡ C.t → ⊥ = L.share_t _ a h la in
        let au : share_cell p.hi a ≡ C.u → ⊥ = L.share_u _ a h la in
        let az : share_cell p.hi a ≡ C.z p.lo → ⊥ = L.share_z _ a _ h la l in
        let yt : C.y p.lo ≡ C.t → ⊥ = L.y_t _ l in
        let yu : C.y p.lo ≡ C.u → ⊥ = L.y_u _ l in
        let yz : C.y p.lo ≡ C.z p.lo → ⊥ = L.y_z _ _ l l in
        simp (upd_other, at, au, az, yt, yu, yz)

    e6 : xor_w (c5 C a p r c C.t) (c5 C a p r c C.u) ≡ w6 C a p r c
    e6 = simp (upd_same, upd_other, tu)

    e7 : xor_w (c6 C a p r c (C.z p.hi)) (c6 C a p r c C.t) ≡ w7 C a p r c
    e7 =
        let ht : C.z p.hi ≡ C.t → ⊥ = L.z_t _ h in
        let hu : C.z p.hi ≡ C.u → ⊥ = L.z_u _ h in
        let hl : C.z p.hi ≡ C.z p.lo → ⊥ = λ e. ne (sym (L.z_z _ _ h l e)) in
        simp (upd_same, upd_other, ht, hu, hl)

    c7_lo : c7 C a p r c (C.z p.lo) ≡ w2 C a p r c
    c7_lo =
        let lt : C.z p.lo ≡ C.t → ⊥ = L.z_t _ l in
        let lu : C.z p.lo ≡ C.u → ⊥ = L.z_u _ l in
        let lh : C.z p.lo ≡ C.z p.hi → ⊥ = λ e. ne (L.z_z _ _ l h e) in
        simp (upd_same, upd_other, lt, lu, lh)

    -- z's join gains the pair's products
    c7_sum : xor_over (λ i. c7 C a p r c (C.z i)) (shares n) ≡ xor_w (xor_over (λ i. c (C.z i)) (shares n)) (cross (λ i. c (share_cell i a)) (λ i. c (C.y i)) p)
    c7_sum =
        sum_two n (λ i. c (C.z i)) (λ i. c7 C a p r c (C.z i)) p.lo p.hi l h ne
        (λ i li x v. sym (c7_off (C.z i) (L.z_t i li) (L.z_u i li) (λ o. x (L.z_z _ _ li l o)) (λ o. v (L.z_z _ _ li h o))))
        ∙ ap₂ (λ (v v' : ℕ). xor_w (xor_w (xor_over (λ i. c (C.z i)) (shares n)) (xor_w (c (C.z p.lo)) v)) (xor_w (c (C.z p.hi)) v')) c7_lo (upd_same (c6 C a p r c) (C.z p.hi) (w7 C a p r c))
        ∙ regroup (xor_over (λ i. c (C.z i)) (shares n)) (c (C.z p.lo)) (c (C.z p.hi)) r (w3 C a p r c) (w5 C a p r c)
      where
        regroup : (s x v r b d : ℕ) → xor_w (xor_w s (xor_w x (xor_w x r))) (xor_w v (xor_w v (xor_w (xor_w r b) d))) ≡ xor_w s (xor_w b d)
        regroup s x v r b d = simp xor·ring

    -- the pair's steps reach these cells
    pair_after : (rest : List Step) (Ψ : Cells → Type 0) → after rest Ψ (c7 C a p r c)
        → after (Xor (C.z p.lo) (C.z p.lo) C.t ∷ from3 C a p rest) Ψ (c1 C a p r c)
    pair_after rest Ψ g = λ t₂ l₂.
        after_known (Xor (C.z p.lo) (C.z p.lo) C.t) (from3 C a p rest) Ψ (c1 C a p r c) t₂ (w2 C a p r c) e2 (λ t₃ l₃.
        after_known (And C.u (share_cell p.lo a) (C.y p.hi)) (from4 C a p rest) Ψ (c2 C a p r c) t₃ (w3 C a p r c) e3 (λ t₄ l₄.
        after_known (Xor C.t C.t C.u) (from5 C a p rest) Ψ (c3 C a p r c) t₄ (xor_w r (w3 C a p r c)) e4 (λ t₅ l₅.
        after_known (And C.u (share_cell p.hi a) (C.y p.lo)) (from6 C a p rest) Ψ (c4 C a p r c) t₅ (w5 C a p r c) e5 (λ t₆ l₆.
        after_known (Xor C.t C.t C.u) (from7 C a p rest) Ψ (c5 C a p r c) t₆ (w6 C a p r c) e6 (λ t₇ l₇.
        after_known (Xor (C.z p.hi) (C.z p.hi) C.t) rest Ψ (c6 C a p r c) t₇ (w7 C a p r c) e7 g)))))

  -- z's join gains all cross products, and the shares stay
  abbrev pub Multiplied : List Pair → Cells → Cells → Type 0
  Multiplied ps c e =
      (xor_over (λ i. e (C.z i)) (shares n) ≡ xor_w (xor_over (λ i. c (C.z i)) (shares n)) (crosses (λ i. c (share_cell i a)) (λ i. c (C.y i)) ps))
      × ((i r : ℕ) → i < n → r < w → e (share_cell i r) ≡ c (share_cell i r))

  pub products_joins : (ps : List Pair) → Apart n ps → (c : Cells) → after (products C (cells_of a) ps) (Multiplied ps c) c
  products_joins [] s c = (sym (xor_zero _), λ i r l m. refl)
  products_joins (p ∷ ps) s c = λ r lr.
      pair_after p r c s.0 s.1 s.2 (products C (cells_of a) ps) (Multiplied (p ∷ ps) c)
      (after_mono (products C (cells_of a) ps) (Multiplied ps (c7 C a p r c)) (Multiplied (p ∷ ps) c) (c7 C a p r c)
      (λ e q. (q.0 ∙ gains r, λ i x l m. q.1 i x l m ∙ share_off p r c s.0 s.1 s.2 i x l m))
      (products_joins ps s.3 (c7 C a p r c)))
    where
      gains : (r : ℕ) → xor_w (xor_over (λ i. c7 C a p r c (C.z i)) (shares n)) (crosses (λ i. c7 C a p r c (share_cell i a)) (λ i. c7 C a p r c (C.y i)) ps)
          ≡ xor_w (xor_over (λ i. c (C.z i)) (shares n)) (crosses (λ i. c (share_cell i a)) (λ i. c (C.y i)) (p ∷ ps))
      gains r =
          ap₂ xor_w (c7_sum p r c s.0 s.1 s.2)
          (crosses_same n (λ i. c7 C a p r c (share_cell i a)) (λ i. c7 C a p r c (C.y i)) (λ i. c (share_cell i a)) (λ i. c (C.y i))
          (λ i li. share_off p r c s.0 s.1 s.2 i a li la) (λ i li. y_off p r c s.0 s.1 s.2 i li) ps s.3)
          ∙ xor_assoc (xor_over (λ i. c (C.z i)) (shares n)) (cross (λ i. c (share_cell i a)) (λ i. c (C.y i)) p) (crosses (λ i. c (share_cell i a)) (λ i. c (C.y i)) ps)
