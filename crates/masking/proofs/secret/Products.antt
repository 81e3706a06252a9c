-- The products of an AND block: where the refreshed y agree but for share k, and a agrees in A, the z of K come out equal. The tape words
-- of a pair differ by nothing if its smaller share is in K, else by the difference of both products if its larger one is, else by that of
-- the first product; so the words that marked steps write are equal too.
use mathlib.Core.Path.{◌≡◌, refl, sym, ap₂, ◌∙◌}
use mathlib.Core.Bool.{Bool, true, false}
use mathlib.Core.List.{List, [], ◌∷◌}
use Prim.Native.Nat.{ℕ, ◌^◌, ◌<◌}
use native.Mathlib.Omega.{arith}
use native.Mathlib.Decide.{ℕ_discrete}
use lib.Dec.{T}
use Rattle.bits.specs.Ops.{xor_w, and_w}
use Rattle.bits.proofs.Xor.{xor_zero, xor·ring}
use Rattle.bits.proofs.Bound.{xor_lt, and_lt}
use Rattle.masking.specs.Translation.{Pair, Scratch, share_cell, products, cells_of}
use Rattle.masking.proofs.joined.Cells.{Cells, upd, upd_same, upd_other, WordCells}
use Rattle.masking.proofs.secret.Acts.{Act, write, acts}
use Rattle.masking.proofs.secret.Wp.{Marks, next, wp, wp_write, Off}
use Rattle.masking.proofs.emitted.Places.{Places}
use Rattle.masking.proofs.secret.Meeting.{Distinct}

-- what the marks of a pair's seven steps ask for: a marked step writes a word of a share of K, or reads words that are equal
pub record PairAsks (n k : ℕ) (A K : ℕ → Bool) (m : Marks) (p : Pair) : Type 0 where
  pub pair : Distinct n p
  pub m0 : T (m 0) → T (K p.lo)
  pub m1 : T (m 1) → T (K p.lo)
  pub m2 : T (m 2) → T (A p.lo) × (p.hi ≡ k → ⊥)
  pub m3 : T (m 3) → (T (K p.lo) → p.hi ≡ k → ⊥) × ((T (K p.lo) → ⊥) → p.lo ≡ k → ⊥)
  pub m4 : T (m 4) → T (A p.hi) × (p.lo ≡ k → ⊥)
  pub m5 : T (m 5) → T (K p.hi)
  pub m6 : T (m 6) → T (K p.hi)

-- the marks after a pair
abbrev pub next7 : Marks → Marks
next7 m = next (next (next (next (next (next (next m))))))

abbrev pub PairsAsk : ℕ → ℕ → (ℕ → Bool) → (ℕ → Bool) → Marks → List Pair → Type 0
PairsAsk n k A K m [] = Unit
PairsAsk n k A K m (p ∷ ps) = PairAsks n k A K m p × PairsAsk n k A K (next7 m) ps

module _ (n w : ℕ) (sc : Scratch) (L : Places n w sc) (ra : ℕ) (lra : ra < w) where
  open sc use {y, z, t, u}

  abbrev a : ℕ → ℕ
  a i = share_cell i ra

  -- a pair's steps after the draw, from the last one back
  abbrev from6 : Pair → List Act → List Act
  from6 p rest = write (z p.hi) (λ c. xor_w (c (z p.hi)) (c t)) ∷ rest

  abbrev from5 : Pair → List Act → List Act
  from5 p rest = write t (λ c. xor_w (c t) (c u)) ∷ from6 p rest

  abbrev from4 : Pair → List Act → List Act
  from4 p rest = write u (λ c. and_w (c (a p.hi)) (c (y p.lo))) ∷ from5 p rest

  abbrev from3 : Pair → List Act → List Act
  from3 p rest = write t (λ c. xor_w (c t) (c u)) ∷ from4 p rest

  abbrev from2 : Pair → List Act → List Act
  from2 p rest = write u (λ c. and_w (c (a p.lo)) (c (y p.hi))) ∷ from3 p rest

  -- one machine over a pair, with the tape word r: the words written and the cells after each step
  module _ (p : Pair) (d : Distinct n p) (c : Cells) (r : ℕ) where
    abbrev w1 : ℕ
    w1 = xor_w (c (z p.lo)) r

    abbrev w2 : ℕ
    w2 = and_w (c (a p.lo)) (c (y p.hi))

    abbrev w3 : ℕ
    w3 = xor_w r w2

    abbrev w4 : ℕ
    w4 = and_w (c (a p.hi)) (c (y p.lo))

    abbrev w5 : ℕ
    w5 = xor_w w3 w4

    abbrev w6 : ℕ
    w6 = xor_w (c (z p.hi)) w5

    abbrev c1 : Cells
    c1 = upd c t r

    abbrev c2 : Cells
    c2 = upd c1 (z p.lo) w1

    abbrev c3 : Cells
    c3 = upd c2 u w2

    abbrev c4 : Cells
    c4 = upd c3 t w3

    abbrev c5 : Cells
    c5 = upd c4 u w4

    abbrev c6 : Cells
    c6 = upd c5 t w5

    abbrev c7 : Cells
    c7 = upd c6 (z p.hi) w6

    tu : t ≡ u → ⊥
    tu = L.t_u

    zlt : z p.lo ≡ t → ⊥
    zlt = L.z_t _ d.l

    zht : z p.hi ≡ t → ⊥
    zht = L.z_t _ d.h

    zhu : z p.hi ≡ u → ⊥
    zhu = L.z_u _ d.h

    zlu : z p.lo ≡ u → ⊥
    zlu = L.z_u _ d.l

    tzl : t ≡ z p.lo → ⊥
    tzl e = L.z_t _ d.l (sym e)

    lh : z p.lo ≡ z p.hi → ⊥
    lh e = d.ne (L.z_z _ _ d.l d.h e)

    hl : z p.hi ≡ z p.lo → ⊥
    hl e = d.ne (sym (L.z_z _ _ d.h d.l e))

    off2 : (k : ℕ) → (k ≡ t → ⊥) → (k ≡ z p.lo → ⊥) → c2 k ≡ c k
    off2 k kt kz = simp upd_other

    off4 : (k : ℕ) → (k ≡ t → ⊥) → (k ≡ u → ⊥) → (k ≡ z p.lo → ⊥) → c4 k ≡ c k
    off4 k kt ku kz = simp upd_other

    off7 : (k : ℕ) → (k ≡ t → ⊥) → (k ≡ u → ⊥) → (k ≡ z p.lo → ⊥) → (k ≡ z p.hi → ⊥) → c7 k ≡ c k
    off7 k kt ku kl kh = simp upd_other

    e1 : xor_w (c1 (z p.lo)) (c1 t) ≡ w1
    e1 = simp (upd_same, upd_other, zlt)

    e2 : and_w (c2 (a p.lo)) (c2 (y p.hi)) ≡ w2
    e2 =
        rw (off2 (a p.lo) (L.share_t _ ra d.l lra) (L.share_z _ ra _ d.l lra d.l), off2 (y p.hi) (L.y_t _ d.h) (L.y_z _ _ d.h d.l))

    e3 : xor_w (c3 t) (c3 u) ≡ w3
    e3 = simp (upd_same, upd_other, tu, tzl)

    e4 : and_w (c4 (a p.hi)) (c4 (y p.lo)) ≡ w4
    e4 =
        rw (
          off4 (a p.hi) (L.share_t _ ra d.h lra) (L.share_u _ ra d.h lra) (L.share_z _ ra _ d.h lra d.l),
          off4 (y p.lo) (L.y_t _ d.l) (L.y_u _ d.l) (L.y_z _ _ d.l d.l),
        )

    e5 : xor_w (c5 t) (c5 u) ≡ w5
    e5 = simp (upd_same, upd_other, tu)

    e6 : xor_w (c6 (z p.hi)) (c6 t) ≡ w6
    e6 = simp (upd_same, upd_other, zht, zhu, hl)

    at_lo : c7 (z p.lo) ≡ w1
    at_lo = simp (upd_same, upd_other, lh, zlt, zlu)

    at_hi : c7 (z p.hi) ≡ w6
    at_hi = upd_same _ _ _

  module _ (k : ℕ) (A K : ℕ → Bool) (sub : (i : ℕ) → T (K i) → T (A i)) (nk : (i : ℕ) → T (K i) → i ≡ k → ⊥) where
    pub record Equal (c c' : Cells) : Type 0 where
      pub on_a : (i : ℕ) → i < n → T (A i) → c (a i) ≡ c' (a i)
      pub on_y : (i : ℕ) → i < n → (i ≡ k → ⊥) → c (y i) ≡ c' (y i)
      pub on_z : (i : ℕ) → i < n → T (K i) → c (z i) ≡ c' (z i)

    -- both machines over a pair
    module _ (m : Marks) (p : Pair) (s : PairAsks n k A K m p) (c c' : Cells) (g : Equal c c') where
      abbrev d : Distinct n p
      d = s.pair

      abbrev u1 : ℕ
      u1 = and_w (c (a p.lo)) (c (y p.hi))

      abbrev u1' : ℕ
      u1' = and_w (c' (a p.lo)) (c' (y p.hi))

      abbrev u2 : ℕ
      u2 = and_w (c (a p.hi)) (c (y p.lo))

      abbrev u2' : ℕ
      u2' = and_w (c' (a p.hi)) (c' (y p.lo))

      same1 : T (A p.lo) → (p.hi ≡ k → ⊥) → u1 ≡ u1'
      same1 x e = ap₂ and_w (g.on_a _ d.l x) (g.on_y _ d.h e)

      same2 : T (A p.hi) → (p.lo ≡ k → ⊥) → u2 ≡ u2'
      same2 x e = ap₂ and_w (g.on_a _ d.h x) (g.on_y _ d.l e)

      -- the difference of the tape words
      record Choice : Type 0 where
        δ : ℕ
        small : WordCells c → WordCells c' → δ < 2 ^ 64
        on_lo : T (K p.lo) → δ ≡ 0
        on_hi : T (K p.hi) → (r : ℕ) → xor_w (xor_w r u1) u2 ≡ xor_w (xor_w (xor_w r δ) u1') u2'
        mid : T (m 3) → (r : ℕ) → xor_w r u1 ≡ xor_w (xor_w r δ) u1'

      diff_small : (x x' v v' : ℕ) → WordCells c → WordCells c' → xor_w (and_w (c x) (c v)) (and_w (c' x') (c' v')) < 2 ^ 64
      diff_small x x' v v' h h' = xor_lt 64 _ _ (and_lt 64 _ _ (h x)) (and_lt 64 _ _ (h' x'))

      choose : Choice
      choose = by (K p.lo) refl (K p.hi) refl
        where
          by : (b : Bool) → K p.lo ≡ b → (b' : Bool) → K p.hi ≡ b' → Choice
          by true e b' f =
              let kl : T (K p.lo) = rw e tt in
              record {
                δ = 0;
                small = λ h h'. omega arith;
                on_lo = λ x. refl;
                on_hi = λ x r. rw (xor_zero, same1 (sub _ kl) (nk _ x), same2 (sub _ x) (nk _ kl));
                mid = λ x r. rw (xor_zero, same1 (sub _ kl) ((s.m3 x).0 kl));
              }
          by false e true f =
              let kh : T (K p.hi) = rw f tt in
              record {
                δ = xor_w (xor_w u1 u1') (xor_w u2 u2');
                small = λ h h'. xor_lt 64 _ _ (diff_small _ _ _ _ h h') (diff_small _ _ _ _ h h');
                on_lo = λ x. absurd (rw e at x);
                on_hi = λ x r. simp xor·ring;
                mid = λ x r. rw (same2 (sub _ kh) ((s.m3 x).1 (λ q. rw e at q))) (simp xor·ring);
              }
          by false e false f =
              record {
                δ = xor_w u1 u1';
                small = λ h h'. diff_small _ _ _ _ h h';
                on_lo = λ x. absurd (rw e at x);
                on_hi = λ x. absurd (rw f at x);
                mid = λ x r. simp xor·ring;
              }

      z1 : (r : ℕ) → T (K p.lo) → xor_w (c (z p.lo)) r ≡ xor_w (c' (z p.lo)) (xor_w r choose.δ)
      z1 r x = rw (choose.on_lo x, xor_zero, g.on_z _ d.l x)

      z6 : (r : ℕ) → T (K p.hi) → xor_w (c (z p.hi)) (xor_w (xor_w r u1) u2) ≡ xor_w (c' (z p.hi)) (xor_w (xor_w (xor_w r choose.δ) u1') u2')
      z6 r x = ap₂ xor_w (g.on_z _ d.h x) (choose.on_hi x r)

      agree_after : (r : ℕ) → Equal (c7 p d c r) (c7 p d c' (xor_w r choose.δ))
      agree_after r =
          record {
            on_a = λ i li x. keep (a i) (L.share_t i ra li lra) (L.share_u i ra li lra) (L.share_z i ra _ li lra d.l) (L.share_z i ra _ li lra d.h) (g.on_a i li x);
            on_y = λ i li x. keep (y i) (L.y_t i li) (L.y_u i li) (L.y_z i _ li d.l) (L.y_z i _ li d.h) (g.on_y i li x);
            on_z = λ i li x. by i li x (ℕ_discrete i p.lo) (ℕ_discrete i p.hi);
          }
        where
          r' : ℕ
          r' = xor_w r choose.δ

          keep : (v : ℕ) → (v ≡ t → ⊥) → (v ≡ u → ⊥) → (v ≡ z p.lo → ⊥) → (v ≡ z p.hi → ⊥) → c v ≡ c' v → c7 p d c r v ≡ c7 p d c' r' v
          keep v vt vu vl vh e = off7 p d c r v vt vu vl vh ∙ e ∙ sym (off7 p d c' r' v vt vu vl vh)

          by : (i : ℕ) → i < n → T (K i) → Dec (i ≡ p.lo) → Dec (i ≡ p.hi) → c7 p d c r (z i) ≡ c7 p d c' r' (z i)
          by i li x (yes e) f = rw e (at_lo p d c r ∙ z1 r (rw e at x) ∙ sym (at_lo p d c' r'))
          by i li x (no e) (yes f) = rw f (at_hi p d c r ∙ z6 r (rw f at x) ∙ sym (at_hi p d c' r'))
          by i li x (no e) (no f) =
              keep (z i) (L.z_t i li) (L.z_u i li) (λ o. e (L.z_z _ _ li d.l o)) (λ o. f (L.z_z _ _ li d.h o)) (g.on_z i li x)

    pub products_wp : (m : Marks) (ps : List Pair) (c c' : Cells) → PairsAsk n k A K m ps → Equal c c' → wp m (acts (products sc (cells_of ra) ps)) Equal c c'
    products_wp m [] c c' s g = g
    products_wp m (p ∷ ps) c c' s g = (
      ch.δ,
      λ x. ch.on_lo (q.m0 x),
      ch.small,
      λ r.
          let r' = xor_w r ch.δ in
          wp_write (next m) (z p.lo) (λ c. xor_w (c (z p.lo)) (c t)) (from2 p rest) Equal (c1 p d c r) (c1 p d c' r') (e1 p d c r) (e1 p d c' r') (λ x. z1 m p q c c' g r (q.m1 x))
          (wp_write (next (next m)) u (λ c. and_w (c (a p.lo)) (c (y p.hi))) (from3 p rest) Equal (c2 p d c r) (c2 p d c' r') (e2 p d c r) (e2 p d c' r') (λ x. same1 m p q c c' g (q.m2 x).0 (q.m2 x).1)
          (wp_write (next (next (next m))) t (λ c. xor_w (c t) (c u)) (from4 p rest) Equal (c3 p d c r) (c3 p d c' r') (e3 p d c r) (e3 p d c' r') (λ x. ch.mid x r)
          (wp_write (next (next (next (next m)))) u (λ c. and_w (c (a p.hi)) (c (y p.lo))) (from5 p rest) Equal (c4 p d c r) (c4 p d c' r') (e4 p d c r) (e4 p d c' r') (λ x. same2 m p q c c' g (q.m4 x).0 (q.m4 x).1)
          (wp_write (next (next (next (next (next m))))) t (λ c. xor_w (c t) (c u)) (from6 p rest) Equal (c5 p d c r) (c5 p d c' r') (e5 p d c r) (e5 p d c' r') (λ x. ch.on_hi (q.m5 x) r)
          (wp_write (next (next (next (next (next (next m)))))) (z p.hi) (λ c. xor_w (c (z p.hi)) (c t)) rest Equal (c6 p d c r) (c6 p d c' r') (e6 p d c r) (e6 p d c' r') (λ x. z6 m p q c c' g r (q.m6 x))
          (products_wp (next7 m) ps (c7 p d c r) (c7 p d c' r') s.1 (agree_after m p q c c' g r))))))),
    )
      where
        rest : List Act
        rest = acts (products sc (cells_of ra) ps)

        q : PairAsks n k A K m p
        q = s.0

        d : Distinct n p
        d = q.pair

        ch : Choice m p q c c' g
        ch = choose m p q c c' g

    -- the products set no share of a register
    pub products_off : (i r : ℕ) → i < n → r < w → (m : Marks) (ps : List Pair) → PairsAsk n k A K m ps → Off (share_cell i r) (acts (products sc (cells_of ra) ps))
    products_off i r l lr m [] s = tt
    products_off i r l lr m (p ∷ ps) s =
        let x : share_cell i r ≡ t → ⊥ = L.share_t i r l lr in
        let v : share_cell i r ≡ u → ⊥ = L.share_u i r l lr in
        (x, (L.share_z i r _ l lr s.0.pair.l, (v, (x, (v, (x, (L.share_z i r _ l lr s.0.pair.h, products_off i r l lr _ ps s.1)))))))
