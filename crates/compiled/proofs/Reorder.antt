-- Linear words on one share in another order: a word may go before those that neither read nor set what it sets, and of which it reads nothing, and the
-- operands of an XOR may change places. Rests on bits' Xor.
use mathlib.Core.Path.{◌≡◌, refl, sym, ap, ap₂, ◌∙◌, subst}
use mathlib.Core.Bool.{Bool, true, false, cond, not, ◌&&◌, ◌||◌}
use mathlib.Core.List.{List, [], ◌∷◌}
use Prim.Native.Nat.{ℕ, zero, suc, ◌+◌, ◌*◌, ◌/◌, ◌%◌, ◌^◌, ◌<◌}
use native.Mathlib.Omega.{arith}
use lib.Dec.{T, eqb, eqb→eq}
use lib.ListN.{get_or, set}
use lib.Seq.{get_or-set_other, set_comm}
use borrow.Author.Tests.{eqb-true, eqb-false}
use Rattle.bits.proofs.Xor.{xor_comm}
use Rattle.word.specs.Encoding.{kind_of}
use Rattle.word.proofs.Ranges.{both}
use Rattle.masking.proofs.emitted.Tests.{or_elim}
use Rattle.compiled.specs.inner.OnShare.{linear_word, on_share, on_share_all}

-- the register that a word sets
abbrev sets : ℕ → ℕ
sets w = w / 2 ^ 18 % 32

-- word w does not read register r: CONST reads none, XOR alone reads b
abbrev spares : ℕ → ℕ → Bool
spares w r = (eqb (kind_of w) 1 || not (eqb (w / 2 ^ 9 % 32) r)) && (not (eqb (kind_of w) 2) || not (eqb (w % 32) r))

abbrev apart : ℕ → ℕ → Bool
apart w v = (spares w (sets v) && spares v (sets w)) && not (eqb (sets v) (sets w))

-- the same XOR but for the places of its operands
abbrev exchanged : ℕ → ℕ → Bool
exchanged w v =
    (eqb (kind_of w) 2 && eqb (kind_of v) 2) && (eqb (sets w) (sets v) && (eqb (w / 2 ^ 9 % 32) (v % 32) && eqb (w % 32) (v / 2 ^ 9 % 32)))

abbrev same : ℕ → ℕ → Bool
same w v = eqb w v || exchanged w v

-- w stands in ws, and before it only words that it may go before
abbrev comes_first : ℕ → List ℕ → Bool
comes_first w [] = false
comes_first w (v ∷ ws) = cond (same w v) true (apart w v && comes_first w ws)

abbrev without : ℕ → List ℕ → List ℕ
without w [] = []
without w (v ∷ ws) = cond (same w v) ws (v ∷ without w ws)

-- the words ws in the order of vs, which changes nothing
abbrev pub reorders : List ℕ → List ℕ → Bool
reorders [] [] = true
reorders (w ∷ ws) [] = false
reorders ws (v ∷ vs) = comes_first v ws && reorders (without v ws) vs

-- ---- tests
either : {R : Type 0} (b e : Bool) → T (b || not e) → (b ≡ true → R) → (e ≡ false → R) → R
either true e h f g = f refl
either false true h f g = absurd h
either false false h f g = g refl

is_false : (b : Bool) → T (not b) → b ≡ false
is_false true h = absurd h
is_false false h = refl

not_true : (b : Bool) → not b ≡ true → b ≡ false
not_true true h = sym h
not_true false h = refl

-- ---- two words
module _ (i w : ℕ) where
  of_none : (x y x' y' : ℕ) → kind_of w ≡ 1 → linear_word w i x y ≡ linear_word w i x' y'
  unfolding linear_word
  of_none x y x' y' k = rw (k)

  of_one : (x y y' : ℕ) → eqb (kind_of w) 2 ≡ false → linear_word w i x y ≡ linear_word w i x y'
  unfolding linear_word
  of_one x y y' k = rw (k)

  module _ (r g : ℕ) (c : List ℕ) where
    other : (s : ℕ) → eqb s r ≡ false → get_or (set c (32 * i + r) g) (32 * i + s) 0 ≡ get_or c (32 * i + s) 0
    other s h = get_or-set_other c (32 * i + r) (32 * i + s) g 0 (λ e. eqb-false s r h (omega arith))

    unread : T (spares w r)
        → linear_word w i (get_or (set c (32 * i + r) g) (32 * i + w / 2 ^ 9 % 32) 0) (get_or (set c (32 * i + r) g) (32 * i + w % 32) 0)
        ≡ linear_word w i (get_or c (32 * i + w / 2 ^ 9 % 32) 0) (get_or c (32 * i + w % 32) 0)
    unread h =
        let e = both (eqb (kind_of w) 1 || not (eqb (w / 2 ^ 9 % 32) r)) _ h in
        either (eqb (kind_of w) 1) (eqb (w / 2 ^ 9 % 32) r) e.0 (λ k. of_none _ _ _ _ (eqb-true _ 1 k)) (λ a.
        either (not (eqb (kind_of w) 2)) (eqb (w % 32) r) e.1
        (λ k. of_one _ _ _ (not_true _ k) ∙ ap (λ (x : ℕ). linear_word w i x (get_or c (32 * i + w % 32) 0)) (other (w / 2 ^ 9 % 32) a))
        (λ b. ap₂ (linear_word w i) (other (w / 2 ^ 9 % 32) a) (other (w % 32) b)))

swap : (i w v : ℕ) (c : List ℕ) → T (apart w v) → on_share i w (on_share i v c) ≡ on_share i v (on_share i w c)
unfolding on_share
swap i w v c h =
    let e = both (spares w (sets v) && spares v (sets w)) _ h in
    let f = both (spares w (sets v)) _ e.0 in
    let F = linear_word w i (get_or c (32 * i + w / 2 ^ 9 % 32) 0) (get_or c (32 * i + w % 32) 0) in
    let G = linear_word v i (get_or c (32 * i + v / 2 ^ 9 % 32) 0) (get_or c (32 * i + v % 32) 0) in
    ap (set (set c (32 * i + sets v) G) (32 * i + sets w)) (unread i w (sets v) G c f.0)
    ∙ set_comm c (32 * i + sets v) (32 * i + sets w) G F (λ q. eqb-false (sets v) (sets w) (is_false _ e.1) (omega arith))
    ∙ sym (ap (set (set c (32 * i + sets w) F) (32 * i + sets v)) (unread i v (sets w) F c f.1))

exchange : (i w v : ℕ) (c : List ℕ) → T (exchanged w v) → on_share i w c ≡ on_share i v c
unfolding on_share linear_word
exchange i w v c h =
    let e = both (eqb (kind_of w) 2 && eqb (kind_of v) 2) _ h in
    let k = both (eqb (kind_of w) 2) _ e.0 in
    let f = both (eqb (sets w) (sets v)) _ e.1 in
    let g = both (eqb (w / 2 ^ 9 % 32) (v % 32)) _ f.1 in
    rw (eqb→eq (kind_of w) 2 k.0, eqb→eq (kind_of v) 2 k.1, eqb→eq (sets w) (sets v) f.0, eqb→eq (w / 2 ^ 9 % 32) (v % 32) g.0, eqb→eq (w % 32) (v / 2 ^ 9 % 32) g.1)
    (ap (set c (32 * i + sets v)) (xor_comm _ _))

alike : (i w v : ℕ) (c : List ℕ) → T (same w v) → on_share i w c ≡ on_share i v c
alike i w v c h = or_elim (eqb w v) (exchanged w v) (λ e. ap (λ (x : ℕ). on_share i x c) (eqb→eq w v e)) (exchange i w v c) h

-- ---- lists
module _ (i w : ℕ) where
  first_at : (v : ℕ) (ws c : List ℕ) (b : Bool) → same w v ≡ b → T (cond b true (apart w v && comes_first w ws))
      → ((c : List ℕ) → T (comes_first w ws) → on_share_all i ws c ≡ on_share_all i (without w ws) (on_share i w c))
      → on_share_all i ws (on_share i v c) ≡ on_share_all i (cond b ws (v ∷ without w ws)) (on_share i w c)
  first_at v ws c true e h later = ap (on_share_all i ws) (sym (alike i w v c (subst T (sym e) tt)))
  first_at v ws c false e h later =
      let f = both (apart w v) (comes_first w ws) h in
      later (on_share i v c) f.1 ∙ ap (on_share_all i (without w ws)) (swap i w v c f.0)

  first : (ws c : List ℕ) → T (comes_first w ws) → on_share_all i ws c ≡ on_share_all i (without w ws) (on_share i w c)
  first [] c h = absurd h
  first (v ∷ ws) c h = first_at v ws c (same w v) refl h (λ d f. first ws d f)

reordered : (i : ℕ) (vs ws c : List ℕ) → T (reorders ws vs) → on_share_all i ws c ≡ on_share_all i vs c
reordered i [] [] c h = refl
reordered i [] (w ∷ ws) c h = absurd h
reordered i (v ∷ vs) [] c h = absurd h
reordered i (v ∷ vs) (w ∷ ws) c h =
    let e = both (comes_first v (w ∷ ws)) _ h in
    first i v (w ∷ ws) c e.0 ∙ reordered i vs (without v (w ∷ ws)) (on_share i v c) e.1

-- what was done in the order of vs is what the words us, which are the run's, do
pub in_order : (vs us : List ℕ) (i : ℕ) (c : List ℕ) {ws c' : List ℕ} → c' ≡ on_share_all i vs c → ws ≡ us → T (reorders us vs) → c' ≡ on_share_all i ws c
in_order vs us i c {ws} e f h = e ∙ sym (reordered i vs us c h) ∙ ap (λ (x : List ℕ). on_share_all i x c) (sym f)

-- a test of m numbers from 0 on, at one of them
abbrev pub below : ℕ → (ℕ → Bool) → Bool
below zero p = true
below (suc m) p = p 0 && below m (λ q. p (suc q))

pub at : (m : ℕ) (p : ℕ → Bool) (q : ℕ) → T (below m p) → q < m → T (p q)
at zero p q h l = absurd (omega arith)
at (suc m) p zero h l = (both (p 0) _ h).0
at (suc m) p (suc q) h l = at m (λ q. p (suc q)) q (both (p 0) _ h).1 (omega arith)
