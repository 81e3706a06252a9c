-- The exclusive-or over shares: equal terms, one or two terms changed, operations that go through it, and the sum of all products of
-- two split words, which is the AND of the joined ones. Rests on the ring of words.
use mathlib.Core.Path.{◌≡◌, refl, sym, ap, ap₂, ◌∙◌}
use mathlib.Core.List.{List, [], ◌∷◌, ◌++◌}
use Prim.Native.Nat.{ℕ, zero, suc, ◌+◌, ◌^◌, ◌<◌, ◌≤◌}
use native.Mathlib.Omega.{arith}
use native.Mathlib.Decide.{ℕ_discrete}
use lib.Pow.{pow_pos}
use Rattle.bits.specs.Ops.{xor_w, and_w}
use Rattle.bits.proofs.Xor.{xor·ring, xor_assoc, xor_zero, xor_zero_l, xor_self, and_zero, and_zero_l, and_xor, and_xor_l}
use Rattle.bits.proofs.Bound.{xor_lt}
use Rattle.masking.specs.Translation.{up_from, shares, Pair, pairs_of, pairs}
use Rattle.masking.specs.Unsplit.{xor_over}
use Rattle.masking.proofs.emitted.Pairs.{Apart}
use Rattle.masking.proofs.joined.Cells.{upd, upd_same, upd_other}

sum_from : (f g : ℕ → ℕ) (s c : ℕ) → ((i : ℕ) → s ≤ i → i < s + c → f i ≡ g i) → xor_over f (up_from s c) ≡ xor_over g (up_from s c)
sum_from f g s zero h = refl
sum_from f g s (suc c) h = ap₂ xor_w (h s (omega arith) (omega arith)) (sum_from f g (suc s) c (λ i l m. h i (omega arith) (omega arith)))

-- equal terms
pub sum_same : (n : ℕ) (f g : ℕ → ℕ) → ((i : ℕ) → i < n → f i ≡ g i) → xor_over f (shares n) ≡ xor_over g (shares n)
sum_same n f g h = sum_from f g 0 n (λ i l m. h i (omega arith))

pub sum_lt : (f : ℕ → ℕ) → ((i : ℕ) → f i < 2 ^ 64) → (is : List ℕ) → xor_over f is < 2 ^ 64
sum_lt f h [] = pow_pos 64
sum_lt f h (i ∷ is) = xor_lt 64 (f i) (xor_over f is) (h i) (sum_lt f h is)

-- an operation that goes through XOR
pub sum_through : (op : ℕ → ℕ) → ((a b : ℕ) → op (xor_w a b) ≡ xor_w (op a) (op b)) → (f : ℕ → ℕ) (is : List ℕ) → xor_over (λ i. op (f i)) is ≡ op (xor_over f is)
sum_through op x f [] = sym (ap op (sym (xor_zero 0)) ∙ x 0 0 ∙ xor_self (op 0))
sum_through op x f (i ∷ is) = ap (xor_w (op (f i))) (sum_through op x f is) ∙ sym (x (f i) (xor_over f is))

xor_middle : (p q u v : ℕ) → xor_w (xor_w p q) (xor_w u v) ≡ xor_w (xor_w p u) (xor_w q v)
xor_middle p q u v = simp xor·ring

pub sum_xor : (f g : ℕ → ℕ) (is : List ℕ) → xor_over (λ i. xor_w (f i) (g i)) is ≡ xor_w (xor_over f is) (xor_over g is)
sum_xor f g [] = sym (xor_zero 0)
sum_xor f g (i ∷ is) = ap (xor_w (xor_w (f i) (g i))) (sum_xor f g is) ∙ xor_middle (f i) (g i) (xor_over f is) (xor_over g is)

-- share 0 is of one kind, the others of another
abbrev pub first_word : ℕ → ℕ → ℕ → ℕ
first_word zero a b = a
first_word (suc i) a b = b

pub sum_first : (f g : ℕ → ℕ) (n : ℕ) → 0 < n → xor_over (λ i. first_word i (f i) (g i)) (shares n) ≡ xor_w (xor_w (f 0) (g 0)) (xor_over g (shares n))
sum_first f g zero h = absurd (omega arith)
sum_first f g (suc n) h = ap (xor_w (f 0)) (sum_from (λ i. first_word i (f i) (g i)) g 1 n (λ i l m. later i l)) ∙ cancel (f 0) (g 0) (xor_over g (up_from 1 n))
  where
    later : (i : ℕ) → 1 ≤ i → first_word i (f i) (g i) ≡ g i
    later zero l = absurd (omega arith)
    later (suc i) l = refl

    cancel : (p q u : ℕ) → xor_w p u ≡ xor_w (xor_w p q) (xor_w q u)
    cancel p q u = simp xor·ring

-- ---- changes

-- one term changed
change_from : (f g : ℕ → ℕ) (k s c : ℕ) → s ≤ k → k < s + c → ((i : ℕ) → s ≤ i → i < s + c → (i ≡ k → ⊥) → f i ≡ g i)
    → xor_over g (up_from s c) ≡ xor_w (xor_over f (up_from s c)) (xor_w (f k) (g k))
change_from f g k s zero l m h = absurd (omega arith)
change_from f g k s (suc c) l m h = by (ℕ_discrete s k) (λ l'. change_from f g k (suc s) c l' (omega arith) (λ i a b e. h i (omega arith) (omega arith) e))
  where
    by : Dec (s ≡ k) → (suc s ≤ k → xor_over g (up_from (suc s) c) ≡ xor_w (xor_over f (up_from (suc s) c)) (xor_w (f k) (g k)))
        → xor_w (g s) (xor_over g (up_from (suc s) c)) ≡ xor_w (xor_w (f s) (xor_over f (up_from (suc s) c))) (xor_w (f k) (g k))
    by (yes e) r = rw (e, ← (sum_from f g (suc k) c (λ i a b. h i (omega arith) (omega arith) (λ q. omega arith)))) (simp xor·ring)
    by (no e) r = rw (r (omega arith), ← (h s (omega arith) (omega arith) e)) (simp xor·ring)

-- two terms changed
pub sum_two : (n : ℕ) (f g : ℕ → ℕ) (p q : ℕ) → p < n → q < n → (p ≡ q → ⊥) → ((i : ℕ) → i < n → (i ≡ p → ⊥) → (i ≡ q → ⊥) → f i ≡ g i)
    → xor_over g (shares n) ≡ xor_w (xor_w (xor_over f (shares n)) (xor_w (f p) (g p))) (xor_w (f q) (g q))
sum_two n f g p q lp lq ne same =
    change_from m g q 0 n (omega arith) (omega arith) (λ i a b e. by i (omega arith) e (ℕ_discrete i p))
    ∙ ap₂ xor_w
    (change_from f m p 0 n (omega arith) (omega arith) (λ i a b e. sym (upd_other f p (g p) i e))
    ∙ ap (λ (x : ℕ). xor_w (xor_over f (shares n)) (xor_w (f p) x)) (upd_same f p (g p)))
    (ap (λ (x : ℕ). xor_w x (g q)) (upd_other f p (g p) q (λ e. ne (sym e))))
  where
    -- f with the first change
    m : ℕ → ℕ
    m = upd f p (g p)

    by : (i : ℕ) → i < n → (i ≡ q → ⊥) → Dec (i ≡ p) → m i ≡ g i
    by i l e (yes o) = rw o (upd_same f p (g p))
    by i l e (no o) = upd_other f p (g p) i o ∙ same i l o e

-- ---- products of two split words
module _ (a y : ℕ → ℕ) where
  -- what a pair adds
  abbrev pub cross : Pair → ℕ
  cross p = xor_w (and_w (a p.lo) (y p.hi)) (and_w (a p.hi) (y p.lo))

  abbrev pub crosses : List Pair → ℕ
  crosses [] = 0
  crosses (p ∷ ps) = xor_w (cross p) (crosses ps)

  crosses_append : (ps qs : List Pair) → crosses (ps ++ qs) ≡ xor_w (crosses ps) (crosses qs)
  crosses_append [] qs = sym (xor_zero_l (crosses qs))
  crosses_append (p ∷ ps) qs = ap (xor_w (cross p)) (crosses_append ps qs) ∙ sym (xor_assoc (cross p) (crosses ps) (crosses qs))

  crosses_of : (i : ℕ) (js : List ℕ) → crosses (pairs_of i js) ≡ xor_w (and_w (a i) (xor_over y js)) (and_w (xor_over a js) (y i))
  crosses_of i [] = sym (ap₂ xor_w (and_zero (a i)) (and_zero_l (y i)) ∙ xor_zero 0)
  crosses_of i (j ∷ js) =
      ap (xor_w (cross (record { lo = i; hi = j }))) (crosses_of i js)
      ∙ xor_middle (and_w (a i) (y j)) (and_w (a j) (y i)) (and_w (a i) (xor_over y js)) (and_w (xor_over a js) (y i))
      ∙ sym (ap₂ xor_w (and_xor (a i) (y j) (xor_over y js)) (and_xor_l (a j) (xor_over a js) (y i)))

  -- all products together
  pub all_products : (is : List ℕ) → xor_w (xor_over (λ i. and_w (a i) (y i)) is) (crosses (pairs is)) ≡ and_w (xor_over a is) (xor_over y is)
  all_products [] = xor_zero 0 ∙ sym (and_zero 0)
  all_products (i ∷ is) =
      ap (xor_w (xor_w (and_w (a i) (y i)) d)) (crosses_append (pairs_of i is) (pairs is) ∙ ap (λ (x : ℕ). xor_w x (crosses (pairs is))) (crosses_of i is))
      ∙ regroup (and_w (a i) (y i)) d (and_w (a i) (xor_over y is)) (and_w (xor_over a is) (y i)) (crosses (pairs is))
      ∙ ap₂ xor_w (sym (and_xor (a i) (y i) (xor_over y is))) (ap (xor_w (and_w (xor_over a is) (y i))) (all_products is) ∙ sym (and_xor (xor_over a is) (y i) (xor_over y is)))
      ∙ sym (and_xor_l (a i) (xor_over a is) (xor_w (y i) (xor_over y is)))
    where
      d : ℕ
      d = xor_over (λ j. and_w (a j) (y j)) is

      regroup : (e d u v p : ℕ) → xor_w (xor_w e d) (xor_w (xor_w u v) p) ≡ xor_w (xor_w e u) (xor_w v (xor_w d p))
      regroup e d u v p = simp xor·ring

pub crosses_same : (n : ℕ) (a y a' y' : ℕ → ℕ) → ((i : ℕ) → i < n → a i ≡ a' i) → ((i : ℕ) → i < n → y i ≡ y' i)
    → (ps : List Pair) → Apart n ps → crosses a y ps ≡ crosses a' y' ps
crosses_same n a y a' y' ha hy [] s = refl
crosses_same n a y a' y' ha hy (p ∷ ps) s =
    ap₂ xor_w (ap₂ xor_w (ap₂ and_w (ha _ s.0) (hy _ s.1)) (ap₂ and_w (ha _ s.1) (hy _ s.0))) (crosses_same n a y a' y' ha hy ps s.3)
