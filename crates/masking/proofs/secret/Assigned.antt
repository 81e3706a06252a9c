-- The shares that marked steps ask for, part by part of a block, and that each marked step puts at most one into each set: B for the
-- refresh; K, A and N for the products, N being the shares of y that have to come out equal.
use mathlib.Core.Path.{◌≡◌, refl}
use mathlib.Core.Bool.{Bool, true, false, cond}
use mathlib.Core.List.{List, [], ◌∷◌, map}
use mathlib.Core.Logic.{inl, inr}
use Prim.Native.Nat.{ℕ, ◌+◌, ◌<◌, ◌≤◌}
use native.Mathlib.Omega.{arith}
use lib.Dec.{T}
use lib.ListN.{length}
use Rattle.word.specs.declared.step.Step.{Step}
use Rattle.masking.specs.Translation.{Pair, Scratch, refresh, products, cells_of}
use Rattle.masking.proofs.emitted.Pairs.{Apart}
use Rattle.masking.proofs.secret.Acts.{acts}
use Rattle.masking.proofs.secret.Wp.{Marks, next}
use Rattle.masking.proofs.secret.Meeting.{In}
use Rattle.masking.proofs.secret.Sets.{has, mark, has_mark, has_rest, length_mark, count}
use Rattle.masking.proofs.secret.EachShare.{Asked}
use Rattle.masking.proofs.secret.Refresh.{Refreshed}
use Rattle.masking.proofs.secret.Products.{PairsAsk, next7}

-- ---- a step for each share
abbrev pub marked : Marks → List ℕ → List ℕ
marked m [] = []
marked m (i ∷ is) = mark (m 0) i (marked (next m) is)

pub asked_in : (n : ℕ) (S : ℕ → Bool) (m : Marks) (is : List ℕ) → ((i : ℕ) → In i is → i < n) → ((i : ℕ) → T (has (marked m is) i) → T (S i)) → Asked n S m is
asked_in n S m [] l h = tt
asked_in n S m (i ∷ is) l h = (
  l i (inl refl),
  λ x. h i (has_mark (m 0) i (marked (next m) is) x),
  asked_in n S (next m) is (λ j q. l j (inr q)) (λ j q. h j (has_rest (m 0) i (marked (next m) is) j q)),
)

pub marked_count : (step : ℕ → Step) (m : Marks) (is : List ℕ) → length (marked m is) ≡ count m (acts (map step is))
marked_count step m [] = refl
marked_count step m (i ∷ is) = omega (arith, length_mark (m 0) i (marked (next m) is), marked_count step (next m) is)

-- ---- the refresh
abbrev pub marks_b : Marks → List Pair → List ℕ
marks_b m [] = []
marks_b m (p ∷ ps) = mark (m 0) p.lo (mark (m 1) p.lo (mark (m 2) p.hi (marks_b (next (next (next m))) ps)))

pub refreshed_in : (B : ℕ → Bool) (m : Marks) (ps : List Pair) → ((i : ℕ) → T (has (marks_b m ps) i) → T (B i)) → Refreshed B m ps
refreshed_in B m [] h = tt
refreshed_in B m (p ∷ ps) h = (
  λ x. h _ (has_mark (m 0) p.lo l1 x),
  λ x. h _ (has_rest (m 0) p.lo l1 _ (has_mark (m 1) p.lo l2 x)),
  λ x. h _ (has_rest (m 0) p.lo l1 _ (has_rest (m 1) p.lo l2 _ (has_mark (m 2) p.hi l3 x))),
  refreshed_in B (next (next (next m))) ps (λ i x. h i (has_rest (m 0) p.lo l1 _ (has_rest (m 1) p.lo l2 _ (has_rest (m 2) p.hi l3 _ x)))),
)
  where
    l3 : List ℕ
    l3 = marks_b (next (next (next m))) ps

    l2 : List ℕ
    l2 = mark (m 2) p.hi l3

    l1 : List ℕ
    l1 = mark (m 1) p.lo l2

pub refresh_count : (sc : Scratch) (m : Marks) (ps : List Pair) → length (marks_b m ps) ≡ count m (acts (refresh sc ps))
refresh_count sc m [] = refl
refresh_count sc m (p ∷ ps) = simp length_mark (omega (arith, refresh_count sc (next (next (next m))) ps))

-- ---- the products
abbrev pub marks_k : Marks → List Pair → List ℕ
marks_k m [] = []
marks_k m (p ∷ ps) = mark (m 0) p.lo (mark (m 1) p.lo (mark (m 5) p.hi (mark (m 6) p.hi (marks_k (next7 m) ps))))

abbrev pub marks_a : Marks → List Pair → List ℕ
marks_a m [] = []
marks_a m (p ∷ ps) = mark (m 2) p.lo (mark (m 4) p.hi (marks_a (next7 m) ps))

abbrev pub marks_n : (ℕ → Bool) → Marks → List Pair → List ℕ
marks_n K m [] = []
marks_n K m (p ∷ ps) =
    mark (m 2) p.hi (mark (m 3) (cond (K p.lo) p.hi p.lo) (mark (m 4) p.lo (marks_n K (next7 m) ps)))

pub products_count : (sc : Scratch) (a : ℕ) (K : ℕ → Bool) (m : Marks) (ps : List Pair)
    → (length (marks_k m ps) + length (marks_a m ps) ≤ count m (acts (products sc (cells_of a) ps))) × (length (marks_k m ps) + length (marks_n K m ps) ≤ count m (acts (products sc (cells_of a) ps)))
products_count sc a K m [] = (omega arith, omega arith)
products_count sc a K m (p ∷ ps) =
    let q = products_count sc a K (next7 m) ps in
    (simp length_mark (omega (arith, q.0)), simp length_mark (omega (arith, q.1)))

which : (k lo hi : ℕ) (b : Bool) → (cond b hi lo ≡ k → ⊥) → (T b → hi ≡ k → ⊥) × ((T b → ⊥) → lo ≡ k → ⊥)
which k lo hi true h = (λ x. h, λ x. absurd (x tt))
which k lo hi false h = (λ x. absurd x, λ x. h)

pub pairs_ask_in : (n k : ℕ) (A K : ℕ → Bool) (m : Marks) (ps : List Pair) → Apart n ps → ((i : ℕ) → T (has (marks_k m ps) i) → T (K i))
    → ((i : ℕ) → T (has (marks_a m ps) i) → T (A i)) → ((i : ℕ) → T (has (marks_n K m ps) i) → i ≡ k → ⊥) → PairsAsk n k A K m ps
pairs_ask_in n k A K m [] s h_k h_a h_n = tt
pairs_ask_in n k A K m (p ∷ ps) s h_k h_a h_n = (
  record {
    pair = record { l = s.0; h = s.1; ne = s.2 };
    m0 = λ x. h_k _ (has_mark (m 0) p.lo k1 x);
    m1 = λ x. h_k _ (has_rest (m 0) p.lo k1 _ (has_mark (m 1) p.lo k2 x));
    m2 = λ x. (h_a _ (has_mark (m 2) p.lo a1 x), h_n _ (has_mark (m 2) p.hi n1 x));
    m3 = λ x. which k p.lo p.hi (K p.lo) (h_n _ (has_rest (m 2) p.hi n1 _ (has_mark (m 3) o n2 x)));
    m4 = λ x. (
      h_a _ (has_rest (m 2) p.lo a1 _ (has_mark (m 4) p.hi a2 x)),
      h_n _ (has_rest (m 2) p.hi n1 _ (has_rest (m 3) o n2 _ (has_mark (m 4) p.lo n3 x))),
    );
    m5 = λ x. h_k _ (has_rest (m 0) p.lo k1 _ (has_rest (m 1) p.lo k2 _ (has_mark (m 5) p.hi k3 x)));
    m6 = λ x. h_k _ (has_rest (m 0) p.lo k1 _ (has_rest (m 1) p.lo k2 _ (has_rest (m 5) p.hi k3 _ (has_mark (m 6) p.hi k4 x))));
  },
  pairs_ask_in n k A K (next7 m) ps s.3
      (λ i x. h_k i (has_rest (m 0) p.lo k1 _ (has_rest (m 1) p.lo k2 _ (has_rest (m 5) p.hi k3 _ (has_rest (m 6) p.hi k4 _ x)))))
      (λ i x. h_a i (has_rest (m 2) p.lo a1 _ (has_rest (m 4) p.hi a2 _ x)))
      (λ i x. h_n i (has_rest (m 2) p.hi n1 _ (has_rest (m 3) o n2 _ (has_rest (m 4) p.lo n3 _ x)))),
)
  where
    o : ℕ
    o = cond (K p.lo) p.hi p.lo

    k4 : List ℕ
    k4 = marks_k (next7 m) ps

    k3 : List ℕ
    k3 = mark (m 6) p.hi k4

    k2 : List ℕ
    k2 = mark (m 5) p.hi k3

    k1 : List ℕ
    k1 = mark (m 1) p.lo k2

    a2 : List ℕ
    a2 = marks_a (next7 m) ps

    a1 : List ℕ
    a1 = mark (m 4) p.hi a2

    n3 : List ℕ
    n3 = marks_n K (next7 m) ps

    n2 : List ℕ
    n2 = mark (m 4) p.lo n3

    n1 : List ℕ
    n1 = mark (m 3) o n2
