-- The shares rising from 0 and the pairs i < j: every share is listed, and every two different shares meet in a pair.
use mathlib.Core.Path.{◌≡◌, sym}
use mathlib.Core.List.{List, [], ◌∷◌, ◌++◌}
use mathlib.Core.Logic.{◌⊎◌, inl, inr, ⊎_elim}
use Prim.Native.Nat.{ℕ, zero, suc, ◌+◌, ◌<◌, ◌≤◌}
use native.Mathlib.Omega.{arith}
use native.Mathlib.Decide.{ℕ_discrete}
use Rattle.masking.specs.Translation.{Pair, up_from, shares, pairs_of, pairs}

abbrev pub In : ℕ → List ℕ → Type 0
In i [] = ⊥
In i (j ∷ is) = (i ≡ j) ⊎ In i is

-- the pair is of i and k
abbrev pub Meets : ℕ → ℕ → Pair → Type 0
Meets k i p = ((p.lo ≡ i) × (p.hi ≡ k)) ⊎ ((p.lo ≡ k) × (p.hi ≡ i))

-- one of the pairs is of i and k
abbrev pub Due : ℕ → ℕ → List Pair → Type 0
Due k i [] = ⊥
Due k i (p ∷ ps) = Meets k i p ⊎ Due k i ps

-- the parts of `Apart` at one pair
pub record Distinct (n : ℕ) (p : Pair) : Type 0 where
  pub l : p.lo < n
  pub h : p.hi < n
  pub ne : p.lo ≡ p.hi → ⊥

pub in_up : (s c j : ℕ) → s ≤ j → j < s + c → In j (up_from s c)
in_up s zero j h l = absurd (omega arith)
in_up s (suc c) j h l = by (ℕ_discrete j s) (in_up (suc s) c j)
  where
    by : Dec (j ≡ s) → (suc s ≤ j → j < suc s + c → In j (up_from (suc s) c)) → In j (s ∷ up_from (suc s) c)
    by (yes e) r = inl e
    by (no e) r = inr (r (omega arith) (omega arith))

pub up_lt : (s c j : ℕ) → In j (up_from s c) → j < s + c
up_lt s zero j h = absurd h
up_lt s (suc c) j (inl e) = omega arith
up_lt s (suc c) j (inr h) = omega (arith, up_lt (suc s) c j h)

pub in_shares : (n i : ℕ) → i < n → In i (shares n)
in_shares n i l = in_up 0 n i (omega arith) (omega arith)

pub share_lt : (n i : ℕ) → In i (shares n) → i < n
share_lt n i h = omega (arith, up_lt 0 n i h)

due_left : (k i : ℕ) (ps qs : List Pair) → Due k i ps → Due k i (ps ++ qs)
due_left k i [] qs h = absurd h
due_left k i (p ∷ ps) qs (inl h) = inl h
due_left k i (p ∷ ps) qs (inr h) = inr (due_left k i ps qs h)

due_right : (k i : ℕ) (ps qs : List Pair) → Due k i qs → Due k i (ps ++ qs)
due_right k i [] qs h = h
due_right k i (p ∷ ps) qs h = inr (due_right k i ps qs h)

due_of : (k i j : ℕ) (js : List ℕ) → ((j ≡ i) × In k js) ⊎ ((j ≡ k) × In i js) → Due k i (pairs_of j js)
due_of k i j [] (inl h) = absurd h.1
due_of k i j [] (inr h) = absurd h.1
due_of k i j (x ∷ js) (inl h) =
    ⊎_elim (λ (e : k ≡ x). inl (inl (h.0, sym e))) (λ (q : In k js). inr (due_of k i j js (inl (h.0, q)))) h.1
due_of k i j (x ∷ js) (inr h) =
    ⊎_elim (λ (e : i ≡ x). inl (inr (h.0, sym e))) (λ (q : In i js). inr (due_of k i j js (inr (h.0, q)))) h.1

due_pairs : (k i : ℕ) → (i ≡ k → ⊥) → (is : List ℕ) → In i is → In k is → Due k i (pairs is)
due_pairs k i n [] h g = absurd h
due_pairs k i n (j ∷ js) (inl e) (inl f) = absurd (n (cc))
due_pairs k i n (j ∷ js) (inl e) (inr g) = due_left k i (pairs_of j js) (pairs js) (due_of k i j js (inl (sym e, g)))
due_pairs k i n (j ∷ js) (inr h) (inl f) = due_left k i (pairs_of j js) (pairs js) (due_of k i j js (inr (sym f, h)))
due_pairs k i n (j ∷ js) (inr h) (inr g) = due_right k i (pairs_of j js) (pairs js) (due_pairs k i n js h g)

-- every share other than k meets k
pub shares_meet : (n k : ℕ) → k < n → (i : ℕ) → i < n → (i ≡ k → ⊥) → Due k i (pairs (shares n))
shares_meet n k lk i li e = due_pairs k i e (shares n) (in_shares n i li) (in_shares n k lk)
