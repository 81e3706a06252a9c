-- Sets of share numbers as lists: membership, the number that a mark puts in, the count of marked acts, and a share outside a set
-- smaller than n.
use mathlib.Core.Path.{◌≡◌, refl, sym, ap, ap₂, ◌∙◌}
use mathlib.Core.Bool.{Bool, true, false, not, ◌||◌}
use mathlib.Core.List.{List, [], ◌∷◌, ◌++◌}
use mathlib.Core.Logic.{◌⊎◌, inl, inr, ⊎_elim}
use Prim.Native.Nat.{ℕ, zero, suc, ◌+◌, ◌<◌, ◌≤◌}
use native.Mathlib.Omega.{arith}
use lib.Dec.{T, ltb, ltb→lt, eqb, eqb→eq, eqb_refl, eqb-suc-zero, eqb-zero-suc, eqb-suc-suc}
use borrow.Author.Tests.{eq-eqb, ne_eqb, lt-ltb}
use lib.ListN.{length}
use Rattle.word.specs.declared.step.Step.{Step}
use Rattle.masking.proofs.emitted.Tests.{or_left, or_right, or_elim}
use Rattle.masking.proofs.secret.Acts.{Act, acts, acts_append}
use Rattle.masking.proofs.secret.Wp.{Marks, next, past}

abbrev pub has : List ℕ → ℕ → Bool
has [] i = false
has (j ∷ l) i = eqb i j || has l i

pub has_head : (l : List ℕ) (i : ℕ) → T (has (i ∷ l) i)
has_head l i = or_left (eqb i i) (has l i) (eqb_refl i)

pub has_tail : (l : List ℕ) (i j : ℕ) → T (has l i) → T (has (j ∷ l) i)
has_tail l i j h = or_right (eqb i j) (has l i) h

pub has_cases : (l : List ℕ) (i j : ℕ) → T (has (j ∷ l) i) → (i ≡ j) ⊎ T (has l i)
has_cases l i j h = or_elim (eqb i j) (has l i) (λ x. inl (eqb→eq i j x)) inr h

pub has_left : (l r : List ℕ) (i : ℕ) → T (has l i) → T (has (l ++ r) i)
has_left [] r i h = absurd h
has_left (j ∷ l) r i h =
    or_elim (eqb i j) (has l i) (λ x. or_left (eqb i j) (has (l ++ r) i) x) (λ x. or_right (eqb i j) (has (l ++ r) i) (has_left l r i x)) h

pub has_right : (l r : List ℕ) (i : ℕ) → T (has r i) → T (has (l ++ r) i)
has_right [] r i h = h
has_right (j ∷ l) r i h = or_right (eqb i j) (has (l ++ r) i) (has_right l r i h)

-- a set of one number holds no other
pub has_only : (l : List ℕ) (i : ℕ) → length l ≤ 1 → T (has l i) → (k : ℕ) → T (has l k) → k ≡ i
has_only [] i le h k q = absurd h
has_only (j ∷ []) i le h k q = is k q ∙ sym (is i h)
  where
    is : (x : ℕ) → T (has (j ∷ []) x) → x ≡ j
    is x h = ⊎_elim (λ (e : x ≡ j). e) absurd (has_cases [] x j h)
has_only (j ∷ j' ∷ l) i le h k q = absurd (omega arith)

-- ---- marks
abbrev pub bit : Bool → ℕ
bit true = 1
bit false = 0

bit_le : (b : Bool) → bit b ≤ 1
bit_le true = omega arith
bit_le false = omega arith

-- the number i if marked
abbrev pub mark : Bool → ℕ → List ℕ → List ℕ
mark true i l = i ∷ l
mark false i l = l

pub has_mark : (b : Bool) (i : ℕ) (l : List ℕ) → T b → T (has (mark b i l) i)
has_mark true i l h = has_head l i
has_mark false i l h = absurd h

pub has_rest : (b : Bool) (i : ℕ) (l : List ℕ) (j : ℕ) → T (has l j) → T (has (mark b i l) j)
has_rest true i l j h = has_tail l j i h
has_rest false i l j h = h

pub length_mark : (b : Bool) (i : ℕ) (l : List ℕ) → length (mark b i l) ≡ bit b + length l
length_mark true i l = omega arith
length_mark false i l = omega arith

-- marked acts
abbrev pub count : Marks → List Act → ℕ
count m [] = 0
count m (a ∷ P) = bit (m 0) + count (next m) P

count_append : (m : Marks) (P Q : List Act) → count m (P ++ Q) ≡ count m P + count (past P m) Q
count_append m [] Q = omega arith
count_append m (a ∷ P) Q = omega (arith, count_append (next m) P Q)

pub count_then : (m : Marks) (P Q : List Step) → count m (acts (P ++ Q)) ≡ count m (acts P) + count (past (acts P) m) (acts Q)
count_then m P Q = ap (count m) (acts_append P Q) ∙ count_append m (acts P) (acts Q)

count_or : (m m' : Marks) (P : List Act) → count (λ k. m k || m' k) P ≤ count m P + count m' P
count_or m m' [] = omega arith
count_or m m' (a ∷ P) = omega (arith, count_or (next m) (next m') P, bits (m 0) (m' 0))
  where
    bits : (a b : Bool) → bit (a || b) ≤ bit a + bit b
    bits true b = omega arith
    bits false b = omega arith

count_none : (P : List Act) → count (λ k. false) P ≡ 0
count_none [] = refl
count_none (a ∷ P) = omega (arith, count_none P)

count_ext : (m m' : Marks) → ((k : ℕ) → m k ≡ m' k) → (P : List Act) → count m P ≡ count m' P
count_ext m m' h [] = refl
count_ext m m' h (a ∷ P) = ap₂ (λ (b : Bool) (k : ℕ). bit b + k) (h 0) (count_ext (next m) (next m') (λ k. h (suc k)) P)

count_one : (j : ℕ) (P : List Act) → count (λ k. eqb k j) P ≤ 1
count_one j [] = omega arith
count_one zero (a ∷ P) = omega (arith, count_ext (λ k. eqb (suc k) 0) (λ k. false) (λ k. eqb-suc-zero k) P, count_none P, bit_le (eqb 0 0))
count_one (suc j) (a ∷ P) =
    let z : bit (eqb 0 (suc j)) ≡ 0 = ap bit (eqb-zero-suc j) in
    omega (arith, count_ext (λ k. eqb (suc k) (suc j)) (λ k. eqb k j) (λ k. eqb-suc-suc k j) P, count_one j P)

-- at most one act for each chosen number
pub count_has : (js : List ℕ) (P : List Act) → count (has js) P ≤ length js
count_has [] P = omega (arith, count_none P)
count_has (j ∷ js) P = omega (arith, count_or (λ k. eqb k j) (has js) P, count_one j P, count_has js P)

-- ---- a number below n outside a set smaller than n
without : ℕ → List ℕ → List ℕ
without x [] = []
without x (j ∷ l) = mark (not (eqb j x)) j (without x l)

length_without : (x : ℕ) (l : List ℕ) → length (without x l) ≤ length l
unfolding without
length_without x [] = omega arith
length_without x (j ∷ l) = omega (arith, length_mark (not (eqb j x)) j (without x l), bit_le (not (eqb j x)), length_without x l)

shorter : (x : ℕ) (l : List ℕ) → T (has l x) → length (without x l) < length l
unfolding without
shorter x [] h = absurd h
shorter x (j ∷ l) h =
    ⊎_elim (λ (e : x ≡ j). rw (eq-eqb j x (sym e)) (omega (arith, length_without x l)))
    (λ (q : T (has l x)). omega (arith, length_mark (not (eqb j x)) j (without x l), bit_le (not (eqb j x)), shorter x l q)) (has_cases l x j h)

still : (x k : ℕ) → (k ≡ x → ⊥) → (l : List ℕ) → T (has l k) → T (has (without x l) k)
unfolding without
still x k n [] h = absurd h
still x k n (j ∷ l) h =
    ⊎_elim (λ (e : k ≡ j). rw (ne_eqb j x (λ o. n (e ∙ o)), e) (has_head (without x l) j))
    (λ (q : T (has l k)). has_rest (not (eqb j x)) j (without x l) k (still x k n l q)) (has_cases l k j h)

pub outside : (n : ℕ) (l : List ℕ) → length l < n → (k : ℕ) × (k < n) × (T (has l k) → ⊥)
outside zero l h = absurd (omega arith)
outside (suc n) l h = by (has l n) refl (outside n (without n l))
  where
    by : (b : Bool) → has l n ≡ b → (length (without n l) < n → (k : ℕ) × (k < n) × (T (has (without n l) k) → ⊥))
        → (k : ℕ) × (k < suc n) × (T (has l k) → ⊥)
    by false e r = (n, omega arith, λ x. rw e at x)
    by true e r =
        let q = r (omega (arith, shorter n l (rw e tt))) in
        let lk : q.0 < n = q.1 in
        (q.0, omega arith, λ x. q.2 (still n q.0 (λ o. omega arith) l x))

-- ---- those of a set that are below n
pub below : ℕ → List ℕ → List ℕ
below n [] = []
below n (x ∷ S) = mark (ltb x n) x (below n S)

pub below_lt : (n : ℕ) (S : List ℕ) (i : ℕ) → T (has (below n S) i) → i < n
unfolding below
below_lt n [] i h = absurd h
below_lt n (x ∷ S) i h = by (ltb x n) refl h (below_lt n S i)
  where
    by : (b : Bool) → ltb x n ≡ b → T (has (mark b x (below n S)) i) → (T (has (below n S) i) → i < n) → i < n
    by true e h r = ⊎_elim (λ (q : i ≡ x). rw q (ltb→lt x n (rw e tt))) r (has_cases (below n S) i x h)
    by false e h r = r h

pub below_has : (n : ℕ) (S : List ℕ) (i : ℕ) → i < n → T (has S i) → T (has (below n S) i)
unfolding below
below_has n [] i l h = h
below_has n (x ∷ S) i l h =
    ⊎_elim (λ (q : i ≡ x). rw (q, lt-ltb x n (rw q at l)) (has_head (below n S) x))
    (λ (q : T (has S i)). has_rest (ltb x n) x (below n S) i (below_has n S i l q)) (has_cases S i x h)

pub below_size : (n : ℕ) (S : List ℕ) → length (below n S) ≤ length S
unfolding below
below_size n [] = omega arith
below_size n (x ∷ S) = omega (arith, length_mark (ltb x n) x (below n S), bit_le (ltb x n), below_size n S)
