-- Two runs over one tape, from different cells: where each step reads only cells in which the runs agree, they agree in the cells that it writes
-- too (`run_same`), and write the same words (`words_same`). Of steps on cells and of steps on registers alike. Rests on word's Becomes.
use mathlib.Core.Path.{◌≡◌, refl, sym, ap, ◌∙◌}
use mathlib.Core.List.{List, [], ◌∷◌, ◌++◌, map}
use mathlib.Core.Logic.{◌⊎◌, inl, inr, ⊎_elim}
use Prim.Native.Nat.{ℕ, zero, suc, ◌+◌, ◌≤◌, ◌<◌}
use native.Mathlib.Omega.{arith}
use native.Mathlib.Decide.{ℕ_discrete}
use lib.ListN.{length, get_or, take, drop}
use Rattle.word.specs.declared.step.Step.{Step}
use Rattle.word.specs.declared.step.Step.TheVariants.{Rand}
use Rattle.word.specs.Table.{dest, reads, Each, becomes}
use Rattle.word.proofs.Ranges.{each_of}
use Rattle.word.proofs.Becomes.{becomes_reads}
use Rattle.masking.specs.Translation.{up_from, shares}
use Rattle.masking.specs.Machine.{takes}
use Rattle.masking.proofs.joined.Cells.{Cells, upd, upd_same, upd_at, step_on, steps_on}

-- some of the cells, and one more
abbrev pub Some : Type 1
Some = ℕ → Type 0

abbrev pub plus : ℕ → Some → Some
plus d P k = (k ≡ d) ⊎ P k

-- P decides Q over these steps: they read only cells of P and such as were written before, and those of Q are among both
abbrev pub Decides : Some → List Step → Some → Type 0
Decides P [] Q = (k : ℕ) → Q k → P k
Decides P (s ∷ ss) Q = Each P (reads s) × Decides (plus (dest s) P) ss Q

-- ---- two runs

abbrev pub Same : Some → Cells → Cells → Type 0
Same P c c' = (k : ℕ) → P k → c k ≡ c' k

step_same : (P : Some) (s : Step) → Each P (reads s) → (t : ℕ) (c c' : Cells) → Same P c c' → Same (plus (dest s) P) (step_on s t c) (step_on s t c')
step_same P s h t c c' g k q = ⊎_elim here there q
  where
    d : ℕ
    d = dest s

    word : becomes s c t ≡ becomes s c' t
    word = becomes_reads s c c' (each_of P (λ k. c k ≡ c' k) g (reads s) h) t

    here : k ≡ d → step_on s t c k ≡ step_on s t c' k
    here e = rw e (upd_same c d (becomes s c t) ∙ word ∙ sym (upd_same c' d (becomes s c' t)))

    there : P k → step_on s t c k ≡ step_on s t c' k
    there p = upd_at c c' d (becomes s c t) k (g k p) ∙ ap (λ (v : ℕ). upd c' d v k) word

pub run_same : (P Q : Some) (ss : List Step) → Decides P ss Q → (tape : List ℕ) (c c' : Cells) → Same P c c' → Same Q (steps_on ss tape c) (steps_on ss tape c')
run_same P Q [] h tape c c' g = λ k q. g k (h k q)
run_same P Q (s ∷ ss) h tape c c' g =
    let t = get_or tape 0 0 in
    run_same (plus (dest s) P) Q ss h.1 (drop (takes s) tape) (step_on s t c) (step_on s t c') (step_same P s h.0 t c c' g)

-- at every step they write the same word
pub words_same : (P Q : Some) (ss : List Step) → Decides P ss Q → (tape : List ℕ) (c c' : Cells) → Same P c c' → (j : ℕ) → j < length ss
    → steps_on (take (suc j) ss) tape c (dest (get_or ss j (Rand 0))) ≡ steps_on (take (suc j) ss) tape c' (dest (get_or ss j (Rand 0)))
words_same P Q [] h tape c c' g j l = absurd (omega arith)
words_same P Q (s ∷ ss) h tape c c' g zero l = step_same P s h.0 (get_or tape 0 0) c c' g (dest s) (inl refl)
words_same P Q (s ∷ ss) h tape c c' g (suc j) l =
    let t = get_or tape 0 0 in
    words_same (plus (dest s) P) Q ss h.1 (drop (takes s) tape) (step_on s t c) (step_on s t c') (step_same P s h.0 t c c' g) j (omega arith)

-- ---- lists of steps

-- more cells decide as much, and fewer are decided
pub decides_from : (P P' Q : Some) (ss : List Step) → ((k : ℕ) → P k → P' k) → Decides P ss Q → Decides P' ss Q
decides_from P P' Q [] f h = λ k q. f k (h k q)
decides_from P P' Q (s ∷ ss) f h =
    (each_of P P' f (reads s) h.0, decides_from (plus (dest s) P) (plus (dest s) P') Q ss (λ k. ⊎_elim inl (λ (p : P k). inr (f k p))) h.1)

pub decides_to : (P Q Q' : Some) (ss : List Step) → ((k : ℕ) → Q' k → Q k) → Decides P ss Q → Decides P ss Q'
decides_to P Q Q' [] g h = λ k q. h k (g k q)
decides_to P Q Q' (s ∷ ss) g h = (h.0, decides_to (plus (dest s) P) Q Q' ss g h.1)

pub decides_then : (P Q R : Some) (ss ts : List Step) → Decides P ss Q → Decides Q ts R → Decides P (ss ++ ts) R
decides_then P Q R [] ts h g = decides_from Q P R ts h g
decides_then P Q R (s ∷ ss) ts h g = (h.0, decides_then (plus (dest s) P) Q R ss ts h.1 g)

-- ---- a step for each share

-- the cells f 0, .., f (n - 1) and those of P
abbrev pub with : ℕ → (ℕ → ℕ) → Some → Some
with n f P k = ((i : ℕ) × (i < n) × (k ≡ f i)) ⊎ P k

module _ (n : ℕ) (f : ℕ → Step) (dst : ℕ → ℕ) (writes : (i : ℕ) → dest (f i) ≡ dst i) where
  each_from : (s c : ℕ) → s + c ≤ n → (P Q : Some) → ((i : ℕ) → i < n → Each P (reads (f i)))
      → ((k : ℕ) → Q k → ((i : ℕ) × (s ≤ i) × (i < s + c) × (k ≡ dst i)) ⊎ P k) → Decides P (map f (up_from s c)) Q
  each_from s zero l P Q h g =
      λ k q. ⊎_elim (λ (x : (i : ℕ) × (s ≤ i) × (i < s + 0) × (k ≡ dst i)). absurd (none x.0 x.1 x.2)) (λ (p : P k). p) (g k q)
    where
      none : (i : ℕ) → s ≤ i → i < s + 0 → ⊥
      none i a b = omega arith
  each_from s (suc c) l P Q h g = (
    h s (omega arith),
    each_from (suc s) c (omega arith) (plus (dest (f s)) P) Q (λ i m. each_of P (plus (dest (f s)) P) (λ k p. inr p) (reads (f i)) (h i m))
        (λ k q. ⊎_elim (λ (x : (i : ℕ) × (s ≤ i) × (i < s + suc c) × (k ≡ dst i)). by k x.0 x.1 x.2 x.3 (ℕ_discrete x.0 s)) (λ (p : P k). inr (inr p)) (g k q)),
  )
    where
      by : (k i : ℕ) → s ≤ i → i < s + suc c → k ≡ dst i → Dec (i ≡ s)
          → ((i : ℕ) × (suc s ≤ i) × (i < suc s + c) × (k ≡ dst i)) ⊎ ((k ≡ dest (f s)) ⊎ P k)
      by k i a b e (yes o) = inr (inl (e ∙ ap dst o ∙ sym (writes s)))
      by k i a b e (no o) = inl (i, omega arith, omega arith, e)

  pub each_decides : (P : Some) → ((i : ℕ) → i < n → Each P (reads (f i))) → Decides P (map f (shares n)) (with n dst P)
  each_decides P h =
      each_from 0 n (omega arith) P (with n dst P) h
      (λ k. ⊎_elim (λ (x : (i : ℕ) × (i < n) × (k ≡ dst i)). inl (x.0, omega arith, below x.0 x.1, x.2)) inr)
    where
      below : (i : ℕ) → i < n → i < 0 + n
      below i l = omega arith
