-- A step for each share: share i's step writes the cell `dst i`. Where an invariant I makes the words of the shares of S equal, marked
-- steps are of shares of S, and I survives writes that are equal on S, the steps keep I and leave the cells of S equal.
use mathlib.Core.Path.{◌≡◌, sym, ◌∙◌}
use mathlib.Core.Bool.{Bool}
use mathlib.Core.List.{List, [], ◌∷◌, map}
use mathlib.Core.Logic.{◌⊎◌, inl, inr, ⊎_elim}
use Prim.Native.Nat.{ℕ, ◌<◌}
use native.Mathlib.Decide.{ℕ_discrete}
use lib.Dec.{T}
use Rattle.word.specs.declared.step.Step.{Step}
use Rattle.masking.proofs.joined.Cells.{Cells, upd, upd_same}
use Rattle.masking.proofs.secret.Acts.{write, act, acts}
use Rattle.masking.proofs.secret.Wp.{Marks, Rel, next, wp, wp_step, other_equal}
use Rattle.masking.proofs.secret.Meeting.{In}

-- marked steps are of shares of S, and all shares are below n
abbrev pub Asked : ℕ → (ℕ → Bool) → Marks → List ℕ → Type 0
Asked n S m [] = Unit
Asked n S m (i ∷ is) = (i < n) × (T (m 0) → T (S i)) × Asked n S (next m) is

module _ (n : ℕ) (step : ℕ → Step) (dst : ℕ → ℕ) (f : ℕ → Cells → ℕ) (writes : (i : ℕ) → act (step i) ≡ write (dst i) (f i))
    (inj : (i j : ℕ) → i < n → j < n → dst i ≡ dst j → i ≡ j) (S : ℕ → Bool) (I : Rel)
    (keep : (c c' : Cells) (i v v' : ℕ) → i < n → (T (S i) → v ≡ v') → I c c' → I (upd c (dst i) v) (upd c' (dst i) v'))
    (same : (c c' : Cells) (i : ℕ) → i < n → T (S i) → I c c' → f i c ≡ f i c') where
  each_wp : (m : Marks) (is : List ℕ) (c c' : Cells) → Asked n S m is → I c c'
      → ((i : ℕ) → i < n → T (S i) → (c (dst i) ≡ c' (dst i)) ⊎ In i is)
      → wp m (acts (map step is)) (λ e e'. I e e' × ((i : ℕ) → i < n → T (S i) → e (dst i) ≡ e' (dst i))) c c'
  each_wp m [] c c' s g h = (g, λ i l x. ⊎_elim (λ (e : c (dst i) ≡ c' (dst i)). e) absurd (h i l x))
  each_wp m (j ∷ is) c c' s g h =
      wp_step m (step j) (dst j) (f j) (acts (map step is)) _ c c' (writes j) (λ x. fj (s.1 x))
      (each_wp (next m) is (upd c (dst j) (f j c)) (upd c' (dst j) (f j c')) s.2 (keep c c' j (f j c) (f j c') s.0 fj g)
      (λ i l x. later i l x (h i l x) (ℕ_discrete i j)))
    where
      fj : T (S j) → f j c ≡ f j c'
      fj x = same c c' j s.0 x g

      later : (i : ℕ) → i < n → T (S i) → (c (dst i) ≡ c' (dst i)) ⊎ In i (j ∷ is) → Dec (i ≡ j)
          → (upd c (dst j) (f j c) (dst i) ≡ upd c' (dst j) (f j c') (dst i)) ⊎ In i is
      later i l x w (yes e) = inl (rw e (upd_same c (dst j) (f j c) ∙ fj (rw e at x) ∙ sym (upd_same c' (dst j) (f j c'))))
      later i l x (inl q) (no e) = inl (other_equal c c' (dst j) (f j c) (f j c') (dst i) (λ p. e (inj i j l s.0 p)) q)
      later i l x (inr (inl q)) (no e) = absurd (e q)
      later i l x (inr (inr q)) (no e) = inr q

  -- once for every share below n
  pub every_wp : (m : Marks) (is : List ℕ) → ((i : ℕ) → i < n → In i is) → (c c' : Cells) → Asked n S m is → I c c'
      → wp m (acts (map step is)) (λ e e'. I e e' × ((i : ℕ) → i < n → T (S i) → e (dst i) ≡ e' (dst i))) c c'
  every_wp m is all c c' s g = each_wp m is c c' s g (λ i l x. inr (all i l))
