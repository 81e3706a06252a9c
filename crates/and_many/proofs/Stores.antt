-- Stores to AND's scratch cells, the last one first: what is read after them, and that the wiping forgets them. Rests on and_parts' Zeros.
use mathlib.Core.Path.{◌≡◌, refl, sym, ap, ◌∙◌, subst}
use mathlib.Core.Logic.{◌≢◌}
use mathlib.Core.Bool.{Bool, true, false, cond}
use mathlib.Core.List.{List, [], ◌∷◌}
use Prim.Native.Nat.{ℕ, ◌≤◌, ◌<◌}
use native.Mathlib.Decide.{ℕ_discrete}
use native.Mathlib.Omega.{arith}
use lib.Dec.{T, eqb}
use lib.ListN.{length, get_or, set, length-set}
use lib.Seq.{get_or-set_same, get_or-set_other, set-set, set_comm}
use borrow.Author.Tests.{eq-eqb, ne_eqb}
use Rattle.and_parts.proofs.Zeros.{zeroed}

pub data Stores : Type 0 where
  none : Stores
  put : ℕ → ℕ → Stores → Stores

abbrev pub stored : Stores → List ℕ → List ℕ
stored none c = c
stored (put k v ws) c = set (stored ws c) k v

-- what cell j holds after them, where it held x
abbrev pub look : Stores → ℕ → ℕ → ℕ
look none j x = x
look (put k v ws) j x = cond (eqb k j) v (look ws j x)

-- all are to scratch cells
abbrev pub Scratch : Stores → Type 0
Scratch none = Unit {0}
Scratch (put k v ws) = (256 ≤ k) × (k < 288) × Scratch ws

pub stored_size : (ws : Stores) (c : List ℕ) → length (stored ws c) ≡ length c
stored_size none c = refl
stored_size (put k v ws) c = length-set (stored ws c) k v ∙ stored_size ws c

module _ (c : List ℕ) (size : length c ≡ 512) where
  pub read : (ws : Stores) → Scratch ws → (j : ℕ) → get_or (stored ws c) j 0 ≡ look ws j (get_or c j 0)
  read none s j = refl
  read (put k v ws) s j = by (read ws s.2 j) (ℕ_discrete k j)
    where
      by : get_or (stored ws c) j 0 ≡ look ws j (get_or c j 0) → Dec (k ≡ j) → get_or (set (stored ws c) k v) j 0 ≡ cond (eqb k j) v (look ws j (get_or c j 0))
      by h (yes e) =
          subst (λ (m : ℕ). get_or (set (stored ws c) k v) m 0 ≡ v) e (get_or-set_same (stored ws c) k v 0 (omega (arith, stored_size ws c)))
          ∙ sym (ap (λ (b : Bool). cond b v (look ws j (get_or c j 0))) (eq-eqb k j e))
      by h (no e) =
          get_or-set_other (stored ws c) k j v 0 (λ q. e (sym q)) ∙ h
          ∙ sym (ap (λ (b : Bool). cond b v (look ws j (get_or c j 0))) (ne_eqb k j e))

  -- a cell that is none of them
  pub read_other : (ws : Stores) → Scratch ws → (j : ℕ) → ((k : ℕ) → 256 ≤ k → k < 288 → j ≡ k → ⊥) → get_or (stored ws c) j 0 ≡ get_or c j 0
  read_other none s j away = refl
  read_other (put k v ws) s j away = get_or-set_other (stored ws c) k j v 0 (away k s.0 s.1) ∙ read_other ws s.2 j away

-- ---- zeros put into cells afterwards
abbrev among : ℕ → List ℕ → Bool
among k [] = false
among k (j ∷ js) = cond (eqb k j) true (among k js)

abbrev pub Among : Stores → List ℕ → Type 0
Among none ks = Unit {0}
Among (put k v ws) ks = T (among k ks) × Among ws ks

forgets_one : (ks : List ℕ) (k v : ℕ) (c : List ℕ) → T (among k ks) → zeroed ks (set c k v) ≡ zeroed ks c
forgets_one [] k v c m = absurd m
forgets_one (j ∷ js) k v c m = by (forgets_one js k v (set c j 0)) (ℕ_discrete k j)
  where
    by : (T (among k js) → zeroed js (set (set c j 0) k v) ≡ zeroed js (set c j 0)) → Dec (k ≡ j) → zeroed js (set (set c k v) j 0) ≡ zeroed js (set c j 0)
    by h (yes e) = ap (zeroed js) (subst (λ (i : ℕ). set (set c k v) i 0 ≡ set c i 0) e (set-set c k v 0))
    by h (no e) =
        ap (zeroed js) (set_comm c k j v 0 e)
        ∙ h (subst (λ (b : Bool). T (cond b true (among k js))) (ne_eqb k j e) m)

pub forgets : (ks : List ℕ) (ws : Stores) (c : List ℕ) → Among ws ks → zeroed ks (stored ws c) ≡ zeroed ks c
forgets ks none c m = refl
forgets ks (put k v ws) c m = forgets_one ks k v (stored ws c) m.0 ∙ forgets ks ws c m.1

-- a store to another cell stays
abbrev pub Away : ℕ → List ℕ → Type 0
Away k [] = Unit {0}
Away k (j ∷ js) = (k ≢ j) × Away k js

pub stays : (ks : List ℕ) (k v : ℕ) (c : List ℕ) → Away k ks → zeroed ks (set c k v) ≡ set (zeroed ks c) k v
stays [] k v c a = refl
stays (j ∷ js) k v c a = ap (zeroed js) (set_comm c k j v 0 a.0) ∙ stays js k v (set c j 0) a.1
