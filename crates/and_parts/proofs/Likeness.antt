-- Cells that are alike but for AND's scratch cells t and u: what can be read off both, and stored to both. Assumes nothing.
use mathlib.Core.Path.{◌≡◌, refl, sym, ap, ap₂, ◌∙◌}
use mathlib.Core.Logic.{◌≢◌}
use mathlib.Core.List.{List}
use Prim.Native.Nat.{ℕ}
use native.Mathlib.Omega.{arith}
use lib.ListN.{length, get_or, set, length-set}
use lib.Seq.{get_or-set_other, set-set, set_comm}
use Rattle.and_parts.specs.inner.Effects.{Alike}

-- a cell that is neither t nor u
abbrev pub Other : ℕ → Type 0
Other k = (k ≢ 272) × (k ≢ 273)

-- the cells with zeros in t and u
abbrev clean : List ℕ → List ℕ
clean c = set (set c 272 0) 273 0

clean_set : (c : List ℕ) (k v : ℕ) → Other k → clean (set c k v) ≡ set (clean c) k v
clean_set c k v o = ap (λ (l : List ℕ). set l 273 0) (set_comm c k 272 v 0 o.0) ∙ set_comm (set c 272 0) k 273 v 0 o.1

clean_t : (c : List ℕ) (v : ℕ) → clean (set c 272 v) ≡ clean c
clean_t c v = ap (λ (l : List ℕ). set l 273 0) (set-set c 272 v 0)

clean_u : (c : List ℕ) (v : ℕ) → clean (set c 273 v) ≡ clean c
clean_u c v = ap (λ (l : List ℕ). set l 273 0) (set_comm c 273 272 v 0 (λ e. omega arith)) ∙ set-set (set c 272 0) 273 v 0

clean_get : (c : List ℕ) (k : ℕ) → Other k → get_or (clean c) k 0 ≡ get_or c k 0
clean_get c k o = get_or-set_other (set c 272 0) 273 k 0 0 o.1 ∙ get_or-set_other c 272 k 0 0 o.0

clean_size : (c : List ℕ) → length (clean c) ≡ length c
clean_size c = length-set (set c 272 0) 273 0 ∙ length-set c 272 0

-- ---- alike
pub itself : (c : List ℕ) → Alike c c
itself c = record { same = refl }

pub alike_as : {c c' c'' : List ℕ} → Alike c c' → c' ≡ c'' → Alike c c''
alike_as {c} a e = rw e at a

module _ {c c' : List ℕ} (a : Alike c c') where
  pub turned : Alike c' c
  turned = record { same = sym a.same }

  pub then : {c'' : List ℕ} → Alike c' c'' → Alike c c''
  then b = record { same = a.same ∙ b.same }

  pub same_get : (k : ℕ) → Other k → get_or c k 0 ≡ get_or c' k 0
  same_get k o = sym (clean_get c k o) ∙ ap (λ (l : List ℕ). get_or l k 0) a.same ∙ clean_get c' k o

  pub same_size : length c ≡ length c'
  same_size = sym (clean_size c) ∙ ap length a.same ∙ clean_size c'

  pub same_set : (k : ℕ) {v v' : ℕ} → Other k → v ≡ v' → Alike (set c k v) (set c' k v')
  same_set k {v} {v'} o w = record { same = clean_set c k v o ∙ ap₂ (λ (l : List ℕ) (x : ℕ). set l k x) a.same w ∙ sym (clean_set c' k v' o) }

  -- a store to t or u alone
  pub same_t : (v : ℕ) → Alike c (set c' 272 v)
  same_t v = record { same = a.same ∙ sym (clean_t c' v) }

  pub same_u : (v : ℕ) → Alike c (set c' 273 v)
  same_u v = record { same = a.same ∙ sym (clean_u c' v) }
