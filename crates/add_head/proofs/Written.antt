-- The head and the stored words, one by one, at the front of a slice. Rests on lib.Seq's `paste`.
use mathlib.Core.Path.{◌≡◌, sym, ap, ap₂, ◌∙◌}
use mathlib.Core.List.{List, [], ◌∷◌, ◌++◌}
use Prim.Native.Nat.{ℕ, suc, ◌+◌, ◌<◌}
use native.Mathlib.Numerals.{add-one}
use native.Mathlib.Omega.{arith}
use lib.ListN.{length, get_or, drop, set}
use lib.Seq.{paste, paste-zero, paste-suc, take_all}

-- i of the stored words stand behind the first word of a slice that was D
module _ (stored D : List ℕ) where
  abbrev pub Put : ℕ → List ℕ → Type 0
  Put i o = o ≡ paste D 1 stored i

  pub none_put : Put 0 D
  none_put = paste-zero D 1 stored

  pub one_put : length stored < length D → (i : ℕ) (o : List ℕ) → Put i o → i < length stored → Put (i + 1) (set o (1 + i) (get_or stored i 0))
  one_put room i o p l =
      ap (λ (q : List ℕ). set q (1 + i) (get_or stored i 0)) p ∙ paste-suc D 1 stored i 0 (omega arith) l ∙ ap (paste D 1 stored) (sym (add-one i))

-- all of them, behind the head
pub all_put : (h : ℕ) (stored d : List ℕ) → length stored < length d → (i : ℕ) (o : List ℕ) → Put stored (set d 0 h) i o → i ≡ length stored
    → o ≡ (h ∷ stored) ++ drop (1 + length stored) d
all_put h stored d room i o p e = p ∙ ap (paste (set d 0 h) 1 stored) e ∙ by d room
  where
    by : (d : List ℕ) → length stored < length d → paste (set d 0 h) 1 stored (length stored) ≡ (h ∷ stored) ++ drop (1 + length stored) d
    by [] l = absurd (omega (arith, l))
    by (x ∷ d) l =
        let n = length stored in
        let e : 1 + n ≡ suc n = omega arith in
        ap₂ (λ (s r : List ℕ). (h ∷ s) ++ r) (take_all n stored (omega arith)) (ap (λ (k : ℕ). drop k (h ∷ d)) e ∙ ap (λ (k : ℕ). drop k (x ∷ d)) (sym e))
