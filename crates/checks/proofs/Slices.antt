-- Writing into a lent slice: words written in two goes, and into a part that is lent and comes back. Assumes nothing.
use mathlib.Core.Path.{◌≡◌, refl, sym, ap, ap₂, ◌∙◌}
use mathlib.Core.List.{List, [], ◌∷◌, ◌++◌, append-nil}
use Prim.Native.Nat.{ℕ, zero, suc, ◌+◌, ◌-◌, ◌≤◌}
use native.Mathlib.Nat.{add-zero}
use native.Mathlib.Omega.{arith}
use lib.ListN.{length, take, drop, set, length-drop}
use lib.Seq.{sets, take_all, drop-length}
use borrow.Rule.Slice.PartMut.{put_mid, Post-is}

pub sets_append : (l : List ℕ) (i : ℕ) (xs ys : List ℕ) → sets l i (xs ++ ys) ≡ sets (sets l i xs) (i + length xs) ys
sets_append l i [] ys = ap (λ (k : ℕ). sets l k ys) (sym (add-zero i))
sets_append l i (x ∷ xs) ys =
    let e : suc i + length xs ≡ i + suc (length xs) = omega arith in
    sets_append _ (suc i) xs ys ∙ ap (λ (k : ℕ). sets (sets l i (x ∷ xs)) k ys) e

sets_under : (x : ℕ) (xs : List ℕ) (i : ℕ) (ws : List ℕ) → sets (x ∷ xs) (suc i) ws ≡ x ∷ sets xs i ws
sets_under x xs i [] = refl
sets_under x xs i (w ∷ ws) = sets_under x (set xs i w) (suc i) ws

sets_behind : (at : ℕ) (out ws : List ℕ) → at ≤ length out → take at out ++ sets (drop at out) 0 ws ≡ sets out at ws
sets_behind zero out ws h = refl
sets_behind (suc at) [] ws h = absurd (omega arith)
sets_behind (suc at) (x ∷ out) ws h = ap (λ (r : List ℕ). x ∷ r) (sets_behind at out ws (omega arith)) ∙ sym (sets_under x out at ws)

module _ (at : ℕ) (out : List ℕ) (h : at ≤ length out) where
  -- the part is all from `at` on
  pub part_is : take (length out - at) (drop at out) ≡ drop at out
  part_is = take_all (length out - at) (drop at out) (omega (arith, length-drop at out))

  pub part_back : (ws : List ℕ) {part : List ℕ} → part ≡ sets (take (length out - at) (drop at out)) 0 ws
      → put_mid at (length out - at) out part ≡ sets out at ws
  part_back ws {part} e =
      ap₂ (λ (x y : List ℕ). take at out ++ (x ++ y)) (e ∙ ap (λ (l : List ℕ). sets l 0 ws) part_is)
      (Post-is at (length out) out h ∙ drop-length out)
      ∙ ap (λ (l : List ℕ). take at out ++ l) (append-nil (sets (drop at out) 0 ws))
      ∙ sets_behind at out ws h
