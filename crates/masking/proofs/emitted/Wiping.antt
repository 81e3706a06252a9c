-- AND's scratch cells: what holds of y and z of each share, of t and of u holds of each cell of the list, and back; they are no shares; and
-- the steps that wipe them, share by share. Rests on Rising and Places.
use mathlib.Core.Path.{◌≡◌, refl, ap, ◌∙◌}
use mathlib.Core.List.{List, [], ◌∷◌, ◌++◌, map}
use Prim.Native.Nat.{ℕ, zero, suc, ◌+◌, ◌*◌, ◌<◌}
use native.Mathlib.Nat.{add-zero, zero-add}
use native.Mathlib.Omega.{arith}
use lib.ListN.{length, length-append, length-map}
use Rattle.word.specs.declared.step.Step.{Step}
use Rattle.word.specs.declared.step.Step.TheVariants.{Const}
use Rattle.word.specs.Table.{Each}
use Rattle.masking.specs.Translation.{up_from, shares, share_cell, Scratch, scratch_cells, wiping}
use Rattle.masking.proofs.emitted.Rising.{length_from}
use Rattle.masking.proofs.emitted.Places.{Places}

module _ (P : ℕ → Type 0) where
  each_append : (ks ls : List ℕ) → Each P ks → Each P ls → Each P (ks ++ ls)
  each_append [] ls a b = b
  each_append (k ∷ ks) ls a b = (a.0, each_append ks ls a.1 b)

  each_apart : (ks ls : List ℕ) → Each P (ks ++ ls) → Each P ks × Each P ls
  each_apart [] ls a = (tt, a)
  each_apart (k ∷ ks) ls a = let e = each_apart ks ls a.1 in ((a.0, e.0), e.1)

  each_from : (f : ℕ → ℕ) (s c : ℕ) → ((i : ℕ) → i < s + c → P (f i)) → Each P (map f (up_from s c))
  each_from f s zero h = tt
  each_from f s (suc c) h = (h s (omega arith), each_from f (suc s) c (λ i l. h i (omega arith)))

  from_each : (f : ℕ → ℕ) (s c : ℕ) → Each P (map f (up_from s c)) → (i : ℕ) → i < c → P (f (s + i))
  from_each f s zero h i l = absurd (omega arith)
  from_each f s (suc c) h zero l = rw (add-zero s) h.0
  from_each f s (suc c) h (suc i) l =
      let e : s + suc i ≡ suc s + i = omega arith in
      rw e (from_each f (suc s) c h.1 i (omega arith))

  module _ (c : Scratch) (n : ℕ) where
    pub each_scratch : ((i : ℕ) → i < n → P (c.y i)) → ((i : ℕ) → i < n → P (c.z i)) → P c.t → P c.u → Each P (scratch_cells c n)
    each_scratch y z t u =
        each_append (map c.y (shares n)) _ (each_from c.y 0 n (λ i l. y i (omega arith)))
        (each_append (map c.z (shares n)) _ (each_from c.z 0 n (λ i l. z i (omega arith))) (t, (u, tt)))

    -- the parts, back
    pub record Parts : Type 0 where
      pub y : (i : ℕ) → i < n → P (c.y i)
      pub z : (i : ℕ) → i < n → P (c.z i)
      pub t : P c.t
      pub u : P c.u

    pub scratch_parts : Each P (scratch_cells c n) → Parts
    scratch_parts h =
        let e = each_apart (map c.y (shares n)) _ h in
        let f = each_apart (map c.z (shares n)) _ e.1 in
        record {
          y = λ i l. rw (zero-add i) at (from_each c.y 0 n e.0 i l);
          z = λ i l. rw (zero-add i) at (from_each c.z 0 n f.0 i l);
          t = f.1.0;
          u = f.1.1.0;
        }

-- a cell that is no share of n shares of w registers
abbrev pub Aside : ℕ → ℕ → ℕ → Type 0
Aside n w k = (i r : ℕ) → i < n → r < w → share_cell i r ≡ k → ⊥

pub scratch_aside : (n w : ℕ) (c : Scratch) → Places n w c → Each (Aside n w) (scratch_cells c n)
scratch_aside n w c L =
    each_scratch (Aside n w) c n (λ j l i r m lr. L.share_y i r j m lr l) (λ j l i r m lr. L.share_z i r j m lr l) L.share_t L.share_u

-- one step for each cell of a function over numbers
wiping_map : (f : ℕ → ℕ) (is ks : List ℕ) → wiping (map f is ++ ks) ≡ map (λ i. Const (f i) 0) is ++ wiping ks
wiping_map f [] ks = refl
wiping_map f (i ∷ is) ks = ap (λ (r : List Step). Const (f i) 0 ∷ r) (wiping_map f is ks)

pub wiping_shares : (c : Scratch) (n : ℕ) → wiping (scratch_cells c n)
    ≡ map (λ i. Const (c.y i) 0) (shares n) ++ (map (λ i. Const (c.z i) 0) (shares n) ++ (Const c.t 0 ∷ Const c.u 0 ∷ []))
wiping_shares c n =
    wiping_map c.y (shares n) _ ∙ ap (λ (r : List Step). map (λ i. Const (c.y i) 0) (shares n) ++ r) (wiping_map c.z (shares n) _)

-- "those 2n + 2 cells"
pub scratch_count : (c : Scratch) (n : ℕ) → length (scratch_cells c n) ≡ 2 * n + 2
scratch_count c n =
    simp (length-append, length-map)
    (omega (arith, length_from 0 n))
