-- Two machines agree in the shares S of the registers R: what writes keep of it, and the blocks that work once per share. A block that
-- writes share i of register d from shares i of registers in R keeps the agreement and puts d into R.
use mathlib.Core.Path.{◌≡◌, sym, ◌∙◌}
use mathlib.Core.Bool.{Bool, ◌||◌}
use mathlib.Core.List.{List, map}
use Prim.Native.Nat.{ℕ, ◌<◌}
use native.Mathlib.Decide.{ℕ_discrete}
use lib.Dec.{T, eqb, eqb→eq}
use Rattle.word.specs.declared.step.Step.{Step}
use Rattle.masking.specs.Translation.{Scratch, share_cell}
use Rattle.masking.proofs.emitted.Tests.{or_right, or_elim}
use Rattle.masking.proofs.emitted.Places.{Places}
use Rattle.masking.proofs.joined.Cells.{Cells, upd, upd_same}
use Rattle.masking.proofs.secret.Acts.{Act, write, act, acts}
use Rattle.masking.proofs.secret.Wp.{Marks, Rel, wp, wp_mono, Off, Kept, kept_equal, other_equal}
use Rattle.masking.proofs.secret.Meeting.{In}
use Rattle.masking.proofs.secret.EachShare.{Asked, every_wp}

-- one register more
abbrev pub adds : ℕ → (ℕ → Bool) → ℕ → Bool
adds d R r = eqb r d || R r

module _ (n w : ℕ) where
  abbrev pub Agreed : (ℕ → Bool) → (ℕ → Bool) → Rel
  Agreed R S c c' = (i r : ℕ) → i < n → r < w → T (R r) → T (S i) → c (share_cell i r) ≡ c' (share_cell i r)

  pub fewer : (R S W : ℕ → Bool) → ((i : ℕ) → T (S i) → T (W i)) → (c c' : Cells) → Agreed R W c c' → Agreed R S c c'
  fewer R S W sub c c' g i r l lr q s = g i r l lr q (sub i s)

  -- one register fewer
  pub fewer_registers : (d : ℕ) (R S : ℕ → Bool) (c c' : Cells) → Agreed (adds d R) S c c' → Agreed R S c c'
  fewer_registers d R S c c' g i r l lr q s = g i r l lr (or_right (eqb r d) (R r) q) s

  -- the agreement passes a write elsewhere, and acts that write elsewhere
  pub past_write : (R S : ℕ → Bool) (c c' : Cells) (x v v' : ℕ) → ((i r : ℕ) → i < n → r < w → share_cell i r ≡ x → ⊥)
      → Agreed R S c c' → Agreed R S (upd c x v) (upd c' x v')
  past_write R S c c' x v v' o g i r l lr q s = other_equal c c' x v v' (share_cell i r) (o i r l lr) (g i r l lr q s)

  pub past_acts : (R S : ℕ → Bool) (P : List Act) (c c' e e' : Cells) → ((i r : ℕ) → i < n → r < w → Off (share_cell i r) P)
      → Kept P c c' e e' → Agreed R S c c' → Agreed R S e e'
  past_acts R S P c c' e e' o f g i r l lr q s = kept_equal P c c' e e' f (share_cell i r) (o i r l lr) (g i r l lr q s)

  -- register d joins the registers that agree
  pub joins : (R S : ℕ → Bool) (d : ℕ) (c c' : Cells) → Agreed R S c c' → ((i : ℕ) → i < n → T (S i) → c (share_cell i d) ≡ c' (share_cell i d))
      → Agreed (adds d R) S c c'
  joins R S d c c' g h i r l lr q s =
      or_elim (eqb r d) (R r) (λ x. let e : r ≡ d = eqb→eq r d x in rw e (h i l s)) (λ x. g i r l lr x s) q

  module _ (sc : Scratch) (L : Places n w sc) (R S : ℕ → Bool) (d : ℕ) (ld : d < w) where
    -- share i of d, written alike where i is in S
    pub share_write : (c c' : Cells) (i v v' : ℕ) → i < n → (T (S i) → v ≡ v') → Agreed R S c c'
        → Agreed R S (upd c (share_cell i d) v) (upd c' (share_cell i d) v')
    share_write c c' i v v' l q g j r lj lr x f = by (ℕ_discrete (share_cell j r) (share_cell i d))
      where
        by : Dec (share_cell j r ≡ share_cell i d) → upd c (share_cell i d) v (share_cell j r) ≡ upd c' (share_cell i d) v' (share_cell j r)
        by (yes o) =
            let e : T (S i) = rw (L.share_share j r i d lj lr l ld o).0 at f in
            rw o (upd_same c (share_cell i d) v ∙ q e ∙ sym (upd_same c' (share_cell i d) v'))
        by (no o) = other_equal c c' (share_cell i d) v v' (share_cell j r) o (g j r lj lr x f)

    pub share_inj : (i j : ℕ) → i < n → j < n → share_cell i d ≡ share_cell j d → i ≡ j
    share_inj i j l lj e = (L.share_share i d j d l ld lj ld e).0

    -- once per share: share i of d from shares i of the registers `reads`
    module _ (step : ℕ → Step) (f : ℕ → Cells → ℕ) (writes : (i : ℕ) → act (step i) ≡ write (share_cell i d) (f i)) (reads : List ℕ)
        (from : (i : ℕ) (c c' : Cells) → ((r : ℕ) → In r reads → c (share_cell i r) ≡ c' (share_cell i r)) → f i c ≡ f i c')
        (known : (r : ℕ) → In r reads → (r < w) × T (R r)) where
      pub per_share : (m : Marks) (is : List ℕ) → ((i : ℕ) → i < n → In i is) → Asked n S m is → (c c' : Cells) → Agreed R S c c'
          → wp m (acts (map step is)) (Agreed (adds d R) S) c c'
      per_share m is all s c c' g =
          wp_mono m (acts (map step is)) _ (Agreed (adds d R) S) c c' (λ e e' h. joins R S d e e' h.0 h.1)
          (every_wp n step (λ i. share_cell i d) f writes share_inj S (Agreed R S) share_write
          (λ e e' i l x h. from i e e' (λ r q. h i r l (known r q).0 (known r q).1 x)) m is all c c' s g)
