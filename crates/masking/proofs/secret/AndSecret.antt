-- AND's steps (Blocks adds the wiping). Over sets of shares A, B, K and a share k outside B and K with K in A: if the machines agree in the shares A of the
-- first operand and B of the second, and the marks ask for no more than `AndAsks` says, marked words are equal, and the target agrees in
-- the shares S of K in which all registers agreed before.
use mathlib.Core.Path.{◌≡◌, refl, sym, ap, ap₂}
use mathlib.Core.Bool.{Bool}
use mathlib.Core.List.{List, ◌++◌, map}
use mathlib.Core.Logic.{inr}
use Prim.Native.Nat.{ℕ, ◌<◌}
use lib.Dec.{T}
use Rattle.bits.specs.Ops.{and_w, shl_w}
use Rattle.word.specs.declared.step.Step.{Step}
use Rattle.word.specs.declared.step.Step.TheVariants.{Shl, And}
use Rattle.masking.specs.Translation.{Scratch, share_cell, shares, pairs, refresh, products, and_steps, cells_of}
use Rattle.masking.proofs.emitted.Places.{Places}
use Rattle.masking.proofs.emitted.Pairs.{apart_pairs}
use Rattle.masking.proofs.joined.Cells.{Cells}
use Rattle.masking.proofs.secret.Acts.{Act, acts}
use Rattle.masking.proofs.secret.Wp.{Marks, Rel, wp, wp_then, wp_mono, wp_frame, past, other_equal}
use Rattle.masking.proofs.secret.Meeting.{in_shares, shares_meet}
use Rattle.masking.proofs.secret.EachShare.{Asked, every_wp}
use Rattle.masking.proofs.secret.Refresh.{Refreshed, refresh_wp, refresh_off}
use Rattle.masking.proofs.secret.Products.{PairsAsk, products_wp, products_off}
use Rattle.masking.proofs.secret.Registers.{Agreed, adds, fewer, past_write, past_acts, joins, share_write, share_inj}

-- the five parts of the steps
module _ (sc : Scratch) (n d a b : ℕ) where
  open sc use {y, z}

  abbrev pub copies : List Step
  copies = map (λ i. Shl (y i) (share_cell i b) 0) (shares n)

  abbrev pub refreshed : List Step
  refreshed = refresh sc (pairs (shares n))

  abbrev pub diagonal : List Step
  diagonal = map (λ i. And (z i) (share_cell i a) (y i)) (shares n)

  abbrev pub crossed : List Step
  crossed = products sc (cells_of a) (pairs (shares n))

  abbrev pub results : List Step
  results = map (λ i. Shl (share_cell i d) (z i) 0) (shares n)

  pub parts : and_steps sc n (cells_of d) (cells_of a) (cells_of b) ≡ copies ++ (refreshed ++ (diagonal ++ (crossed ++ results)))
  unfolding and_steps
  parts = refl

  -- the marks after each part
  module _ (m : Marks) where
    abbrev pub after1 : Marks
    after1 = past (acts copies) m

    abbrev pub after2 : Marks
    after2 = past (acts refreshed) after1

    abbrev pub after3 : Marks
    after3 = past (acts diagonal) after2

    abbrev pub after4 : Marks
    after4 = past (acts crossed) after3

  -- what the marks ask for
  pub record AndAsks (A B K : ℕ → Bool) (k : ℕ) (m : Marks) : Type 0 where
    pub m1 : Asked n B m (shares n)
    pub m2 : Refreshed B (after1 m) (pairs (shares n))
    pub m3 : Asked n K (after2 m) (shares n)
    pub m4 : PairsAsk n k A K (after3 m) (pairs (shares n))
    pub m5 : Asked n K (after4 m) (shares n)

-- how the sets lie: W are the shares in which the registers agree before, S those in which they are to agree after
pub record AndSets (n : ℕ) (W A B K S : ℕ → Bool) (k : ℕ) : Type 0 where
  pub A_W : (i : ℕ) → T (A i) → T (W i)
  pub B_W : (i : ℕ) → T (B i) → T (W i)
  pub K_A : (i : ℕ) → T (K i) → T (A i)
  pub S_K : (i : ℕ) → T (S i) → T (K i)
  pub K_k : (i : ℕ) → T (K i) → i ≡ k → ⊥
  pub B_k : T (B k) → ⊥
  pub k_n : k < n

module _ (n w : ℕ) (sc : Scratch) (L : Places n w sc) (d a b : ℕ) (ld : d < w) (la : a < w) (lb : b < w)
    (R : ℕ → Bool) (Ra : T (R a)) (Rb : T (R b)) (W A B K S : ℕ → Bool) (k : ℕ) (sets : AndSets n W A B K S k) where
  open sc use {y, z, t, u}

  -- agreement of y, and of z, on a set
  abbrev OnZ : Rel
  OnZ c c' = (i : ℕ) → i < n → T (K i) → c (z i) ≡ c' (z i)

  abbrev OffK : Rel
  OffK c c' = Agreed n w R W c c' × ((i : ℕ) → i < n → (i ≡ k → ⊥) → c (y i) ≡ c' (y i))

  part1 : (m : Marks) → Asked n B m (shares n) → (c c' : Cells) → Agreed n w R W c c'
      → wp m (acts (copies sc n d a b)) (λ e e'. Agreed n w R W e e' × ((i : ℕ) → i < n → T (B i) → e (y i) ≡ e' (y i))) c c'
  part1 m s c c' g =
      every_wp n (λ i. Shl (y i) (share_cell i b) 0) y (λ i c. shl_w (c (share_cell i b)) 0) (λ i. refl) L.y_y B (Agreed n w R W)
      (λ e e' i v v' l q h. past_write n w R W e e' (y i) v v' (λ j r lj lr. L.share_y j r i lj lr l) h)
      (λ e e' i l q h. ap (λ (x : ℕ). shl_w x 0) (h i b l lb Rb (sets.B_W i q)))
      m (shares n) (in_shares n) c c' s g

  part2 : (m : Marks) → Refreshed B m (pairs (shares n)) → (c c' : Cells) → Agreed n w R W c c' → ((i : ℕ) → i < n → T (B i) → c (y i) ≡ c' (y i))
      → wp m (acts (refreshed sc n d a b)) OffK c c'
  part2 m s c c' g gy =
      wp_mono m P _ OffK c c' (λ e e' h. (past_acts n w R W P c c' e e' (λ i r l lr. refresh_off n w sc L i r l lr (pairs (shares n)) (apart_pairs n)) h.1 g, h.0))
      (wp_frame m P _ c c' (refresh_wp n w sc L k B m (pairs (shares n)) c c' (apart_pairs n) s sets.B_k gy (λ i l x. inr (shares_meet n k sets.k_n i l x))))
    where
      P : List Act
      P = acts (refreshed sc n d a b)

  part3 : (m : Marks) → Asked n K m (shares n) → (c c' : Cells) → OffK c c' → wp m (acts (diagonal sc n d a b)) (λ e e'. OffK e e' × OnZ e e') c c'
  part3 m s c c' g =
      every_wp n (λ i. And (z i) (share_cell i a) (y i)) z (λ i c. and_w (c (share_cell i a)) (c (y i))) (λ i. refl) L.z_z K OffK
      (λ e e' i v v' l q h. (
        past_write n w R W e e' (z i) v v' (λ j r lj lr. L.share_z j r i lj lr l) h.0,
        λ j lj x. other_equal e e' (z i) v v' (y j) (L.y_z j i lj l) (h.1 j lj x),
      ))
      (λ e e' i l q h. ap₂ and_w (h.0 i a l la Ra (sets.A_W i (sets.K_A i q))) (h.1 i l (sets.K_k i q)))
      m (shares n) (in_shares n) c c' s g

  part4 : (m : Marks) → PairsAsk n k A K m (pairs (shares n)) → (c c' : Cells) → OffK c c' → OnZ c c'
      → wp m (acts (crossed sc n d a b)) (λ e e'. Agreed n w R W e e' × OnZ e e') c c'
  part4 m s c c' g gz =
      wp_mono m P _ (λ e e'. Agreed n w R W e e' × OnZ e e') c c'
      (λ e e' h. (
        past_acts n w R W P c c' e e' (λ i r l lr. products_off n w sc L a la k A K sets.K_A sets.K_k i r l lr m (pairs (shares n)) s) h.1 g.0,
        h.0.on_z,
      ))
      (wp_frame m P _ c c' (products_wp n w sc L a la k A K sets.K_A sets.K_k m (pairs (shares n)) c c' s
      (record { on_a = λ i l x. g.0 i a l la Ra (sets.A_W i x); on_y = g.1; on_z = gz })))
    where
      P : List Act
      P = acts (crossed sc n d a b)

  part5 : (m : Marks) → Asked n K m (shares n) → (c c' : Cells) → Agreed n w R W c c' → OnZ c c'
      → wp m (acts (results sc n d a b)) (Agreed n w (adds d R) S) c c'
  part5 m s c c' g gz =
      wp_mono m P _ (Agreed n w (adds d R) S) c c'
      (λ e e' h. joins n w R S d e e' (fewer n w R S K sets.S_K e e' h.0.0) (λ i l x. h.1 i l (sets.S_K i x)))
      (every_wp n (λ i. Shl (share_cell i d) (z i) 0) (λ i. share_cell i d) (λ i c. shl_w (c (z i)) 0) (λ i. refl) (share_inj n w sc L R K d ld) K
      (λ e e'. Agreed n w R K e e' × OnZ e e')
      (λ e e' i v v' l q h. (
        share_write n w sc L R K d ld e e' i v v' l q h.0,
        λ j lj x. other_equal e e' (share_cell i d) v v' (z j) (λ o. L.share_z i d j l ld lj (sym o)) (h.1 j lj x),
      ))
      (λ e e' i l q h. ap (λ (x : ℕ). shl_w x 0) (h.1 i l q))
      m (shares n) (in_shares n) c c' s (fewer n w R K W (λ i x. sets.A_W i (sets.K_A i x)) c c' g, gz))
    where
      P : List Act
      P = acts (results sc n d a b)

  pub and_wp : (m : Marks) → AndAsks sc n d a b A B K k m → (c c' : Cells) → Agreed n w R W c c'
      → wp m (acts (and_steps sc n (cells_of d) (cells_of a) (cells_of b))) (Agreed n w (adds d R) S) c c'
  and_wp m s c c' g =
      rw (parts sc n d a b)
      (wp_then m P1 (P2 ++ (P3 ++ (P4 ++ P5))) _ Ψ c c' (part1 m s.m1 c c' g) (λ c c' g.
      wp_then m1 P2 (P3 ++ (P4 ++ P5)) OffK Ψ c c' (part2 m1 s.m2 c c' g.0 g.1) (λ c c' g.
      wp_then m2 P3 (P4 ++ P5) _ Ψ c c' (part3 m2 s.m3 c c' g) (λ c c' g.
      wp_then m3 P4 P5 _ Ψ c c' (part4 m3 s.m4 c c' g.0 g.1) (λ c c' g. part5 m4 s.m5 c c' g.0 g.1)))))
    where
      P1 : List Step
      P1 = copies sc n d a b

      P2 : List Step
      P2 = refreshed sc n d a b

      P3 : List Step
      P3 = diagonal sc n d a b

      P4 : List Step
      P4 = crossed sc n d a b

      P5 : List Step
      P5 = results sc n d a b

      Ψ : Rel
      Ψ = Agreed n w (adds d R) S

      m1 : Marks
      m1 = after1 sc n d a b m

      m2 : Marks
      m2 = after2 sc n d a b m

      m3 : Marks
      m3 = after3 sc n d a b m

      m4 : Marks
      m4 = after4 sc n d a b m
