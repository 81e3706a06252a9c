-- A gadget is share steps for n shares that set one register, with what secrecy asks before them: for any marks on them and shares S that
-- are to agree afterwards, together fewer than n, the shares `before`, S among them and no more than both, in which agreement makes marked
-- words equal. A row of gadgets has the like: from the last to the first, `need` is the shares in which the machines have to agree at the
-- start.
use mathlib.Core.Bool.{Bool}
use mathlib.Core.List.{List, [], ◌∷◌, ◌++◌}
use Prim.Native.Nat.{ℕ, ◌+◌, ◌<◌, ◌≤◌}
use native.Mathlib.Omega.{arith}
use lib.Dec.{T}
use lib.ListN.{length}
use Rattle.word.specs.declared.step.Step.{Step}
use Rattle.masking.proofs.joined.Cells.{Cells}
use Rattle.masking.proofs.secret.Acts.{acts}
use Rattle.masking.proofs.secret.Wp.{Marks, wp, wp_mono, wp_then, past}
use Rattle.masking.proofs.secret.Sets.{has, count, count_then}
use Rattle.masking.proofs.secret.Registers.{Agreed, adds, fewer_registers}

pub record Gadget (n w : ℕ) : Type 0 where
  pub code : List Step
  -- the register set, and the test that only registers of a set are read
  pub sets : ℕ
  pub ready : (ℕ → Bool) → Bool
  pub before : Marks → List ℕ → List ℕ
  pub size : (m : Marks) (S : List ℕ) → length (before m S) ≤ length S + count m (acts code)
  pub keeps : (m : Marks) (S : List ℕ) (i : ℕ) → T (has S i) → T (has (before m S) i)
  pub hides : (m : Marks) (S : List ℕ) (R : ℕ → Bool) → T (ready R) → length S + count m (acts code) < n → (c c' : Cells)
      → Agreed n w R (has (before m S)) c c' → wp m (acts code) (Agreed n w (adds sets R) (has S)) c c'

module _ (n w : ℕ) where
  abbrev pub row : List (Gadget n w) → List Step
  row [] = []
  row (g ∷ gs) = g.code ++ row gs

  -- each reads registers of R, or such as were set before
  abbrev pub Ready : (ℕ → Bool) → List (Gadget n w) → Type 0
  Ready R [] = Unit {0}
  Ready R (g ∷ gs) = T (g.ready R) × Ready (adds g.sets R) gs

  -- the shares in which to agree at the start, to end in agreement in S
  abbrev pub need : List (Gadget n w) → Marks → List ℕ → List ℕ
  need [] m S = S
  need (g ∷ gs) m S = g.before m (need gs (past (acts g.code) m) S)

  pub need_size : (gs : List (Gadget n w)) (m : Marks) (S : List ℕ) → length (need gs m S) ≤ length S + count m (acts (row gs))
  need_size [] m S = omega arith
  need_size (g ∷ gs) m S =
      let m' = past (acts g.code) m in
      omega (arith, g.size m (need gs m' S), need_size gs m' S, count_then m g.code (row gs))

  pub need_keeps : (gs : List (Gadget n w)) (m : Marks) (S : List ℕ) (i : ℕ) → T (has S i) → T (has (need gs m S) i)
  need_keeps [] m S i h = h
  need_keeps (g ∷ gs) m S i h =
      let m' = past (acts g.code) m in
      g.keeps m (need gs m' S) i (need_keeps gs m' S i h)

  pub row_wp : (gs : List (Gadget n w)) (m : Marks) (S : List ℕ) (R : ℕ → Bool) → Ready R gs → length S + count m (acts (row gs)) < n → (c c' : Cells)
      → Agreed n w R (has (need gs m S)) c c' → wp m (acts (row gs)) (Agreed n w R (has S)) c c'
  row_wp [] m S R h small c c' q = q
  row_wp (g ∷ gs) m S R h small c c' q =
      let m' = past (acts g.code) m in
      wp_then m g.code (row gs) (Agreed n w (adds g.sets R) (has (need gs m' S))) (Agreed n w R (has S)) c c'
      (g.hides m (need gs m' S) R h.0 (omega (arith, count_then m g.code (row gs), need_size gs m' S)) c c' q)
      (λ e e' q. wp_mono m' (acts (row gs)) (Agreed n w (adds g.sets R) (has S)) (Agreed n w R (has S)) e e' (fewer_registers n w g.sets R (has S))
      (row_wp gs m' S (adds g.sets R) h.1 (omega (arith, count_then m g.code (row gs))) e e' q))
