-- Cells as a function: what a list of steps does to a list of cells is what it does to that function (`exec_on`). Rests on word's Ranges and
-- Becomes.
use mathlib.Core.Path.{◌≡◌, refl, sym, ap, ◌∙◌, fun_ext}
use mathlib.Core.Bool.{Bool, true, false, not, cond}
use mathlib.Core.List.{List, [], ◌∷◌}
use Prim.Native.Nat.{ℕ, ◌+◌, ◌^◌, ◌<◌}
use native.Mathlib.Omega.{arith}
use native.Mathlib.Decide.{ℕ_discrete}
use lib.Dec.{T, eqb}
use lib.ListN.{length, get_or, set, drop, length-set}
use lib.Seq.{get_or-set_same, get_or-set_other, get_or-drop}
use borrow.Author.Tests.{eq-eqb, ne_eqb}
use Rattle.word.specs.declared.step.Step.{Step}
use Rattle.word.specs.Encoding.{within, kind_number, in_program}
use Rattle.word.specs.Table.{dest, becomes}
use Rattle.masking.specs.Machine.{takes, exec_step, exec_steps, Words}
use Rattle.masking.proofs.emitted.Tests.{All}
use Rattle.word.proofs.Ranges.{both, within_cells, within_number}
use Rattle.word.proofs.Becomes.{becomes_lt}

abbrev pub Cells : Type 0
Cells = ℕ → ℕ

-- the cells with a word put into one
unfoldable pub upd : Cells → ℕ → ℕ → Cells
upd c d v k = cond (eqb k d) v (c k)

pub upd_same : (c : Cells) (d v : ℕ) → upd c d v d ≡ v
unfolding upd
upd_same c d v = rw (eq-eqb d d refl)

pub upd_other : (c : Cells) (d v k : ℕ) → (k ≡ d → ⊥) → upd c d v k ≡ c k
unfolding upd
upd_other c d v k h = rw (ne_eqb k d h)

-- one cell, over equal cells elsewhere
pub upd_at : (c e : Cells) (d v k : ℕ) → c k ≡ e k → upd c d v k ≡ upd e d v k
unfolding upd
upd_at c e d v k h = ap (λ (x : ℕ). cond (eqb k d) v x) h

abbrev pub WordCells : Cells → Type 0
WordCells c = (k : ℕ) → c k < 2 ^ 64

pub upd_words : (c : Cells) (d v : ℕ) → WordCells c → v < 2 ^ 64 → WordCells (upd c d v)
unfolding upd
upd_words c d v h l k = by (eqb k d)
  where
    by : (b : Bool) → cond b v (c k) < 2 ^ 64
    by true = l
    by false = h k

-- one step, t the next tape word, and a list of steps over a tape
abbrev pub step_on : Step → ℕ → Cells → Cells
step_on s t c = upd c (dest s) (becomes s c t)

abbrev pub steps_on : List Step → List ℕ → Cells → Cells
steps_on [] tape c = c
steps_on (s ∷ ss) tape c = steps_on ss (drop (takes s) tape) (step_on s (get_or tape 0 0) c)

-- ---- lists of cells
abbrev pub at : List ℕ → Cells
at l k = get_or l k 0

pub at_set : (l : List ℕ) (d v : ℕ) → d < length l → at (set l d v) ≡ upd (at l) d v
at_set l d v h = fun_ext (λ k. by k (ℕ_discrete k d))
  where
    by : (k : ℕ) → Dec (k ≡ d) → at (set l d v) k ≡ upd (at l) d v k
    by k (yes e) = rw e (get_or-set_same l d v 0 h ∙ sym (upd_same (at l) d v))
    by k (no e) = get_or-set_other l d k v 0 e ∙ sym (upd_other (at l) d v k e)

-- the cell that a step writes
pub within_dest : (w : ℕ) (s : Step) → T (within w s) → dest s < w
within_dest w s h = (within_cells w s h).0

pub program_dest : (s : Step) → T (in_program s) → dest s < 512
program_dest s h = within_dest 512 s (both (not (eqb (kind_number s) 8)) (within 512 s) h).1

pub exec_on : (ss : List Step) → All (λ s. T (in_program s)) ss → (l tape : List ℕ) → length l ≡ 512 → at (exec_steps ss tape l) ≡ steps_on ss tape (at l)
unfolding exec_step
exec_on [] h l tape e = refl
exec_on (s ∷ ss) h l tape e =
    exec_on ss h.1 (exec_step s tape l) (drop (takes s) tape) (length-set l (dest s) _ ∙ e)
    ∙ ap (λ (c : Cells). steps_on ss (drop (takes s) tape) c) (at_set l (dest s) _ (omega (arith, program_dest s h.0)))

-- ---- words

-- a step that writes a word where cells and tape are words
abbrev pub Fits : Step → Type 0
Fits s = (c : Cells) (t : ℕ) → WordCells c → t < 2 ^ 64 → becomes s c t < 2 ^ 64

pub program_fits : (s : Step) → T (in_program s) → Fits s
program_fits s h = becomes_lt s (within_number 512 s (both (not (eqb (kind_number s) 8)) (within 512 s) h).1)

pub drop_words : (tape : List ℕ) → Words tape → (m : ℕ) → Words (drop m tape)
drop_words tape h m k = rw (get_or-drop m tape k 0) (h (m + k))
