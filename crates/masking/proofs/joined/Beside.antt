-- Runs beside other cells: steps that name only cells below 352 leave all from 352 on as they are, and do below what they do without these
-- (`exec_beside`). Steps go by no more tape than they take (`exec_part`), and keep words words (`exec_words`). Rests on emitted's Low and
-- word's Becomes.
use mathlib.Core.Path.{◌≡◌, refl, sym, ap, ap₂, ◌∙◌}
use mathlib.Core.List.{List, [], ◌∷◌, ◌++◌}
use Prim.Native.Nat.{ℕ, zero, suc, ◌+◌, ◌<◌}
use native.Mathlib.Nat.{zero-add, suc-add}
use native.Mathlib.Omega.{arith}
use lib.Dec.{T}
use lib.ListN.{length, get_or, set, take, drop, length-set, get_or-append}
use lib.Seq.{set-append_left, get_or-take, take-nil}
use Rattle.word.specs.declared.step.Step.{Step}
use Rattle.word.specs.declared.step.Step.TheVariants.{Const, Xor, And, Not, Shl, Shr, Spread, Add, Rand}
use Rattle.word.specs.Encoding.{in_program}
use Rattle.word.specs.Table.{dest, reads, becomes}
use Rattle.word.proofs.Ranges.{each_of}
use Rattle.word.proofs.Becomes.{becomes_reads}
use Rattle.plain.proofs.Laws.{set_words}
use Rattle.masking.specs.Machine.{takes, exec_step, exec_steps, rands_of, Words}
use Rattle.masking.proofs.emitted.Tests.{All}
use Rattle.masking.proofs.emitted.Low.{Low}
use Rattle.masking.proofs.joined.Cells.{at, program_fits, drop_words}

-- ---- beside other cells

step_beside : (s : Step) → Low s → (tape low high : List ℕ) → length low ≡ 352 → exec_step s tape (low ++ high) ≡ exec_step s tape low ++ high
unfolding exec_step
step_beside s h tape low high e =
    ap (set (low ++ high) (dest s))
    (becomes_reads s (at (low ++ high)) (at low)
    (each_of (λ k. k < 352) (λ k. at (low ++ high) k ≡ at low k) (λ k l. get_or-append low high 0 k (omega arith)) (reads s) h.1) (get_or tape 0 0))
    ∙ set-append_left low high (dest s) _ (omega (arith, h.0))

pub exec_beside : (ss : List Step) → All Low ss → (tape low high : List ℕ) → length low ≡ 352 → exec_steps ss tape (low ++ high) ≡ exec_steps ss tape low ++ high
unfolding exec_step
exec_beside [] h tape low high e = refl
exec_beside (s ∷ ss) h tape low high e =
    ap (exec_steps ss (drop (takes s) tape)) (step_beside s h.0 tape low high e)
    ∙ exec_beside ss h.1 (drop (takes s) tape) (exec_step s tape low) high (length-set low (dest s) _ ∙ e)

-- ---- the tape words taken

-- a step looks at the tape only where it takes a word
next_word : (s : Step) (f : ℕ → ℕ) (m : ℕ) (tape : List ℕ) → becomes s f (get_or (take (takes s + m) tape) 0 0) ≡ becomes s f (get_or tape 0 0)
next_word (Const d k) f m tape = refl
next_word (Xor d a b) f m tape = refl
next_word (And d a b) f m tape = refl
next_word (Not d a) f m tape = refl
next_word (Shl d a b) f m tape = refl
next_word (Shr d a b) f m tape = refl
next_word (Spread d a) f m tape = refl
next_word (Add d a b) f m tape = refl
next_word (Rand d) f m tape = get_or-take (1 + m) tape 0 0 (omega arith)

drop_take : (k m : ℕ) (l : List ℕ) → drop k (take (k + m) l) ≡ take m (drop k l)
drop_take zero m l = ap (λ (j : ℕ). take j l) (zero-add m)
drop_take (suc k) m [] = ap (λ (l : List ℕ). drop (suc k) l) (take-nil (suc k + m)) ∙ sym (take-nil m)
drop_take (suc k) m (x ∷ l) = ap (λ (j : ℕ). drop (suc k) (take j (x ∷ l))) (suc-add k m) ∙ drop_take k m l

pub exec_part : (ss : List Step) (tape cells : List ℕ) → exec_steps ss (take (rands_of ss) tape) cells ≡ exec_steps ss tape cells
unfolding exec_step
exec_part [] tape cells = refl
exec_part (s ∷ ss) tape cells =
    ap₂ (exec_steps ss) (drop_take (takes s) (rands_of ss) tape) (ap (set cells (dest s)) (next_word s (at cells) (rands_of ss) tape))
    ∙ exec_part ss (drop (takes s) tape) (exec_step s tape cells)

-- ---- words

pub exec_words : (ss : List Step) → All (λ s. T (in_program s)) ss → (tape cells : List ℕ) → Words tape → Words cells → Words (exec_steps ss tape cells)
unfolding exec_step
exec_words [] h tape cells t w = w
exec_words (s ∷ ss) h tape cells t w =
    exec_words ss h.1 (drop (takes s) tape) (exec_step s tape cells) (drop_words tape t (takes s))
    (set_words cells (dest s) _ w (program_fits s h.0 (at cells) (get_or tape 0 0) w (t 0)))
