-- The plain machine's laws: runs in a row, lengths, and that cells stay words. Rests on word's Becomes.
use Rattle.std.specs.Prelude.{Option, Some, None}
use mathlib.Core.Path.{◌≡◌, refl, sym, ap, ◌∙◌}
use mathlib.Core.Bool.{not}
use mathlib.Core.List.{List, [], ◌∷◌, ◌++◌}
use Prim.Native.Nat.{ℕ, zero, suc, ◌+◌, ◌^◌, ◌<◌}
use native.Mathlib.Numerals.{add-one}
use native.Mathlib.Omega.{arith}
use lib.ListN.{length, get_or, set, drop, length-set}
use lib.Seq.{drop-cons}
use lib.Dec.{T, eqb}
use Rattle.word.specs.declared.step.Step.{Step}
use Rattle.word.specs.Encoding.{plan_step, in_plan, within, kind_number}
use Rattle.word.proofs.Ranges.{both, within_number}
use Rattle.word.proofs.Becomes.{becomes_lt}
use Rattle.word.proofs.Together.{taken_rule}
use Rattle.word.specs.Table.{dest, becomes}
use Rattle.plain.specs.Machine.{stepped, after, run}
use Rattle.plain.specs.Laws.{Laws}

pub run_append : (p q cells : List ℕ) → run (p ++ q) cells ≡ run q (run p cells)
run_append [] q cells = refl
run_append (w ∷ p) q cells = run_append p q (after (plan_step w) cells)

pub after_size : (d : Option Step) (cells : List ℕ) → length (after d cells) ≡ length cells
unfolding stepped
after_size (Some s) cells = length-set cells (dest s) (becomes s (λ c. get_or cells c 0) 0)
after_size None cells = refl

pub run_size : (plan cells : List ℕ) → length (run plan cells) ≡ length cells
run_size [] cells = refl
run_size (w ∷ ws) cells = run_size ws (after (plan_step w) cells) ∙ after_size (plan_step w) cells

-- one turn of the loop over a plan's words
pub run_one : (plan cells : List ℕ) (i : ℕ) → i < length plan → run (drop i plan) cells ≡ run (drop (i + 1) plan) (after (plan_step (get_or plan i 0)) cells)
run_one plan cells i h = ap (λ (l : List ℕ). run l cells) (drop-cons plan i 0 h) ∙ ap (λ (k : ℕ). run (drop k plan) (after (plan_step (get_or plan i 0)) cells)) (sym (add-one i))

-- storing a word keeps all cells words
pub set_words : (cells : List ℕ) (d v : ℕ) → ((r : ℕ) → get_or cells r 0 < 2 ^ 64) → v < 2 ^ 64 → (r : ℕ) → get_or (set cells d v) r 0 < 2 ^ 64
set_words [] d v w h r = w r
set_words (x ∷ cells) zero v w h zero = h
set_words (x ∷ cells) zero v w h (suc r) = w (suc r)
set_words (x ∷ cells) (suc d) v w h zero = w zero
set_words (x ∷ cells) (suc d) v w h (suc r) = set_words cells d v (λ q. w (suc q)) h r

after_words : (w : ℕ) (cells : List ℕ) → ((r : ℕ) → get_or cells r 0 < 2 ^ 64) → (r : ℕ) → get_or (after (plan_step w) cells) r 0 < 2 ^ 64
unfolding stepped
after_words w cells h = by (plan_step w) (taken_rule in_plan w)
  where
    by : (d : Option Step) → ((s : Step) → d ≡ Some s → T (in_plan s)) → (r : ℕ) → get_or (after d cells) r 0 < 2 ^ 64
    by (Some s) ok =
        set_words cells (dest s) (becomes s (λ c. get_or cells c 0) 0) h
        (becomes_lt s (within_number 32 s (both (not (eqb (kind_number s) 9)) (within 32 s) (ok s refl)).1) (λ c. get_or cells c 0) 0 h (omega arith))
    by None ok = h

run_words : (plan cells : List ℕ) → ((r : ℕ) → get_or cells r 0 < 2 ^ 64) → (r : ℕ) → get_or (run plan cells) r 0 < 2 ^ 64
run_words [] cells h = h
run_words (w ∷ ws) cells h = run_words ws (after (plan_step w) cells) (after_words w cells h)

run_good : (w : ℕ) (s : Step) (cells : List ℕ) → plan_step w ≡ Some s → run (w ∷ []) cells ≡ set cells (dest s) (becomes s (λ c. get_or cells c 0) 0)
unfolding stepped
run_good w s cells e = ap (λ (d : Option Step). after d cells) e

pub laws : Laws
laws = record { one = run_good; append = run_append; empty = λ cells. refl; size = run_size; words = run_words }
