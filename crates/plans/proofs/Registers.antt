-- Running a plan on named registers: a plan's words as steps, runs that follow each other, and 32 cells as a list that computes.
-- Rests on word's Together (a step's word taken apart is the step) and plain's Machine.
use mathlib.Core.Path.{◌≡◌, refl, sym, ap, ◌∙◌}
use mathlib.Core.Bool.{Bool, true, ◌&&◌}
use mathlib.Core.List.{List, [], ◌∷◌, ◌++◌, map}
use Prim.Native.Nat.{ℕ, zero, suc, ◌+◌, ◌<◌}
use native.Mathlib.Nat.{add-zero, add-suc, suc-add, zero-add}
use native.Mathlib.Omega.{arith}
use lib.Dec.{T}
use lib.ListN.{length, get_or}
use lib.Seq.{ext_get_or}
use Rattle.word.specs.declared.step.Step.{Step}
use Rattle.word.specs.Encoding.{in_plan, word_of}
use Rattle.word.proofs.Ranges.{both}
use Rattle.word.proofs.Together.{plan_exact}
use Rattle.plain.specs.Machine.{stepped, after, run}

-- a plan's steps in order
abbrev pub run_steps : List Step → List ℕ → List ℕ
run_steps [] cells = cells
run_steps (s ∷ ss) cells = run_steps ss (stepped s cells)

abbrev pub all_in_plan : List Step → Bool
all_in_plan [] = true
all_in_plan (s ∷ ss) = in_plan s && all_in_plan ss

-- a plan's words do what its steps do
pub run_steps_is : (ss : List Step) → T (all_in_plan ss) → (cells : List ℕ) → run (map word_of ss) cells ≡ run_steps ss cells
run_steps_is [] h cells = refl
run_steps_is (s ∷ ss) h cells =
    let h₁ = both (in_plan s) (all_in_plan ss) h in
    ap (λ (d : _). run (map word_of ss) (after d cells)) (plan_exact.back s h₁.0).1 ∙ run_steps_is ss h₁.1 (stepped s cells)

pub run_append : (p q : List Step) (cells : List ℕ) → run_steps (p ++ q) cells ≡ run_steps q (run_steps p cells)
run_append [] q cells = refl
run_append (s ∷ p) q cells = run_append p q (stepped s cells)

-- n cells from place i on, as a list that computes: f i, f (i + 1), ..
abbrev pub tab : (ℕ → ℕ) → ℕ → ℕ → List ℕ
tab f i zero = []
tab f i (suc n) = f i ∷ tab f (suc i) n

tab_length : (f : ℕ → ℕ) (n i : ℕ) → length (tab f i n) ≡ n
tab_length f zero i = refl
tab_length f (suc n) i = ap suc (tab_length f n (suc i))

tab_at : (f : ℕ → ℕ) (n i k : ℕ) → k < n → get_or (tab f i n) k 0 ≡ f (i + k)
tab_at f zero i k h = absurd (omega arith)
tab_at f (suc n) i zero h = ap f (sym (add-zero i))
tab_at f (suc n) i (suc k) h = tab_at f n (suc i) k (omega arith) ∙ ap f (suc-add i k ∙ sym (add-suc i k))

-- 32 cells are such a list
pub tabbed : (cells : List ℕ) → length cells ≡ 32 → tab (λ r. get_or cells r 0) 0 32 ≡ cells
tabbed cells h =
    ext_get_or 0 (tab (λ r. get_or cells r 0) 0 32) cells (tab_length (λ r. get_or cells r 0) 32 0 ∙ sym h)
    (λ i l. tab_at (λ r. get_or cells r 0) 32 0 i (rw (tab_length (λ r. get_or cells r 0) 32 0) at l) ∙ ap (λ r. get_or cells r 0) (zero-add i))
