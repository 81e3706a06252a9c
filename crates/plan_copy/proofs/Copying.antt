-- Copying a plan's words to the front of a slice: over any list of words, so that every plan's copy goes by it; and writing words one by one.
-- Rests on lib.Seq's `paste`.
use mathlib.Core.Path.{◌≡◌, sym, ap, ap₂, ◌∙◌}
use mathlib.Core.Bool.{Bool}
use mathlib.Core.List.{List, ◌++◌, append-nil}
use Prim.Native.Nat.{ℕ, ◌+◌, ◌≤◌, ◌<◌}
use native.Mathlib.Nat.{zero-add}
use native.Mathlib.Numerals.{add-one}
use native.Mathlib.Omega.{arith}
use lib.ListN.{length, get_or, drop, set, drop_of_length-le}
use lib.Seq.{paste, paste-zero, paste-suc, take_all}
use borrow.Author.Tests.{lt-ltb, le-ltb}
use Rattle.checks.specs.Answers.{done, refused, given, after_call}
use Rattle.plan_copy.specs.Copy.{copy_answer, copy_out}

-- ---- words one by one, over as many

-- i words of the plan are written over the start of d
abbrev pub Copied : List ℕ → List ℕ → ℕ → List ℕ → Type 0
Copied plan d i o = o ≡ paste d 0 plan i

pub none_copied : (plan d : List ℕ) → Copied plan d 0 d
none_copied plan d = paste-zero d 0 plan

module _ (plan d o : List ℕ) (i : ℕ) (copied : Copied plan d i o) (same : length d ≡ length plan) where
  pub one_copied : (x : ℕ) → i < length plan → x ≡ get_or plan i 0 → Copied plan d (i + 1) (set o i x)
  one_copied x l e =
      let h : 0 + i < length d = omega arith in
      ap (λ (q : List ℕ). set q i x) copied ∙ ap (set (paste d 0 plan i) i) e
      ∙ ap (λ (k : ℕ). set (paste d 0 plan i) k (get_or plan i 0)) (sym (zero-add i))
      ∙ paste-suc d 0 plan i 0 h l ∙ ap (paste d 0 plan) (sym (add-one i))

  pub all_copied : i ≡ length plan → o ≡ plan
  all_copied e =
      copied ∙ ap (paste d 0 plan) e
      ∙ ap₂ (λ (p q : List ℕ). p ++ q) (take_all (length plan) plan (omega arith)) (drop_of_length-le d {i = 0 + length plan} (omega arith)) ∙ append-nil plan

-- ---- the call's answer and output, by whether there is room
pub copy_refused : (plan d : List ℕ) → length d < length plan → (refused 4 ≡ copy_answer plan d) × (d ≡ copy_out plan d)
copy_refused plan d h =
    let e = lt-ltb (length d) (length plan) h in (
      ap (λ (b : Bool). given b (refused 4) (done (length plan) 0)) (sym e),
      ap (λ (b : Bool). after_call (given b (refused 4) (done (length plan) 0)) (plan ++ drop (length plan) d) d) (sym e),
    )

pub copy_done : (plan d o : List ℕ) → length plan ≤ length d → o ≡ plan ++ drop (length plan) d → (done (length plan) 0 ≡ copy_answer plan d) × (o ≡ copy_out plan d)
copy_done plan d o h c =
    let e = le-ltb (length d) (length plan) h in (
      ap (λ (b : Bool). given b (refused 4) (done (length plan) 0)) (sym e),
      c ∙ ap (λ (b : Bool). after_call (given b (refused 4) (done (length plan) 0)) (plan ++ drop (length plan) d) d) (sym e),
    )
