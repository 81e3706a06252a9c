-- The check of a plan or share program: what one that passes says, and that one that does not is the answer whatever comes next.
-- Rests on Checking.
use Rattle.std.specs.Prelude.{Option}
use mathlib.Core.Path.{◌≡◌, refl}
use mathlib.Core.Bool.{Bool, true, false}
use mathlib.Core.List.{List}
use Prim.Native.Nat.{ℕ, ◌≤◌, ◌<◌}
use native.Mathlib.Nat.{le_antisymm}
use native.Mathlib.Omega.{arith}
use lib.Dec.{ltb}
use lib.ListN.{length}
use borrow.Author.Tests.{ltb-false, lt-ltb, le-ltb}
use Rattle.word.specs.declared.step.Step.{Step}
use Rattle.word.specs.Encoding.{plan_step, program_step}
use Rattle.word.specs.Layout.{plan_max, program_max}
use Rattle.checks.specs.declared.answer.Answer.{Answer}
use Rattle.checks.specs.Answers.{first_bad, refused, bad_at, given, checked, plan_checked, program_checked}
use Rattle.checks.proofs.Checking.{first_bad_is}
use Rattle.checks.proofs.Passed.{passed}

-- not too long, and no word is bad
pub record Passes (most : ℕ) (step : ℕ → Option Step) (words : List ℕ) : Type 0 where
  pub short : length words ≤ most
  pub good : first_bad step words ≡ length words

module _ (most : ℕ) (step : ℕ → Option Step) (words : List ℕ) where
  -- what an answer that is done says
  done_passes : (x : Answer) → (checked most step words x).number ≡ 0 → Passes most step words × (x.number ≡ 0)
  done_passes x z =
      let p₂ = passed (ltb most (length words)) (refused 2) _ (λ h. omega arith) z in
      let p₃ = passed (ltb (first_bad step words) (length words)) (bad_at (first_bad step words)) _ (λ h. omega arith) p₂.1 in (
        record {
          short = ltb-false most (length words) p₂.0;
          good = le_antisymm (first_bad_is step words).within (ltb-false (first_bad step words) (length words) p₃.0);
        },
        p₃.1,
      )

  passes_next : Passes most step words → (y : Answer) → checked most step words y ≡ y
  passes_next p y = rw (le-ltb most (length words) p.short, p.good, le-ltb (length words) (length words) (omega arith))

  down_next : (x y : Answer) → x.number ≡ 0 → ((checked most step words x).number ≡ 0 → ⊥) → checked most step words x ≡ checked most step words y
  down_next x y = by (ltb most (length words)) (ltb (first_bad step words) (length words))
    where
      by : (p q : Bool) → x.number ≡ 0 → ((given p (refused 2) (given q (bad_at (first_bad step words)) x)).number ≡ 0 → ⊥)
          → given p (refused 2) (given q (bad_at (first_bad step words)) x) ≡ given p (refused 2) (given q (bad_at (first_bad step words)) y)
      by true q z h = refl
      by false true z h = refl
      by false false z h = absurd (h z)

  no_counts : (x : Answer) → ((checked most step words x).words ≤ x.words) × ((checked most step words x).tape ≤ x.tape)
  no_counts x = by (ltb most (length words)) (ltb (first_bad step words) (length words))
    where
      by : (p q : Bool) → let a = given p (refused 2) (given q (bad_at (first_bad step words)) x) in (a.words ≤ x.words) × (a.tape ≤ x.tape)
      by true q = (omega arith, omega arith)
      by false true = (omega arith, omega arith)
      by false false = (omega arith, omega arith)

  -- the answer of a list that is too long
  too_long : {a : Answer} (next : Answer) → most < length words → a ≡ refused 2 → a ≡ checked most step words next
  too_long next l e = rw (lt-ltb most (length words) l) e

-- the two checks: what holds of one given by name
pub record Check (most : ℕ) (step : ℕ → Option Step) (check : List ℕ → Answer → Answer) : Type 0 where
  -- an answer that is done: the check passes, and what comes next is done
  pub passes : (words : List ℕ) (x : Answer) → (check words x).number ≡ 0 → Passes most step words × (x.number ≡ 0)
  -- where it passes, what comes next is the answer
  pub next : (words : List ℕ) → Passes most step words → (y : Answer) → check words y ≡ y
  -- where it does not, the answer is the same whatever comes next
  pub down : (words : List ℕ) (x y : Answer) → x.number ≡ 0 → ((check words x).number ≡ 0 → ⊥) → check words x ≡ check words y
  -- it counts nothing of its own
  pub counts : (words : List ℕ) (x : Answer) → ((check words x).words ≤ x.words) × ((check words x).tape ≤ x.tape)
  pub long : (words : List ℕ) {a : Answer} (x : Answer) → most < length words → a ≡ refused 2 → a ≡ check words x

-- it by any name
all_of : (most : ℕ) (step : ℕ → Option Step) → Check most step (checked most step)
all_of most step =
    record {
      passes = done_passes most step;
      next = passes_next most step;
      down = down_next most step;
      counts = no_counts most step;
      long = too_long most step;
    }

pub plan_check : Check plan_max plan_step plan_checked
unfolding plan_checked
plan_check = all_of plan_max plan_step

pub program_check : Check program_max program_step program_checked
unfolding program_checked
program_check = all_of program_max program_step
