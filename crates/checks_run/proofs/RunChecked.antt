-- The check of a run's program: what one that passes says (`Takes`), and that one that does not is the answer whatever comes next. Rests on checks'
-- Passed.
use mathlib.Core.Path.{◌≡◌, refl}
use mathlib.Core.Bool.{Bool, true, false, not}
use mathlib.Core.List.{List}
use Prim.Native.Nat.{ℕ, ◌≤◌, ◌<◌}
use native.Mathlib.Omega.{arith}
use lib.Dec.{ltb}
use lib.ListN.{length}
use borrow.Author.Tests.{ltb-false, lt-ltb, le-ltb, not-false}
use Rattle.word.specs.Layout.{is_share_count, headed_max}
use Rattle.checks.specs.declared.answer.Answer.{Answer}
use Rattle.checks.specs.Answers.{refused, bad_at, given}
use Rattle.checks_run.specs.RunCheck.{has_head, first_bad_behind, run_checked}
use Rattle.checks.proofs.Passed.{passed}

-- the reader's count is a share count, the program is not too long and begins with the head for it, and no word behind that is bad
pub record Takes (n : ℕ) (P : List ℕ) : Type 0 where
  pub count : is_share_count n ≡ true
  pub short : length P ≤ headed_max
  pub head : has_head n P ≡ true
  pub good : length P ≤ first_bad_behind P

module _ (n : ℕ) (P : List ℕ) where
  -- where it passes, what comes next is the answer
  pub run_next : Takes n P → (y : Answer) → run_checked n P y ≡ y
  unfolding run_checked
  run_next t y = rw (t.count, le-ltb headed_max (length P) t.short, t.head, le-ltb (first_bad_behind P) (length P) t.good)

  -- an answer that is done: the check passes, and what comes next is done
  pub run_passes : (x : Answer) → (run_checked n P x).number ≡ 0 → Takes n P × (x.number ≡ 0)
  unfolding run_checked
  run_passes x z =
      let p₁ = passed (not (is_share_count n)) (refused 1) _ (λ h. omega arith) z in
      let p₂ = passed (ltb headed_max (length P)) (refused 2) _ (λ h. omega arith) p₁.1 in
      let p₈ = passed (not (has_head n P)) (refused 8) _ (λ h. omega arith) p₂.1 in
      let p₃ = passed (ltb (first_bad_behind P) (length P)) (bad_at (first_bad_behind P)) _ (λ h. omega arith) p₈.1 in (
        record {
          count = not-false (is_share_count n) p₁.0;
          short = ltb-false headed_max (length P) p₂.0;
          head = not-false (has_head n P) p₈.0;
          good = ltb-false (first_bad_behind P) (length P) p₃.0;
        },
        p₃.1,
      )

  -- by the four conditions
  abbrev by_four : Bool → Bool → Bool → Bool → Answer → Answer
  by_four p₁ p₂ p₈ p₃ x = given p₁ (refused 1) (given p₂ (refused 2) (given p₈ (refused 8) (given p₃ (bad_at (first_bad_behind P)) x)))

  -- where it does not pass, the answer is the same whatever comes next
  pub run_down : (x y : Answer) → x.number ≡ 0 → ((run_checked n P x).number ≡ 0 → ⊥) → run_checked n P x ≡ run_checked n P y
  unfolding run_checked
  run_down x y = by (not (is_share_count n)) (ltb headed_max (length P)) (not (has_head n P)) (ltb (first_bad_behind P) (length P))
    where
      by : (p₁ p₂ p₈ p₃ : Bool) → x.number ≡ 0 → ((by_four p₁ p₂ p₈ p₃ x).number ≡ 0 → ⊥) → by_four p₁ p₂ p₈ p₃ x ≡ by_four p₁ p₂ p₈ p₃ y
      by true p₂ p₈ p₃ z h = refl
      by false true p₈ p₃ z h = refl
      by false false true p₃ z h = refl
      by false false false true z h = refl
      by false false false false z h = absurd (h z)

  -- it counts nothing of its own
  pub run_counts : (x : Answer) → ((run_checked n P x).words ≤ x.words) × ((run_checked n P x).tape ≤ x.tape)
  unfolding run_checked
  run_counts x = by (not (is_share_count n)) (ltb headed_max (length P)) (not (has_head n P)) (ltb (first_bad_behind P) (length P))
    where
      by : (p₁ p₂ p₈ p₃ : Bool) → ((by_four p₁ p₂ p₈ p₃ x).words ≤ x.words) × ((by_four p₁ p₂ p₈ p₃ x).tape ≤ x.tape)
      by true p₂ p₈ p₃ = (omega arith, omega arith)
      by false true p₈ p₃ = (omega arith, omega arith)
      by false false true p₃ = (omega arith, omega arith)
      by false false false true = (omega arith, omega arith)
      by false false false false = (omega arith, omega arith)

  -- the answer to a program that is too long
  pub run_long : (x : Answer) → is_share_count n ≡ true → headed_max < length P → run_checked n P x ≡ refused 2
  unfolding run_checked
  run_long x c l = rw (c, lt-ltb headed_max (length P) l)
