-- The answer to an input by its cases. Assumes nothing.
use mathlib.Core.Path.{◌≡◌, refl}
use mathlib.Core.Bool.{Bool, true, false, not, ◌||◌}
use mathlib.Core.List.{List, [], ◌∷◌}
use Prim.Native.Nat.{ℕ, ◌-◌, ◌%◌, ◌≤◌, ◌<◌}
use native.Mathlib.Omega.{arith}
use lib.Dec.{ltb, eqb}
use lib.ListN.{length, get_or}
use borrow.Author.Tests.{lt-ltb, le-ltb, eq-eqb, ne_eqb}
use Rattle.checks.specs.declared.answer.Answer.{Answer}
use Rattle.word.specs.Layout.{is_share_count}
use Rattle.checks.specs.Answers.{refused, given}
use Rattle.translation.specs.Calls.{measure_answer}
use Rattle.listing_input.specs.Input.{list_answer, words_of, count_of, plan_read}

pub no_byte : (input : List ℕ) → length input ≡ 0 → list_answer input ≡ refused 1
unfolding list_answer
no_byte [] h = refl
no_byte (n ∷ rest) h = absurd (omega arith)

-- the turn-downs in number order, by their tests
module _ (n : ℕ) (rest : List ℕ) where
  abbrev by : Bool → Bool → Bool → Answer
  by p r s = given (not p) (refused 1) (given (r || not s) (refused 2) (measure_answer n (words_of rest)))

  cases : {p r s : Bool} → is_share_count n ≡ p → ltb 8192 (length rest) ≡ r → eqb (length rest % 4) 0 ≡ s → list_answer (n ∷ rest) ≡ by p r s
  unfolding list_answer
  cases e g h = rw (e, g, h)

pub bad_count : (input : List ℕ) → 0 < length input → is_share_count (get_or input 0 0) ≡ false → list_answer input ≡ refused 1
bad_count [] h a = absurd (omega arith)
bad_count (n ∷ rest) h a = cases n rest a refl refl

pub too_long : (input : List ℕ) → 0 < length input → is_share_count (get_or input 0 0) ≡ true → 8192 < length input - 1 → list_answer input ≡ refused 2
too_long [] h a l = absurd (omega arith)
too_long (n ∷ rest) h a l = cases n rest a (lt-ltb 8192 (length rest) (omega arith)) refl

pub broken : (input : List ℕ) → 0 < length input → is_share_count (get_or input 0 0) ≡ true → length input - 1 ≤ 8192 → ((length input - 1) % 4 ≡ 0 → ⊥)
    → list_answer input ≡ refused 2
broken [] h a l m = absurd (omega arith)
broken (n ∷ rest) h a l m =
    let e : length (n ∷ rest) - 1 ≡ length rest = omega arith in
    cases n rest a (le-ltb 8192 (length rest) (omega arith)) (ne_eqb (length rest % 4) 0 (rw e at m))

pub measured_then : (input : List ℕ) → 0 < length input → is_share_count (get_or input 0 0) ≡ true → length input - 1 ≤ 8192 → (length input - 1) % 4 ≡ 0
    → list_answer input ≡ measure_answer (get_or input 0 0) (plan_read input)
measured_then [] h a l m = absurd (omega arith)
measured_then (n ∷ rest) h a l m = cases n rest a (le-ltb 8192 (length rest) (omega arith)) (eq-eqb (length rest % 4) 0 (omega arith))

-- an input that is not turned down has a plan that Measure takes
pub taken : (input : List ℕ) → (list_answer input).number ≡ 0 → (measure_answer (count_of input) (plan_read input)).number ≡ 0
unfolding list_answer
taken [] h = absurd (omega arith)
taken (n ∷ rest) h = by_tests (not (is_share_count n)) (ltb 8192 (length rest) || not (eqb (length rest % 4) 0)) (measure_answer n (words_of rest)) h
  where
    by_tests : (p q : Bool) (x : Answer) → (given p (refused 1) (given q (refused 2) x)).number ≡ 0 → x.number ≡ 0
    by_tests true q x e = absurd (omega arith)
    by_tests false true x e = absurd (omega arith)
    by_tests false false x e = e
