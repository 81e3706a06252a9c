-- What holds of the conversion: runs behind the head are the stored program's, and a translation's words give the translation.
-- Rests on masking's OneRun and Head, on checks' Checked, and on the counts of a translation.
use mathlib.Core.Path.{◌≡◌, refl, sym, ap, ap₂, ◌∙◌}
use mathlib.Core.Bool.{Bool, true, false, not, ◌||◌}
use mathlib.Core.List.{List, ◌∷◌, ◌++◌}
use Prim.Native.Nat.{ℕ, suc, ◌+◌, ◌-◌, ◌≤◌, ◌<◌}
use native.Mathlib.Decide.{dec_lt}
use native.Mathlib.Omega.{arith}
use lib.Dec.{ltb, eqb}
use lib.ListN.{length, take, drop}
use lib.Seq.{take_at}
use borrow.Author.Tests.{le-leb, lt-ltb, le-ltb, ltb-false}
use Rattle.word.specs.Encoding.{program_step}
use Rattle.word.specs.Layout.{is_share_count, program_max}
use Rattle.word.specs.Head.{head_word}
use Rattle.word.proofs.Small.{in_range}
use Rattle.checks.specs.declared.answer.Answer.{Answer}
use Rattle.checks.specs.Answers.{first_bad, done, refused, given, program_checked, kept_unless, after_call}
use Rattle.checks.proofs.Passed.{passed}
use Rattle.checks.proofs.Checked.{Passes, plan_check, program_check}
use Rattle.masking.specs.Translation.{program, headed}
use Rattle.masking.specs.Foretold.{Accepted}
use Rattle.masking.specs.Machine.{exec, rands}
use Rattle.masking.specs.Runs.{standing, due, told, run_rest, run_answer, run_cells}
use Rattle.masking.proofs.emitted.Counts.{plan_counts}
use Rattle.masking.proofs.OneRun.{Taken, good_taken, other_turned}
use Rattle.masking.proofs.Head.{head_exec, head_rands}
use Rattle.translation.specs.Calls.{plan_for, translate_answer, translate_out}
use Rattle.add_head.specs.Conversion.{add_head_answer, add_head_out}
use Rattle.add_head.specs.Converts.{headless_answer, headless_cells, Converted, Converts}

suc_ltb : (a b : ℕ) → ltb (suc a) (suc b) ≡ ltb a b
suc_ltb a b = by (dec_lt a b)
  where
    by : Dec (a < b) → ltb (suc a) (suc b) ≡ ltb a b
    by (yes h) = lt-ltb (suc a) (suc b) (omega arith) ∙ sym (lt-ltb a b h)
    by (no h) = le-ltb (suc a) (suc b) (omega arith) ∙ sym (le-ltb a b (omega arith))

-- ---- runs
module _ (n : ℕ) (stored : List ℕ) (least : 2 ≤ n) (most : n ≤ 8) (p : Passes program_max program_step stored) (tape cells : List ℕ) where
  abbrev P : List ℕ
  P = head_word n ∷ stored

  taken : Taken n P
  taken = good_taken n stored least most p.short p.good

  -- the headless run's check passes too
  headless : (place t b : ℕ) → headless_answer stored tape (standing cells place t) b ≡ run_rest stored tape (standing cells place t) b
  headless place t b = program_check.next stored p _

  -- the rest by its three conditions
  abbrev by_three : Bool → Bool → Bool → Answer → Answer
  by_three c₄ c₅ c₆ x = given c₄ (refused 4) (given c₅ (refused 5) (given c₆ (refused 6) x))

  rest_behind : (place t b : ℕ) → run_rest P tape (standing cells (suc place) t) b ≡ run_rest stored tape (standing cells place t) b
  rest_behind place t b =
      ap (λ (c : Bool). by_three (not (eqb (length cells) 512)) (c || ltb (length tape) t) (ltb (length tape - t) (rands (due stored place b))) (done (length (due stored place b)) (rands (due stored place b))))
      (suc_ltb (length stored) place)

  behind : (place t b : ℕ) → run_answer P tape (standing cells (suc place) t) (told n b) ≡ headless_answer stored tape (standing cells place t) b
  behind place t b = taken _ ∙ rest_behind place t b ∙ sym (headless place t b)

  behind_cells : (place t b : ℕ) → run_cells P tape (standing cells (suc place) t) (told n b) ≡ headless_cells stored tape (standing cells place t) b
  behind_cells place t b = ap (λ (a : Answer). after_call a (exec (due stored place b) (drop t tape) cells) cells) (behind place t b)

  module _ (t b : ℕ) where
    abbrev w : ℕ
    w = length (due stored 0 b)

    abbrev u : ℕ
    u = rands (due stored 0 b)

    abbrev rest_with : ℕ → Answer
    rest_with words = by_three (not (eqb (length cells) 512)) (ltb (length tape) t) (ltb (length tape - t) u) (done words u)

    without_head : headless_answer stored tape (standing cells 0 t) b ≡ rest_with w
    without_head =
        headless 0 t b
        ∙ ap (λ (c : Bool). by_three (not (eqb (length cells) 512)) (c || ltb (length tape) t) (ltb (length tape - t) u) (done w u)) (le-ltb (length stored) 0 (omega arith))

    with_head : run_answer P tape (standing cells 0 t) (told n (suc b)) ≡ rest_with (suc w)
    with_head =
        taken _
        ∙ ap₂ (λ (c : Bool) (u : ℕ). by_three (not (eqb (length cells) 512)) (c || ltb (length tape) t) (ltb (length tape - t) u) (done (suc w) u))
        (le-ltb (length P) 0 (omega arith)) (head_rands n most (due stored 0 b))

    with_done : (c₄ c₅ c₆ : Bool) → (by_three c₄ c₅ c₆ (done w u)).number ≡ 0
        → by_three c₄ c₅ c₆ (done (suc w) u) ≡ done (suc (by_three c₄ c₅ c₆ (done w u)).words) (by_three c₄ c₅ c₆ (done w u)).tape
    with_done true c₅ c₆ z = absurd (omega (arith, z))
    with_done false true c₆ z = absurd (omega (arith, z))
    with_done false false true z = absurd (omega (arith, z))
    with_done false false false z = refl

    with_down : (c₄ c₅ c₆ : Bool) → ((by_three c₄ c₅ c₆ (done w u)).number ≡ 0 → ⊥) → by_three c₄ c₅ c₆ (done (suc w) u) ≡ by_three c₄ c₅ c₆ (done w u)
    with_down true c₅ c₆ z = refl
    with_down false true c₆ z = refl
    with_down false false true z = refl
    with_down false false false z = absurd (z refl)

    with_cells : (c₄ c₅ c₆ : Bool) (l : List ℕ) → after_call (by_three c₄ c₅ c₆ (done (suc w) u)) l cells ≡ after_call (by_three c₄ c₅ c₆ (done w u)) l cells
    with_cells true c₅ c₆ l = refl
    with_cells false true c₆ l = refl
    with_cells false false true l = refl
    with_cells false false false l = refl

    whole : (headless_answer stored tape (standing cells 0 t) b).number ≡ 0
        → run_answer P tape (standing cells 0 t) (told n (suc b))
        ≡ done (suc (headless_answer stored tape (standing cells 0 t) b).words) (headless_answer stored tape (standing cells 0 t) b).tape
    whole z = with_head ∙ rw without_head (with_done (not (eqb (length cells) 512)) (ltb (length tape) t) (ltb (length tape - t) u) (rw without_head at z))

    whole_down : ((headless_answer stored tape (standing cells 0 t) b).number ≡ 0 → ⊥)
        → run_answer P tape (standing cells 0 t) (told n (suc b)) ≡ headless_answer stored tape (standing cells 0 t) b
    whole_down z = with_head ∙ with_down (not (eqb (length cells) 512)) (ltb (length tape) t) (ltb (length tape - t) u) (rw without_head at z) ∙ sym without_head

    whole_cells : run_cells P tape (standing cells 0 t) (told n (suc b)) ≡ headless_cells stored tape (standing cells 0 t) b
    whole_cells =
        ap₂ (λ (a : Answer) (l : List ℕ). after_call a l cells) with_head (head_exec n most (due stored 0 b) (drop t tape) cells)
        ∙ with_cells (not (eqb (length cells) 512)) (ltb (length tape) t) (ltb (length tape - t) u) (exec (due stored 0 b) (drop t tape) cells)
        ∙ ap (λ (a : Answer). after_call a (exec (due stored 0 b) (drop t tape) cells) cells) (sym without_head)

-- ---- a call that is done
module _ (n : ℕ) (stored out : List ℕ) (z : (add_head_answer n stored (length out)).number ≡ 0) where
  abbrev room_answer : Answer
  room_answer = given (ltb (length out) (1 + length stored)) (refused 4) (done (1 + length stored) (rands stored))

  p₁ : (not (is_share_count n) ≡ false) × ((program_checked stored room_answer).number ≡ 0)
  p₁ = passed (not (is_share_count n)) (refused 1) _ (λ h. omega arith) z

  p₂ : Passes program_max program_step stored × (room_answer.number ≡ 0)
  p₂ = program_check.passes stored _ p₁.1

  p₄ : (ltb (length out) (1 + length stored) ≡ false) × ((done (1 + length stored) (rands stored)).number ≡ 0)
  p₄ = passed (ltb (length out) (1 + length stored)) (refused 4) _ (λ h. omega arith) p₂.1

  counted : add_head_answer n stored (length out) ≡ done (1 + length stored) (rands stored)
  counted = rw p₁.0 (program_check.next stored p₂.0 _ ∙ rw p₄.0)

  converted : Converted n stored out
  converted =
      let r = in_range n p₁.0 in
      let whole_out : add_head_out n stored out ≡ (head_word n ∷ stored) ++ drop (1 + length stored) out =
      ap (λ (k : ℕ). kept_unless (eqb k 0) ((head_word n ∷ stored) ++ drop (1 + length stored) out) out) z in
      record {
        written =
            ap (λ (a : Answer). take a.words (add_head_out n stored out)) counted ∙ ap (take (1 + length stored)) whole_out
            ∙ take_at (head_word n ∷ stored) (drop (1 + length stored) out) (1 + length stored) (omega arith);
        runs = record {
          behind = λ tape cells. behind n stored r.0 r.1 p₂.0 tape cells;
          behind_cells = λ tape cells. behind_cells n stored r.0 r.1 p₂.0 tape cells;
          whole = λ tape cells. whole n stored r.0 r.1 p₂.0 tape cells;
          whole_down = λ tape cells. whole_down n stored r.0 r.1 p₂.0 tape cells;
          whole_cells = λ tape cells. whole_cells n stored r.0 r.1 p₂.0 tape cells;
          other = λ tape st run o. other_turned n stored r.0 r.1 p₂.0.short run.count o _;
        };
      }

-- ---- a translation's words
module _ (n : ℕ) (plan : List ℕ) (A : Accepted n plan) where
  abbrev Q : List ℕ
  Q = program n plan

  same_answer : (room : ℕ) → add_head_answer n Q room ≡ translate_answer n plan room
  unfolding plan_for
  same_answer room =
      let c = plan_counts n plan A in
      rw (le-leb 2 n A.least, le-leb n 8 A.most)
      (program_check.next Q (record { short = c.longest; good = c.good }) _
      ∙ ap₂ (λ (w u : ℕ). given (ltb room (1 + w)) (refused 4) (done (1 + w) u)) c.words c.tape
      ∙ sym (plan_check.next plan (record { short = A.short; good = A.good }) _))

  same_out : (out : List ℕ) → add_head_out n Q out ≡ translate_out n plan out
  same_out out =
      let e : 1 + length Q ≡ length (headed n plan) = omega arith in
      ap₂ (λ (a : Answer) (k : ℕ). after_call a (headed n plan ++ drop k out) out) (same_answer (length out)) e

takes : (n : ℕ) (stored : List ℕ) (room : ℕ) → 2 ≤ n → n ≤ 8 → length stored ≤ program_max → first_bad program_step stored ≡ length stored
    → 1 + length stored ≤ room → add_head_answer n stored room ≡ done (1 + length stored) (rands stored)
takes n stored room least most short good fits =
    rw (le-leb 2 n least, le-leb n 8 most)
    (program_check.next stored (record { short = short; good = good }) _ ∙ rw (le-ltb room (1 + length stored) fits))

pub converts : Converts
converts = record { takes = takes; done = converted; translation = λ n plan out A. (same_answer n plan A (length out), same_out n plan A out) }

-- where a call's answer is done: its count fits a byte, and there is room for the head
pub record Fits (n : ℕ) (stored out : List ℕ) : Type 0 where
  pub count : n ≤ 8
  pub room : length stored < length out

pub fits : (n : ℕ) (stored out : List ℕ) (words used : ℕ) → done words used ≡ add_head_answer n stored (length out) → Fits n stored out
fits n stored out words used e =
    let z : (add_head_answer n stored (length out)).number ≡ 0 = sym (ap (λ (x : Answer). x.number) e) in
    record {
      count = (in_range n (p₁ n stored out z).0).1;
      room = omega (arith, ltb-false (length out) (1 + length stored) (p₄ n stored out z).0);
    }
