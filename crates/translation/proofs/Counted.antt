-- The sums over a plan's words (Measure), and what the answers say of the plan. Rests on word's Small and on checks' Passed and Checked.
use mathlib.Core.Path.{◌≡◌, refl, sym, ap, subst, ◌∙◌}
use mathlib.Core.Bool.{Bool, true, false, not, cond}
use mathlib.Core.List.{List, ◌∷◌}
use Prim.Native.Nat.{ℕ, ◌+◌, ◌-◌, ◌*◌, ◌≤◌, ◌<◌}
use native.Mathlib.Nat.{mul-one, mul-suc, mul-le-mul_left}
use native.Mathlib.Numerals.{add-one}
use native.Mathlib.Omega.{arith}
use lib.Dec.{ltb, eqb}
use lib.ListN.{length, drop, get_or}
use lib.Seq.{drop-cons}
use borrow.Author.Tests.{ltb-false, ne_eqb}
use Rattle.checks.specs.declared.answer.Answer.{Answer}
use Rattle.checks.specs.declared.refusal.Refusal.{Refusal}
use Rattle.checks.specs.declared.refusal.Refusal.TheVariants.{ShareCount, TooLong, BadWord, Length, Place, Tape, Layer, Head}
use Rattle.word.specs.Encoding.{plan_step, kind_of}
use Rattle.word.specs.Layout.{length_of, tape_of, and_length, add_length, plan_max, word_max, is_share_count}
use Rattle.checks.specs.Answers.{refused, given, plan_checked, refusal_of}
use Rattle.checks.proofs.Passed.{passed}
use Rattle.checks.proofs.Checked.{Passes, plan_check}
use Rattle.word.proofs.Small.{in_range, length_le, tape_le}
use Rattle.masking.specs.Foretold.{Accepted, foretold_words, foretold_tape}
use Rattle.translation.specs.Calls.{plan_for, measured, translate_answer}

-- ---- sums

module _ (n : ℕ) (least : 1 ≤ n) (most : n ≤ 8) where
  -- no word gives fewer share words than there are shares
  pub least_length : (k : ℕ) → n ≤ length_of k n
  unfolding length_of
  least_length k = by (eqb k 3) (eqb k 8) (mul-le-mul_left n least)
    where
      by : (p q : Bool) → n * 1 ≤ n * n → n ≤ cond p (and_length n) (cond q (add_length n) n)
      by true q h = omega (arith, h, mul-one n)
      by false true h = omega (arith, h, mul-one n)
      by false false h = omega arith

  -- words of other kinds give just these, and take no tape
  pub plain_length : (k : ℕ) → (k ≡ 3 → ⊥) → (k ≡ 8 → ⊥) → (length_of k n ≡ n) × (tape_of k n ≡ 0)
  unfolding length_of tape_of
  plain_length k h g = (rw (ne_eqb k 3 h, ne_eqb k 8 g), rw (ne_eqb k 3 h, ne_eqb k 8 g))

-- what the head and the first i words count, where a share word for each share is counted for every word of the plan, and what is left
pub record Summed (n : ℕ) (plan : List ℕ) (words tape i : ℕ) : Type 0 where
  pub words_left : words + foretold_words n (drop i plan) ≡ 1 + foretold_words n plan + n * length (drop i plan)
  pub tape_left : tape + foretold_tape n (drop i plan) ≡ foretold_tape n plan
  pub words_small : words ≤ 1 + n * length plan + word_max * i
  pub tape_small : tape ≤ 768 * i

pub summed : (n : ℕ) (plan : List ℕ) → Summed n plan (1 + n * length plan) 0 0
summed n plan = record { words_left = omega arith; tape_left = omega arith; words_small = omega arith; tape_small = omega arith }

module _ (n : ℕ) (least : 1 ≤ n) (most : n ≤ 8) (plan : List ℕ) {words tape : ℕ} (i : ℕ) (s : Summed n plan words tape i) (l : i < length plan) where
  summed_on : (k : ℕ) → k ≡ kind_of (get_or plan i 0) → Summed n plan (words + (length_of k n - n)) (tape + tape_of k n) (i + 1)
  summed_on k e =
      let w = get_or plan i 0 in
      let d : drop i plan ≡ w ∷ drop (i + 1) plan = drop-cons plan i 0 l ∙ ap (λ (k : ℕ). w ∷ drop k plan) (sym (add-one i)) in
      let f = ap (foretold_words n) d ∙ ap (λ (k : ℕ). length_of k n + foretold_words n (drop (i + 1) plan)) (sym e) in
      let g = ap (foretold_tape n) d ∙ ap (λ (k : ℕ). tape_of k n + foretold_tape n (drop (i + 1) plan)) (sym e) in
      let h = ap (λ (r : List ℕ). n * length r) d ∙ mul-suc n (length (drop (i + 1) plan)) in
      record {
        words_left = omega (arith, s.words_left, f, h, least_length n least most k);
        tape_left = omega (arith, s.tape_left, g);
        words_small = omega (arith, s.words_small, length_le n most k);
        tape_small = omega (arith, s.tape_small, tape_le n most k);
      }

  -- with the sums by any name; and for a word of another kind
  pub summed_as : (k words' tape' : ℕ) → k ≡ kind_of (get_or plan i 0) → words' ≡ words + (length_of k n - n) → tape' ≡ tape + tape_of k n → Summed n plan words' tape' (i + 1)
  summed_as k words' tape' e a b =
      subst (λ (x : ℕ). Summed n plan x tape' (i + 1)) (sym a) (subst (λ (x : ℕ). Summed n plan (words + (length_of k n - n)) x (i + 1)) (sym b) (summed_on k e))

  pub summed_plain : (k words' tape' : ℕ) → k ≡ kind_of (get_or plan i 0) → (k ≡ 3 → ⊥) → (k ≡ 8 → ⊥) → words' ≡ words → tape' ≡ tape → Summed n plan words' tape' (i + 1)
  summed_plain k words' tape' e h g a b =
      let p = plain_length n least most k h g in
      summed_as k words' tape' e (omega (arith, a, p.0)) (omega (arith, b, p.1))

-- ---- answers

-- a refusal is not done
refused_number : (e : Refusal) → (refusal_of e).number ≡ 0 → ⊥
refused_number ShareCount h = absurd (omega (arith, h))
refused_number TooLong h = absurd (omega (arith, h))
refused_number (BadWord place) h = absurd (omega (arith, h))
refused_number Length h = absurd (omega (arith, h))
refused_number Place h = absurd (omega (arith, h))
refused_number Tape h = absurd (omega (arith, h))
refused_number Layer h = absurd (omega (arith, h))
refused_number Head h = absurd (omega (arith, h))

module _ (n : ℕ) (plan : List ℕ) (x : Answer) where
  -- a plan that is turned down is so whatever comes next
  pub turned_down : (y : Answer) → x.number ≡ 0 → ((plan_for n plan x).number ≡ 0 → ⊥) → plan_for n plan x ≡ plan_for n plan y
  unfolding plan_for
  turned_down y = by (not (is_share_count n))
    where
      by : (p : Bool) → x.number ≡ 0 → ((given p (refused 1) (plan_checked plan x)).number ≡ 0 → ⊥)
          → given p (refused 1) (plan_checked plan x) ≡ given p (refused 1) (plan_checked plan y)
      by true z h = refl
      by false z h = plan_check.down plan x y z h

  pub refused_still : (y : Answer) (e : Refusal) → x.number ≡ 0 → refusal_of e ≡ plan_for n plan x → refusal_of e ≡ plan_for n plan y
  refused_still y e z h = h ∙ turned_down y z (λ w. refused_number e (ap (λ (a : Answer). a.number) h ∙ w))

  module _ (h : (plan_for n plan x).number ≡ 0) where
    passes : (not (is_share_count n) ≡ false) × Passes plan_max plan_step plan
    unfolding plan_for
    passes =
        let p = passed (not (is_share_count n)) (refused 1) (plan_checked plan x) (λ e. omega arith) h in
        (p.0, (plan_check.passes plan x p.1).0)

    -- one that is not is accepted, and what comes next is the answer
    pub next_answer : (y : Answer) → plan_for n plan y ≡ y
    unfolding plan_for
    next_answer y = rw passes.0 (plan_check.next plan passes.1 y)

    pub accepted : Accepted n plan
    accepted =
        record {
          least = (in_range n passes.0).0;
          most = (in_range n passes.0).1;
          short = passes.1.short;
          good = passes.1.good;
        }

-- the output is as long as measured
pub enough : (n : ℕ) (plan : List ℕ) (room : ℕ) → (translate_answer n plan room).number ≡ 0 → 1 + foretold_words n plan ≤ room
enough n plan room h = ltb-false _ _ (by (ltb room (1 + foretold_words n plan)) (sym (ap (λ (a : Answer). a.number) (next_answer n plan _ h _)) ∙ h))
  where
    by : (p : Bool) → (given p (refused 4) (measured n plan)).number ≡ 0 → p ≡ false
    by true e = absurd (omega arith)
    by false e = refl
