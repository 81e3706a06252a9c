-- The record Counts of specs: the lengths and tape words that the documents give for each kind of plan word, the kinds and cells of the
-- share steps, and their sums over a plan. Lengths and tape words are computed at each share count of 2..8; the rest is Good's, Steps's and
-- Wiping's.
use mathlib.Core.Path.{◌≡◌, refl, ap, ap₂, ◌∙◌}
use mathlib.Core.List.{List, [], ◌∷◌, ◌++◌, map}
use Prim.Native.Nat.{ℕ, zero, suc, ◌+◌, ◌*◌, ◌≤◌}
use native.Mathlib.Omega.{arith}
use lib.Dec.{T}
use lib.ListN.{length, length-append, length-map}
use Rattle.word.specs.declared.step.Step.{Step}
use Rattle.word.specs.declared.step.Step.TheVariants.{Const, Xor, And, Not, Shl, Shr, Spread, Add, Rand}
use Rattle.word.specs.Encoding.{plan_step, program_step, kind_of, kind_number, in_plan, in_program, word_of}
use Rattle.word.specs.Layout.{length_of, tape_of, word_max}
use Rattle.checks.specs.Answers.{first_of, first_bad}
use Rattle.word.proofs.Together.{program_exact}
use Rattle.word.proofs.Small.{length_le}
use Rattle.masking.specs.Translation.{up_from, shares, share_cell, first_other, scratch, and_steps, and_block, blocks, adding, laid_out, translated, program}
use Rattle.masking.specs.Foretold.{Accepted, foretold_words, foretold_tape}
use Rattle.masking.specs.Machine.{takes, rands_of}
use Rattle.masking.specs.Counts.{StepCounts, PlanCounts, Counts}
use Rattle.masking.proofs.emitted.Tests.{All}
use Rattle.masking.proofs.emitted.Wiping.{scratch_count}
use Rattle.masking.proofs.emitted.Good.{translated_good, translated_used}
use Rattle.masking.proofs.emitted.Steps.{PlanWord, PlanWords, plan_words, steps_for, plan_steps, blocks_append, program_words, program_steps, plan_good}

-- a statement for each share count
pub by_count : (P : ℕ → Type 0) → P 2 → P 3 → P 4 → P 5 → P 6 → P 7 → P 8 → (n : ℕ) → 2 ≤ n → n ≤ 8 → P n
by_count P p₂ p₃ p₄ p₅ p₆ p₇ p₈ zero l m = absurd (omega arith)
by_count P p₂ p₃ p₄ p₅ p₆ p₇ p₈ (suc zero) l m = absurd (omega arith)
by_count P p₂ p₃ p₄ p₅ p₆ p₇ p₈ (suc (suc zero)) l m = p₂
by_count P p₂ p₃ p₄ p₅ p₆ p₇ p₈ (suc (suc (suc zero))) l m = p₃
by_count P p₂ p₃ p₄ p₅ p₆ p₇ p₈ (suc (suc (suc (suc zero)))) l m = p₄
by_count P p₂ p₃ p₄ p₅ p₆ p₇ p₈ (suc (suc (suc (suc (suc zero))))) l m = p₅
by_count P p₂ p₃ p₄ p₅ p₆ p₇ p₈ (suc (suc (suc (suc (suc (suc zero)))))) l m = p₆
by_count P p₂ p₃ p₄ p₅ p₆ p₇ p₈ (suc (suc (suc (suc (suc (suc (suc zero))))))) l m = p₇
by_count P p₂ p₃ p₄ p₅ p₆ p₇ p₈ (suc (suc (suc (suc (suc (suc (suc (suc zero)))))))) l m = p₈
by_count P p₂ p₃ p₄ p₅ p₆ p₇ p₈ (suc (suc (suc (suc (suc (suc (suc (suc (suc n))))))))) l m = absurd (omega arith)

-- a step laid out: its share words and its tape words
abbrev Foretold : Step → ℕ → Type 0
Foretold s n = (length (blocks scratch n (laid_out s)) ≡ length_of (kind_number s) n) × (rands_of (blocks scratch n (laid_out s)) ≡ tape_of (kind_number s) n)

and_foretold : (d a b n : ℕ) → 2 ≤ n → n ≤ 8 → Foretold (And d a b) n
unfolding and_steps and_block length_of tape_of
and_foretold d a b = by_count (Foretold (And d a b)) (refl, refl) (refl, refl) (refl, refl) (refl, refl) (refl, refl) (refl, refl) (refl, refl)

add_foretold : (d a b n : ℕ) → 2 ≤ n → n ≤ 8 → Foretold (Add d a b) n
unfolding adding and_steps and_block length_of tape_of
add_foretold d a b = by_count (Foretold (Add d a b)) (refl, refl) (refl, refl) (refl, refl) (refl, refl) (refl, refl) (refl, refl) (refl, refl)

-- the other kinds: once per share, no tape
module _ (f : ℕ → Step) (none : (i : ℕ) → takes (f i) ≡ 0) where
  each_words : (s c : ℕ) → length (map f (up_from s c) ++ []) ≡ c
  each_words s zero = refl
  each_words s (suc c) = ap suc (each_words (suc s) c)

  each_tape : (s c : ℕ) → rands_of (map f (up_from s c) ++ []) ≡ 0
  each_tape s zero = refl
  each_tape s (suc c) = omega (arith, none s, each_tape (suc s) c)

  each_foretold : (n : ℕ) → (length (map f (shares n) ++ []) ≡ n) × (rands_of (map f (shares n) ++ []) ≡ 0)
  each_foretold n = (each_words 0 n, each_tape 0 n)

foretold : (s : Step) → T (in_plan s) → (n : ℕ) → 2 ≤ n → n ≤ 8 → Foretold s n
unfolding length_of tape_of
foretold (Const d k) h n l m = each_foretold (λ i. first_other i (Const (share_cell i d) k) (Const (share_cell i d) 0)) none n
  where
    none : (i : ℕ) → takes (first_other i (Const (share_cell i d) k) (Const (share_cell i d) 0)) ≡ 0
    none zero = refl
    none (suc i) = refl
foretold (Xor d a b) h n l m = each_foretold _ (λ i. refl) n
foretold (And d a b) h n l m = and_foretold d a b n l m
foretold (Not d a) h n l m = each_foretold (λ i. first_other i (Not (share_cell i d) (share_cell i a)) (Shl (share_cell i d) (share_cell i a) 0)) none n
  where
    none : (i : ℕ) → takes (first_other i (Not (share_cell i d) (share_cell i a)) (Shl (share_cell i d) (share_cell i a) 0)) ≡ 0
    none zero = refl
    none (suc i) = refl
foretold (Shl d a b) h n l m = each_foretold _ (λ i. refl) n
foretold (Shr d a b) h n l m = each_foretold _ (λ i. refl) n
foretold (Spread d a) h n l m = each_foretold _ (λ i. refl) n
foretold (Add d a b) h n l m = add_foretold d a b n l m
foretold (Rand d) h n l m = absurd h

-- ---- one plan step
pub step_counts : (n : ℕ) → 2 ≤ n → n ≤ 8 → (s : Step) → T (in_plan s) → StepCounts n s
unfolding translated
step_counts n l m s h =
    record {
      words = (foretold s h n l m).0;
      tape = (foretold s h n l m).1;
      good = translated_good n m s h;
      cells = translated_used n m s h;
    }

-- ---- a plan
pub rands_append : (ss ts : List Step) → rands_of (ss ++ ts) ≡ rands_of ss + rands_of ts
rands_append [] ts = omega arith
rands_append (s ∷ ss) ts = omega (arith, rands_append ss ts)

module _ (n : ℕ) (least : 2 ≤ n) (most : n ≤ 8) where
  -- a plan word's share words and tape words
  word_foretold : (w : ℕ) → PlanWord w → (length (blocks scratch n (steps_for (plan_step w))) ≡ length_of (kind_of w) n) × (rands_of (blocks scratch n (steps_for (plan_step w))) ≡ tape_of (kind_of w) n)
  word_foretold w p = rw (p.apart, p.kind) (foretold p.step p.in_range n least most)

  pub plan_length : (plan : List ℕ) → PlanWords plan → length (blocks scratch n (plan_steps plan)) ≡ foretold_words n plan
  plan_length [] h = refl
  plan_length (w ∷ ws) h =
      ap length (blocks_append scratch n (steps_for (plan_step w)) (plan_steps ws))
      ∙ length-append (blocks scratch n (steps_for (plan_step w))) (blocks scratch n (plan_steps ws))
      ∙ ap₂ (λ (x y : ℕ). x + y) (word_foretold w h.0).0 (plan_length ws h.1)

  pub plan_tape : (plan : List ℕ) → PlanWords plan → rands_of (blocks scratch n (plan_steps plan)) ≡ foretold_tape n plan
  plan_tape [] h = refl
  plan_tape (w ∷ ws) h =
      ap rands_of (blocks_append scratch n (steps_for (plan_step w)) (plan_steps ws))
      ∙ rands_append (blocks scratch n (steps_for (plan_step w))) (blocks scratch n (plan_steps ws))
      ∙ ap₂ (λ (x y : ℕ). x + y) (word_foretold w h.0).1 (plan_tape ws h.1)

  longest : (plan : List ℕ) → foretold_words n plan ≤ word_max * length plan
  longest [] = omega arith
  longest (w ∷ ws) = omega (arith, length_le n most (kind_of w), longest ws)

-- words of steps of a share program hold no bad word
no_bad : (ss : List Step) → All (λ s. T (in_program s)) ss → first_bad program_step (map word_of ss) ≡ length (map word_of ss)
no_bad [] h = refl
no_bad (s ∷ ss) h = ap₂ first_of (program_exact.back s h.0).1 (no_bad ss h.1)

pub plan_counts : (n : ℕ) (plan : List ℕ) → Accepted n plan → PlanCounts n plan
plan_counts n plan A =
    record {
      words = words;
      tape = ap rands_of (program_steps n plan A) ∙ plan_tape n A.least A.most plan (plan_words plan A.good);
      good = rw (program_words n plan) (no_bad (blocks scratch n (plan_steps plan)) (plan_good n plan A));
      longest = omega (arith, words, longest n A.least A.most plan, A.short);
    }
  where
    words : length (program n plan) ≡ foretold_words n plan
    words =
        ap length (program_words n plan) ∙ length-map (blocks scratch n (plan_steps plan)) word_of
        ∙ plan_length n A.least A.most plan (plan_words plan A.good)

pub counts : Counts
unfolding length_of tape_of
counts = record {
  step = step_counts;
  plan = plan_counts;
  at_2 = (refl, refl, refl, refl);
  at_8 = (refl, refl, refl, refl);
  limit = refl;
  headed_limit = refl;
  scratch_count = scratch_count scratch;
}
