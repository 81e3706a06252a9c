-- From words to steps: a plan's good words are its steps, and its share program's words take apart to the share steps laid out.
-- Rests on word's Together (parts put together and taken apart are themselves) and Good (every share step is one of a program).
use Rattle.std.specs.Prelude.{Option, Some, None}
use mathlib.Core.Path.{◌≡◌, refl, sym, ap, ap₂, ◌∙◌}
use mathlib.Core.Bool.{Bool, true}
use mathlib.Core.List.{List, [], ◌∷◌, ◌++◌, map, append_assoc}
use Prim.Native.Nat.{ℕ, zero, suc, ◌≤◌}
use native.Mathlib.Omega.{arith}
use lib.Dec.{T, eqb}
use lib.ListN.{length, take, length-take}
use borrow.Author.Tests.{eqb-true}
use Rattle.word.specs.declared.step.Step.{Step}
use Rattle.word.specs.Encoding.{kind_of, bit27, field_d, field_a, field_b, row, named, kind_number, within, in_plan, in_program, held, taken, plan_step, word_of}
use Rattle.checks.specs.Answers.{first_of, first_bad}
use Rattle.word.proofs.Ranges.{both}
use Rattle.word.proofs.Together.{pick, never, taken_rule, program_exact}
use Rattle.masking.specs.Translation.{Scratch, scratch, block, blocks, laid_out, translated, words_for, program}
use Rattle.masking.specs.Foretold.{Accepted}
use Rattle.masking.specs.Machine.{with_step, steps_of}
use Rattle.masking.specs.Counts.{all_of}
use Rattle.masking.proofs.emitted.Tests.{All, all_append, all_take, all_tested}
use Rattle.masking.proofs.emitted.Good.{blocks_good, laid_within}

-- ---- one word

-- the step's kind is that of the row
row_kind : (k d a b : ℕ) (s : Step) → row k d a b ≡ Some s → k ≡ kind_number s
unfolding row
row_kind k d a b s =
    pick (eqb k 1) _ _ s (λ t e. is 1 t _ e refl)
    (pick (eqb k 2) _ _ s (λ t e. is 2 t _ e refl)
    (pick (eqb k 3) _ _ s (λ t e. is 3 t _ e refl)
    (pick (eqb k 4) _ _ s (λ t. pick (eqb b 0) _ _ s (λ z e. is 4 t _ e refl) (never s))
    (pick (eqb k 5) _ _ s (λ t e. is 5 t _ e refl)
    (pick (eqb k 6) _ _ s (λ t e. is 6 t _ e refl)
    (pick (eqb k 7) _ _ s (λ t. pick (eqb b 0) _ _ s (λ z e. is 7 t _ e refl) (never s))
    (pick (eqb k 8) _ _ s (λ t e. is 8 t _ e refl)
    (pick (eqb k 9) _ _ s (λ t. pick (eqb a 0) _ _ s (λ y. pick (eqb b 0) _ _ s (λ z e. is 9 t _ e refl) (never s)) (never s))
    (never s)))))))))
  where
    same : (x : Step) → Some x ≡ Some s → x ≡ s
    same x e = cc

    is : (i : ℕ) → eqb k i ≡ true → (x : Step) → Some x ≡ Some s → kind_number x ≡ i → k ≡ kind_number s
    is i t x e h = eqb-true k i t ∙ sym h ∙ ap kind_number (same x e)

-- a word that takes apart by a rule: its kind is the step's, and the step is in the rule's range
held_good : (rule : Step → Bool) (d : Option Step) (s : Step) → held rule d ≡ Some s → (d ≡ Some s) × T (rule s)
held_good rule (Some x) s = pick (rule x) (Some x) None s (λ t e. (e, ok t e)) (never s)
  where
    ok : rule x ≡ true → Some x ≡ Some s → T (rule s)
    ok t e =
        let same : x ≡ s = cc in
        rw (← same, t) tt
held_good rule None s = never s

pub taken_kind : (rule : Step → Bool) (w : ℕ) (s : Step) → taken rule w ≡ Some s → kind_of w ≡ kind_number s
unfolding named
taken_kind rule w s h =
    pick (eqb (bit27 w) 0) (row (kind_of w) (field_d w) (field_a w) (field_b w)) None s (λ t. row_kind (kind_of w) (field_d w) (field_a w) (field_b w) s) (never s)
    (held_good rule (named w) s h).0

-- ---- a plan without a bad word

-- each of its words takes apart to a step of a plan
pub record PlanWord (w : ℕ) : Type 0 where
  pub step : Step
  pub apart : plan_step w ≡ Some step
  pub in_range : T (in_plan step)
  pub kind : kind_of w ≡ kind_number step

abbrev pub PlanWords : List ℕ → Type 0
PlanWords [] = Unit {0}
PlanWords (w ∷ ws) = PlanWord w × PlanWords ws

pub plan_words : (plan : List ℕ) → first_bad plan_step plan ≡ length plan → PlanWords plan
plan_words [] h = tt
plan_words (w ∷ ws) h = by (plan_step w) refl h (plan_words ws)
  where
    by : (d : Option Step) → plan_step w ≡ d → first_of d (first_bad plan_step ws) ≡ suc (length ws)
        → (first_bad plan_step ws ≡ length ws → PlanWords ws) → PlanWords (w ∷ ws)
    by (Some s) e h r = (record { step = s; apart = e; in_range = taken_rule in_plan w s e; kind = taken_kind in_plan w s e }, r (omega arith))
    by None e h r = absurd (omega arith)

pub words_plan : (plan : List ℕ) → PlanWords plan → first_bad plan_step plan ≡ length plan
words_plan [] h = refl
words_plan (w ∷ ws) h = ap (λ (d : Option Step). first_of d (first_bad plan_step ws)) h.0.apart ∙ ap suc (words_plan ws h.1)

take_words : (k : ℕ) (plan : List ℕ) → PlanWords plan → PlanWords (take k plan)
take_words zero plan h = tt
take_words (suc k) [] h = tt
take_words (suc k) (w ∷ ws) h = (h.0, take_words k ws h.1)

-- the first k words of an accepted plan
pub take_accepted : (n : ℕ) (plan : List ℕ) → Accepted n plan → (k : ℕ) → Accepted n (take k plan)
take_accepted n plan A k =
    record {
      least = A.least;
      most = A.most;
      short = omega (arith, length-take k plan, A.short);
      good = words_plan (take k plan) (take_words k plan (plan_words plan A.good));
    }

-- ---- a plan's steps on registers

abbrev pub steps_for : Option Step → List Step
steps_for (Some s) = laid_out s
steps_for None = []

abbrev pub plan_steps : List ℕ → List Step
plan_steps [] = []
plan_steps (w ∷ ws) = steps_for (plan_step w) ++ plan_steps ws

pub blocks_append : (c : Scratch) (n : ℕ) (ss ts : List Step) → blocks c n (ss ++ ts) ≡ blocks c n ss ++ blocks c n ts
blocks_append c n [] ts = refl
blocks_append c n (s ∷ ss) ts = ap (λ (r : List Step). block c n s ++ r) (blocks_append c n ss ts) ∙ sym (append_assoc (block c n s) (blocks c n ss) (blocks c n ts))

pub map_append : (ss ts : List Step) → map word_of (ss ++ ts) ≡ map word_of ss ++ map word_of ts
map_append [] ts = refl
map_append (s ∷ ss) ts = ap (λ (r : List ℕ). word_of s ∷ r) (map_append ss ts)

pub map_take : (m : ℕ) (ss : List Step) → take m (map word_of ss) ≡ map word_of (take m ss)
map_take zero ss = refl
map_take (suc m) [] = refl
map_take (suc m) (s ∷ ss) = ap (λ (r : List ℕ). word_of s ∷ r) (map_take m ss)

pub program_append : (n : ℕ) (plan rest : List ℕ) → program n (plan ++ rest) ≡ program n plan ++ program n rest
program_append n [] rest = refl
program_append n (w ∷ ws) rest =
    ap (λ (r : List ℕ). words_for n (plan_step w) ++ r) (program_append n ws rest) ∙ sym (append_assoc (words_for n (plan_step w)) (program n ws) (program n rest))

-- the share program's words are those of the share steps
words_for_is : (n : ℕ) (d : Option Step) → words_for n d ≡ map word_of (blocks scratch n (steps_for d))
unfolding translated
words_for_is n (Some s) = refl
words_for_is n None = refl

pub program_words : (n : ℕ) (plan : List ℕ) → program n plan ≡ map word_of (blocks scratch n (plan_steps plan))
program_words n [] = refl
program_words n (w ∷ ws) =
    ap₂ (λ (x y : List ℕ). x ++ y) (words_for_is n (plan_step w)) (program_words n ws)
    ∙ sym (map_append (blocks scratch n (steps_for (plan_step w))) (blocks scratch n (plan_steps ws)))
    ∙ ap (map word_of) (sym (blocks_append scratch n (steps_for (plan_step w)) (plan_steps ws)))

-- words of steps of a share program take apart to these steps
pub steps_of_words : (ss : List Step) → T (all_of in_program ss) → steps_of (map word_of ss) ≡ ss
steps_of_words [] h = refl
steps_of_words (s ∷ ss) h =
    let e = both (in_program s) (all_of in_program ss) h in
    ap₂ with_step (program_exact.back s e.0).1 (steps_of_words ss e.1)

-- and so do the first m of them
pub steps_of_first : (ss : List Step) → All (λ s. T (in_program s)) ss → (m : ℕ) → steps_of (take m (map word_of ss)) ≡ take m ss
steps_of_first ss good m =
    ap steps_of (map_take m ss) ∙ steps_of_words (take m ss) (all_tested in_program (take m ss) (all_take (λ s. T (in_program s)) m ss good))

-- ---- the steps of a plan without a bad word

steps_within : (plan : List ℕ) → PlanWords plan → All (λ s. T (within 40 s)) (plan_steps plan)
steps_within [] h = tt
steps_within (w ∷ ws) h =
    all_append (λ s. T (within 40 s)) (steps_for (plan_step w)) (plan_steps ws)
    (rw h.0.apart (laid_within h.0.step h.0.in_range)) (steps_within ws h.1)

module _ (n : ℕ) (most : n ≤ 8) (plan : List ℕ) (words : PlanWords plan) where
  -- its share steps are those of a share program
  pub words_good : All (λ s. T (in_program s)) (blocks scratch n (plan_steps plan))
  words_good = blocks_good n most (plan_steps plan) (steps_within plan words)

  -- the share steps of the first m words
  words_take : (m : ℕ) → steps_of (take m (program n plan)) ≡ take m (blocks scratch n (plan_steps plan))
  words_take m = ap (λ (r : List ℕ). steps_of (take m r)) (program_words n plan) ∙ steps_of_first (blocks scratch n (plan_steps plan)) words_good m

  pub words_steps : steps_of (program n plan) ≡ blocks scratch n (plan_steps plan)
  words_steps =
      ap steps_of (program_words n plan)
      ∙ steps_of_words (blocks scratch n (plan_steps plan)) (all_tested in_program (blocks scratch n (plan_steps plan)) words_good)

-- ---- an accepted plan

module _ (n : ℕ) (plan : List ℕ) (A : Accepted n plan) where
  -- its steps are on 40 registers
  pub plan_within : All (λ s. T (within 40 s)) (plan_steps plan)
  plan_within = steps_within plan (plan_words plan A.good)

  pub plan_good : All (λ s. T (in_program s)) (blocks scratch n (plan_steps plan))
  plan_good = words_good n A.most plan (plan_words plan A.good)

  pub take_steps : (m : ℕ) → steps_of (take m (program n plan)) ≡ take m (blocks scratch n (plan_steps plan))
  take_steps = words_take n A.most plan (plan_words plan A.good)

  pub program_steps : steps_of (program n plan) ≡ blocks scratch n (plan_steps plan)
  program_steps = words_steps n A.most plan (plan_words plan A.good)
