-- A plan word that is not bad, by its kind: its step, the ranges of its fields, and its share steps.
-- Rests on masking's Steps and Counts.
use Rattle.std.specs.Prelude.{Option, Some, None}
use mathlib.Core.Path.{◌≡◌, refl, sym, ap, ◌∙◌, subst}
use mathlib.Core.Bool.{Bool, true, false, not}
use mathlib.Core.List.{List, [], ◌∷◌, append-nil}
use Prim.Native.Nat.{ℕ, ◌+◌, ◌*◌, ◌≤◌, ◌<◌}
use lib.Dec.{T, eqb}
use Rattle.word.specs.declared.step.Step.{Step}
use Rattle.word.specs.declared.step.Step.TheVariants.{Const, Xor, And, Not, Shl, Shr, Spread, Add}
use Rattle.word.specs.Encoding.{kind_of, bit27, field_d, field_a, field_b, either, row, named, held, kind_number, number_fits, within, in_plan, plan_step}
use Rattle.word.specs.Table.{dest, reads, Each}
use Rattle.word.specs.Layout.{tape_of}
use Rattle.masking.specs.Translation.{block, blocks, laid_out, scratch, translated, words_for}
use Rattle.masking.specs.Machine.{rands_of, steps_of}
use Rattle.word.proofs.Ranges.{both, within_cells, within_number}
use Rattle.masking.proofs.emitted.Steps.{steps_of_words}
use Rattle.masking.proofs.emitted.Counts.{step_counts}
use Rattle.and_parts.specs.inner.Effects.{Enough, Ran, Still}
use Rattle.gates.specs.inner.PlanWords.{GoodPlanWord, IsGood}
use Rattle.and_parts.proofs.Running.{still_ran}

-- ---- a word and its step
pub record Word (w : ℕ) (s : Step) : Type 0 where
  pub apart : plan_step w ≡ Some s
  pub in_range : T (in_plan s)

-- its fields name registers, and its number fits
module _ {w : ℕ} {s : Step} (W : Word w s) where
  range : T (within 32 s)
  range = (both (not (eqb (kind_number s) 9)) (within 32 s) W.in_range).1

  pub registers : Each (λ r. r < 32) (dest s ∷ reads s)
  registers = within_cells 32 s range

  pub fits : T (number_fits s)
  fits = within_number 32 s range

by_row : (t q : Bool) (r : Option Step) (s : Step) → IsGood (held in_plan (either t r None)) → r ≡ either q (Some s) None → (held in_plan (either t r None) ≡ Some s) × T (in_plan s)
by_row false q r s h e = absurd h
by_row true false r s h e = absurd (subst (λ (d : Option Step). IsGood (held in_plan d)) e h)
by_row true true r s h e = let k = by (in_plan s) (subst (λ (d : Option Step). IsGood (held in_plan d)) e h) in (ap (held in_plan) e ∙ k.0, k.1)
  where
    by : (p : Bool) → IsGood (either p (Some s) None) → (either p (Some s) None ≡ Some s) × T p
    by true h = (refl, tt)
    by false h = absurd h

module _ (w : ℕ) (good : GoodPlanWord w) where
  abbrev d : ℕ
  d = field_d w

  abbrev a : ℕ
  a = field_a w

  abbrev b : ℕ
  b = field_b w

  word_is : (q : Bool) (s : Step) → row (kind_of w) d a b ≡ either q (Some s) None → Word w s
  unfolding named
  word_is q s e =
      let r = by_row (eqb (bit27 w) 0) q (row (kind_of w) d a b) s good e in
      record { apart = r.0; in_range = r.1 }

  pub is_const : kind_of w ≡ 1 → Word w (Const d (512 * a + b))
  unfolding row
  is_const e = word_is true _ (ap (λ (k : ℕ). row k d a b) e)

  pub is_xor : kind_of w ≡ 2 → Word w (Xor d a b)
  unfolding row
  is_xor e = word_is true _ (ap (λ (k : ℕ). row k d a b) e)

  pub is_and : kind_of w ≡ 3 → Word w (And d a b)
  unfolding row
  is_and e = word_is true _ (ap (λ (k : ℕ). row k d a b) e)

  pub is_not : kind_of w ≡ 4 → Word w (Not d a)
  unfolding row
  is_not e = word_is (eqb b 0) _ (ap (λ (k : ℕ). row k d a b) e)

  pub is_shl : kind_of w ≡ 5 → Word w (Shl d a b)
  unfolding row
  is_shl e = word_is true _ (ap (λ (k : ℕ). row k d a b) e)

  pub is_shr : kind_of w ≡ 6 → Word w (Shr d a b)
  unfolding row
  is_shr e = word_is true _ (ap (λ (k : ℕ). row k d a b) e)

  pub is_spread : kind_of w ≡ 7 → Word w (Spread d a)
  unfolding row
  is_spread e = word_is (eqb b 0) _ (ap (λ (k : ℕ). row k d a b) e)

  pub is_add : kind_of w ≡ 8 → Word w (Add d a b)
  unfolding row
  is_add e = word_is true _ (ap (λ (k : ℕ). row k d a b) e)

-- ---- its share steps
module _ {w : ℕ} {s : Step} (is : Word w s) (n : ℕ) (least : 2 ≤ n) (most : n ≤ 8) where
  word_steps : steps_of (words_for n (plan_step w)) ≡ blocks scratch n (laid_out s)
  unfolding translated
  word_steps = ap (λ (x : Option Step). steps_of (words_for n x)) is.apart ∙ steps_of_words (translated n s) (step_counts n least most s is.in_range).good

  pub word_enough : (tape : List ℕ) (t : ℕ) → Enough tape t (steps_of (words_for n (plan_step w))) → Enough tape t (blocks scratch n (laid_out s))
  word_enough tape t = subst (Enough tape t) word_steps

  pub word_ran : {tape c c' : List ℕ} {t t' : ℕ} → Ran (blocks scratch n (laid_out s)) tape t c c' t' → Ran (steps_of (words_for n (plan_step w))) tape t c c' t'
  word_ran {tape} {c} {c'} {t} {t'} = subst (λ (ss : List Step). Ran ss tape t c c' t') (sym word_steps)

  -- a step that is laid out as itself
  pub one_ran : laid_out s ≡ s ∷ [] → {tape c c' : List ℕ} {t t' : ℕ} → Ran (block scratch n s) tape t c c' t' → Ran (steps_of (words_for n (plan_step w))) tape t c c' t'
  one_ran e {tape} {c} {c'} {t} {t'} r = word_ran (subst (λ (ss : List Step). Ran ss tape t c c' t') (sym (append-nil (block scratch n s)) ∙ ap (blocks scratch n) (sym e)) r)

  -- and takes no tape word
  pub still_word : laid_out s ≡ s ∷ [] → tape_of (kind_number s) n ≡ 0 → (ss : List Step) → ss ≡ block scratch n s → {c c' : List ℕ} (tape : List ℕ) (t : ℕ)
      → Still ss c c' → Ran (steps_of (words_for n (plan_step w))) tape t c c' t
  unfolding translated
  still_word e z ss f {c} {c'} tape t h =
      one_ran e (still_ran tape t (ap rands_of (sym (append-nil (block scratch n s))) ∙ ap (λ (l : List Step). rands_of (blocks scratch n l)) (sym e) ∙ (step_counts n least most s is.in_range).tape ∙ z)
      (subst (λ (l : List Step). Still l c c') f h))
