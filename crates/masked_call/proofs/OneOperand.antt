-- An operation with one operand: handed as many zeros as the operand has words, but eight at most, a call is the one with zeros for all of
-- them, since more than eight shares are turned down. Rests on word's Small and Acting's `Left`.
use mathlib.Core.Path.{◌≡◌, refl, sym, ap, subst, ◌∙◌}
use mathlib.Core.Bool.{Bool, true, false}
use mathlib.Core.List.{List}
use Prim.Native.Nat.{ℕ, min, ◌≤◌}
use lib.ListN.{length, take, replicate}
use Rattle.checks.specs.declared.answer.Answer.{Answer}
use Rattle.checks.specs.Answers.{refused, after_call}
use Rattle.word.specs.Layout.{is_share_count}
use Rattle.word.proofs.Small.{share_range}
use Rattle.masking.proofs.emitted.Counts.{by_count}
use Rattle.masked_call.specs.Shares.{answer_for, call_answer, zeros_for}
use Rattle.masked_call.proofs.Acting.{Left}

zeros_same : (n : ℕ) → 2 ≤ n → n ≤ 8 → take (min n 8) (replicate {A = ℕ} 8 0) ≡ replicate n 0
zeros_same = by_count (λ n. take (min n 8) (replicate {A = ℕ} 8 0) ≡ replicate n 0) refl refl refl refl refl refl refl

module _ (plan x result work tape : List ℕ) where
  -- what a call with second operand y leaves
  abbrev Given : List ℕ → Answer → List ℕ → List ℕ → Type 0
  Given y r res wrk = Left plan x y result work tape r res wrk

  down : is_share_count (length x) ≡ false → (y : List ℕ) → call_answer plan x y result work tape ≡ refused 1
  unfolding answer_for
  down f y = rw f

  unchanged : is_share_count (length x) ≡ false → (y after before : List ℕ) → after_call (call_answer plan x y result work tape) after before ≡ before
  unchanged f y after before = ap (λ (a : Answer). after_call a after before) (down f y)

  pub one_operand : {r : Answer} {res wrk : List ℕ} → Given (take (min (length x) 8) (replicate 8 0)) r res wrk → Given (zeros_for x) r res wrk
  one_operand {r} {res} {wrk} h = by (is_share_count (length x)) refl
    where
      some : List ℕ
      some = take (min (length x) 8) (replicate 8 0)

      by : (b : Bool) → is_share_count (length x) ≡ b → Given (zeros_for x) r res wrk
      by true e = let l = share_range (length x) e in subst (λ (y : List ℕ). Given y r res wrk) (zeros_same (length x) l.0 l.1) h
      by false e = (
        h.0 ∙ down e some ∙ sym (down e (zeros_for x)),
        (h.1.0 ∙ unchanged e some _ result ∙ sym (unchanged e (zeros_for x) _ result), h.1.1 ∙ unchanged e some _ work ∙ sym (unchanged e (zeros_for x) _ work)),
      )
