-- A linear plan word's share steps are `on_share` on each share, and a run's are its words share by share. Rests on gates' Words for a word's
-- share steps, and on Commute for the order of shares.
use Rattle.std.specs.Prelude.{Option, Some, None}
use mathlib.Core.Path.{◌≡◌, refl, sym, ap, ◌∙◌, subst}
use mathlib.Core.Bool.{Bool, true, false, cond, ◌&&◌}
use mathlib.Core.List.{List, [], ◌∷◌, map}
use Prim.Native.Nat.{ℕ, zero, suc, ◌+◌, ◌*◌, ◌/◌, ◌%◌, ◌^◌, ◌≤◌, ◌<◌}
use native.Mathlib.Omega.{arith}
use lib.Dec.{T, eqb, ltb→lt}
use lib.ListN.{drop}
use borrow.Author.Tests.{ne_eqb, eqb-true}
use Rattle.word.specs.declared.step.Step.{Step}
use Rattle.word.specs.declared.step.Step.TheVariants.{Const, Xor, Not, Shl, Shr, Spread}
use Rattle.word.specs.Encoding.{plan_step, kind_of, field_d, field_a, field_b, is_good}
use Rattle.word.specs.Layout.{tape_of}
use Rattle.word.proofs.Ranges.{both}
use Rattle.masking.specs.Translation.{shares, share_cell, first_other, words_for, program}
use Rattle.masking.specs.Machine.{takes, steps_of, exec_step, exec_steps}
use Rattle.masking.proofs.emitted.Places.{share_register}
use Rattle.masking.proofs.InARow.{steps_append}
use Rattle.compiled.specs.inner.OnShare.{linear_word, on_share, share_by_share}
use Rattle.compiled.specs.inner.Cut.{all_linear, linear_kind}
use Rattle.compiled.proofs.Commute.{on_shares, word_by_word, share_by_share_is}
use Rattle.and_parts.specs.inner.Effects.{Ran}
use Rattle.gates.specs.inner.PlanWords.{GoodPlanWord, IsGood}
use Rattle.and_parts.proofs.Running.{start, part, ran_as}
use Rattle.and_parts.proofs.Running as running
use Rattle.gates.proofs.Words.{registers, fits, is_const, is_xor, is_not, is_shl, is_shr, is_spread, still_word}

-- a step for each share that does what w does there
each_share : (w : ℕ) (f : ℕ → Step) → ((i : ℕ) → takes (f i) ≡ 0) → ((i : ℕ) (tape c : List ℕ) → exec_step (f i) tape c ≡ on_share i w c)
    → (is tape c : List ℕ) → on_shares is w c ≡ exec_steps (map f is) tape c
each_share w f none does [] tape c = refl
each_share w f none does (i ∷ is) tape c =
    each_share w f none does is (drop (takes (f i)) tape) (on_share i w c)
    ∙ ap (exec_steps (map f is) (drop (takes (f i)) tape)) (sym (does i tape c))

low : (x : ℕ) → x % 512 < 32 → x % 512 ≡ x % 32
low x h = omega arith

module _ (w : ℕ) where
  at_d : field_d w < 32 → (i : ℕ) → share_cell i (field_d w) ≡ 32 * i + w / 2 ^ 18 % 32
  at_d h i = share_register i (field_d w) h ∙ ap (λ (r : ℕ). 32 * i + r) (low (w / 2 ^ 18) h)

  at_a : field_a w < 32 → (i : ℕ) → share_cell i (field_a w) ≡ 32 * i + w / 2 ^ 9 % 32
  at_a h i = share_register i (field_a w) h ∙ ap (λ (r : ℕ). 32 * i + r) (low (w / 2 ^ 9) h)

  at_b : field_b w < 32 → (i : ℕ) → share_cell i (field_b w) ≡ 32 * i + w % 32
  at_b h i = share_register i (field_b w) h ∙ ap (λ (r : ℕ). 32 * i + r) (low w h)

  shift : field_b w < 64 → field_b w ≡ w % 64
  shift h = omega arith

  constant : 512 * field_a w + field_b w ≡ w % 2 ^ 18
  constant = omega arith

module _ (w : ℕ) (good : GoodPlanWord w) (n : ℕ) (least : 2 ≤ n) (most : n ≤ 8) (tape : List ℕ) (t : ℕ) (c : List ℕ) where
  abbrev Does : Type 0
  Does = Ran (steps_of (words_for n (plan_step w))) tape t c (on_shares (shares n) w c) t

  const_does : kind_of w ≡ 1 → Does
  unfolding tape_of exec_step on_share linear_word
  const_does k =
      let h = registers (is_const w good k) in
      still_word (is_const w good k) n least most refl refl _ refl tape t
      (λ tape. each_share w (λ i. first_other i (Const (share_cell i (field_d w)) (512 * field_a w + field_b w)) (Const (share_cell i (field_d w)) 0)) none (does h.0) (shares n) tape c)
    where
      none : (i : ℕ) → takes (first_other i (Const (share_cell i (field_d w)) (512 * field_a w + field_b w)) (Const (share_cell i (field_d w)) 0)) ≡ 0
      none zero = refl
      none (suc i) = refl

      does : field_d w < 32 → (i : ℕ) (tape c : List ℕ) → exec_step (first_other i (Const (share_cell i (field_d w)) (512 * field_a w + field_b w)) (Const (share_cell i (field_d w)) 0)) tape c ≡ on_share i w c
      does h zero tape c = rw (at_d w h zero, k, constant w)
      does h (suc i) tape c = rw (at_d w h (suc i), k, ne_eqb (suc i) 0 (λ e. omega arith))

  xor_does : kind_of w ≡ 2 → Does
  unfolding tape_of exec_step on_share linear_word
  xor_does k =
      let h = registers (is_xor w good k) in
      still_word (is_xor w good k) n least most refl refl _ refl tape t
      (λ tape. each_share w (λ i. Xor (share_cell i (field_d w)) (share_cell i (field_a w)) (share_cell i (field_b w))) (λ i. refl)
      (λ i tape c. rw (at_d w h.0 i, at_a w h.1.0 i, at_b w h.1.1.0 i, k)) (shares n) tape c)

  not_does : kind_of w ≡ 4 → Does
  unfolding tape_of exec_step on_share linear_word
  not_does k =
      let h = registers (is_not w good k) in
      still_word (is_not w good k) n least most refl refl _ refl tape t
      (λ tape. each_share w (λ i. first_other i (Not (share_cell i (field_d w)) (share_cell i (field_a w))) (Shl (share_cell i (field_d w)) (share_cell i (field_a w)) 0)) none (does h.0 h.1.0) (shares n) tape c)
    where
      none : (i : ℕ) → takes (first_other i (Not (share_cell i (field_d w)) (share_cell i (field_a w))) (Shl (share_cell i (field_d w)) (share_cell i (field_a w)) 0)) ≡ 0
      none zero = refl
      none (suc i) = refl

      does : field_d w < 32 → field_a w < 32 → (i : ℕ) (tape c : List ℕ) → exec_step (first_other i (Not (share_cell i (field_d w)) (share_cell i (field_a w))) (Shl (share_cell i (field_d w)) (share_cell i (field_a w)) 0)) tape c ≡ on_share i w c
      does h g zero tape c = rw (at_d w h zero, at_a w g zero, k)
      does h g (suc i) tape c = rw (at_d w h (suc i), at_a w g (suc i), k, ne_eqb (suc i) 0 (λ e. omega arith))

  shl_does : kind_of w ≡ 5 → Does
  unfolding tape_of exec_step on_share linear_word
  shl_does k =
      let h = registers (is_shl w good k) in
      still_word (is_shl w good k) n least most refl refl _ refl tape t
      (λ tape. each_share w (λ i. Shl (share_cell i (field_d w)) (share_cell i (field_a w)) (field_b w)) (λ i. refl)
      (λ i tape c. rw (at_d w h.0 i, at_a w h.1.0 i, shift w (ltb→lt (field_b w) 64 (fits (is_shl w good k))), k)) (shares n) tape c)

  shr_does : kind_of w ≡ 6 → Does
  unfolding tape_of exec_step on_share linear_word
  shr_does k =
      let h = registers (is_shr w good k) in
      still_word (is_shr w good k) n least most refl refl _ refl tape t
      (λ tape. each_share w (λ i. Shr (share_cell i (field_d w)) (share_cell i (field_a w)) (field_b w)) (λ i. refl)
      (λ i tape c. rw (at_d w h.0 i, at_a w h.1.0 i, shift w (ltb→lt (field_b w) 64 (fits (is_shr w good k))), k)) (shares n) tape c)

  spread_does : kind_of w ≡ 7 → Does
  unfolding tape_of exec_step on_share linear_word
  spread_does k =
      let h = registers (is_spread w good k) in
      still_word (is_spread w good k) n least most refl refl _ refl tape t
      (λ tape. each_share w (λ i. Spread (share_cell i (field_d w)) (share_cell i (field_a w))) (λ i. refl)
      (λ i tape c. rw (at_d w h.0 i, at_a w h.1.0 i, k)) (shares n) tape c)

-- ---- linear words
pub is_good_is : (d : Option Step) → T (is_good d) → IsGood d
is_good_is (Some s) h = tt
is_good_is None h = absurd h

pick : {R : Type 0} (b x : Bool) → T (cond b true x) → (b ≡ true → R) → (T x → R) → R
pick true x h f g = f refl
pick false x h f g = g h

true_of : (b : Bool) → T b → b ≡ true
true_of true h = refl
true_of false h = absurd h

module _ (n : ℕ) (least : 2 ≤ n) (most : n ≤ 8) (tape : List ℕ) (t : ℕ) where
  word_does : (w : ℕ) (c : List ℕ) → GoodPlanWord w → T (linear_kind (kind_of w)) → Ran (steps_of (words_for n (plan_step w))) tape t c (on_shares (shares n) w c) t
  word_does w c good h =
      pick (eqb (kind_of w) 1) _ h (λ e. const_does w good n least most tape t c (eqb-true _ 1 e)) (λ h.
      pick (eqb (kind_of w) 2) _ h (λ e. xor_does w good n least most tape t c (eqb-true _ 2 e)) (λ h.
      pick (eqb (kind_of w) 4) _ h (λ e. not_does w good n least most tape t c (eqb-true _ 4 e)) (λ h.
      pick (eqb (kind_of w) 5) _ h (λ e. shl_does w good n least most tape t c (eqb-true _ 5 e)) (λ h.
      pick (eqb (kind_of w) 6) _ h (λ e. shr_does w good n least most tape t c (eqb-true _ 6 e)) (λ h.
      spread_does w good n least most tape t c (eqb-true _ 7 (true_of (eqb (kind_of w) 7) h)))))))

  words_do : (ws c : List ℕ) → T (all_linear ws) → Ran (steps_of (program n ws)) tape t c (word_by_word (shares n) ws c) t
  words_do [] c h = record { cells = refl; place = omega arith }
  words_do (w ∷ ws) c h =
      let e = both (is_good (plan_step w) && linear_kind (kind_of w)) (all_linear ws) h in
      let f = both (is_good (plan_step w)) (linear_kind (kind_of w)) e.0 in
      let us = steps_of (words_for n (plan_step w)) in
      let ts = steps_of (program n ws) in
      ran_as (sym (steps_append (words_for n (plan_step w)) (program n ws)))
      (running.last ts (part us ts (start tape _ t c) (word_does w c (is_good_is (plan_step w) f.0) f.1)) (words_do ws (on_shares (shares n) w c) e.1))

  -- a run share by share
  pub run_does : (ws c : List ℕ) {c' : List ℕ} → T (all_linear ws) → c' ≡ share_by_share (shares n) ws c → Ran (steps_of (program n ws)) tape t c c' t
  run_does ws c {c'} h e =
      subst (λ (x : List ℕ). Ran (steps_of (program n ws)) tape t c x t) (share_by_share_is 0 n ws c ∙ sym e) (words_do ws c h)
