-- AND from its parts, for any number of shares: the copy, the refresh, the products of the same share, the cross products, the copy out and the wiping, done one
-- after the other. Rests on and_parts' Toward and Zeros.
use mathlib.Core.Path.{◌≡◌, refl, sym, ap, ◌∙◌}
use mathlib.Core.List.{List, [], ◌∷◌, ◌++◌, map, append_assoc}
use Prim.Native.Nat.{ℕ, ◌+◌, ◌≤◌}
use native.Mathlib.Omega.{arith}
use lib.ListN.{length, drop}
use lib.Seq.{drop-drop}
use Rattle.word.specs.declared.step.Step.{Step}
use Rattle.masking.specs.Translation.{pairs, shares, refresh, products, scratch, scratch_cells, wiping, and_steps, and_block}
use Rattle.masking.specs.Machine.{takes, exec_steps, rands_of}
use Rattle.masking.proofs.emitted.Counts.{rands_append}
use Rattle.masking.proofs.InARow.{exec_steps_append, exec_steps_size}
use Rattle.and_parts.specs.inner.Effects.{Enough, Nearly, NearlyStill, Ran, Still, Wholly, copy_in, copy_out, diagonal, first_half, second_half}
use Rattle.and_parts.proofs.Likeness.{itself}
use Rattle.and_parts.proofs.Running.{ran_as}
use Rattle.and_parts.proofs.Toward.{joined, still_near}
use Rattle.and_parts.proofs.Zeros.{wiping_zeroed, alike_wiped}

-- steps that take no tape words
none_taken : (f : ℕ → Step) → ((i : ℕ) → takes (f i) ≡ 0) → (is : List ℕ) → rands_of (map f is) ≡ 0
none_taken f none [] = refl
none_taken f none (i ∷ is) = omega (arith, none i, none_taken f none is)

pub ran_size : {ss : List Step} {tape c c' : List ℕ} {t t' : ℕ} → Ran ss tape t c c' t' → length c' ≡ length c
ran_size {ss} {tape} {c} {c'} {t} r = ap length r.cells ∙ exec_steps_size ss (drop t tape) c

wholly_ran : {ss : List Step} {tape c c' : List ℕ} {t t' : ℕ} → Wholly ss tape t c c' t' → Ran ss tape t c c' t'
wholly_ran {c = c} r = record { cells = r.cells c (itself c); place = r.place }

then_whole : {tape c c₁ c₂ : List ℕ} {t t₁ t₂ : ℕ} (us ts : List Step) → Nearly us tape t c c₁ t₁ → Wholly ts tape t₁ c₁ c₂ t₂ → Ran (us ++ ts) tape t c c₂ t₂
then_whole {tape} {c} {t = t} us ts r s =
    record {
      cells = s.cells (exec_steps us (drop t tape) c) (r.cells c (itself c))
          ∙ sym (
          exec_steps_append us ts (drop t tape) c
          ∙ ap (λ (rest : List ℕ). exec_steps ts rest (exec_steps us (drop t tape) c)) (drop-drop (rands_of us) t tape ∙ ap (λ (m : ℕ). drop m tape) (sym r.place))
          );
      place = omega (arith, r.place, s.place, rands_append us ts);
    }

regrouped : (a f d x w : List Step) → ((a ++ f) ++ d) ++ (x ++ w) ≡ (a ++ (f ++ (d ++ x))) ++ w
regrouped a f d x w =
    sym (append_assoc ((a ++ f) ++ d) x w) ∙ ap (λ (l : List Step). l ++ w) (append_assoc (a ++ f) d x ∙ append_assoc a f (d ++ x))

module _ (n : ℕ) (d a b : ℕ → ℕ) where
  abbrev fresh : List Step
  fresh = refresh scratch (pairs (shares n))

  abbrev crossed : List Step
  crossed = products scratch a (pairs (shares n))

  abbrev wiped : List Step
  wiped = wiping (scratch_cells scratch n)

  copied_in : rands_of (copy_in n b) ≡ 0
  copied_in = none_taken _ (λ i. refl) (shares n)

  squared : rands_of (diagonal n a) ≡ 0
  squared = none_taken _ (λ i. refl) (shares n)

  copied_out : rands_of (copy_out n d) ≡ 0
  copied_out = none_taken _ (λ i. refl) (shares n)

  none_wiped : rands_of wiped ≡ 0
  none_wiped = none_taken _ (λ i. refl) (scratch_cells scratch n)

  -- the tape words of a block
  and_words : rands_of (and_block scratch n d a b) ≡ rands_of fresh + rands_of crossed
  unfolding and_block and_steps
  and_words =
      omega (
        arith,
        rands_append (and_steps scratch n d a b) wiped,
        none_wiped,
        rands_append (copy_in n b) (fresh ++ (diagonal n a ++ (crossed ++ copy_out n d))),
        copied_in,
        rands_append fresh (diagonal n a ++ (crossed ++ copy_out n d)),
        rands_append (diagonal n a) (crossed ++ copy_out n d),
        squared,
        rands_append crossed (copy_out n d),
        copied_out,
      )

  module _ (tape : List ℕ) (t : ℕ) where
    pub fresh_enough : Enough tape t (and_block scratch n d a b) → Enough tape t fresh
    fresh_enough e = omega (arith, and_words)

    -- steps that are nearly done, and then the wiping
    pub then_wiped : {ss : List Step} {c c' c'' : List ℕ} {t' : ℕ} → Nearly ss tape t c c' t' → Still wiped c' c'' → Wholly (ss ++ wiped) tape t c c'' t'
    then_wiped {ss} {c} {c'} {c''} {t'} r h =
        let rest = drop (rands_of ss) (drop t tape) in
        record {
          cells = λ k e. h rest ∙ wiping_zeroed (scratch_cells scratch n) rest c' ∙ alike_wiped n (r.cells k e)
              ∙ sym (exec_steps_append ss wiped (drop t tape) k ∙ wiping_zeroed (scratch_cells scratch n) rest (exec_steps ss (drop t tape) k));
          place = omega (arith, r.place, rands_append ss wiped, none_wiped);
        }

    -- the first half
    pub first_done : {c c₁ c₂ : List ℕ} {t₁ : ℕ} → Nearly (copy_in n b ++ fresh) tape t c c₁ t₁ → NearlyStill (diagonal n a) c₁ c₂ → Nearly (first_half n a b) tape t c c₂ t₁
    first_done {t₁ = t₁} f s = joined (copy_in n b ++ fresh) (diagonal n a) f (still_near tape t₁ squared s)

    -- the second
    pub second_done : {c c₁ c₂ c₃ : List ℕ} {t₁ : ℕ} → Nearly crossed tape t c c₁ t₁ → NearlyStill (copy_out n d) c₁ c₂ → Still wiped c₂ c₃ → Wholly (second_half n d a) tape t c c₃ t₁
    second_done {t₁ = t₁} x o w = then_wiped (joined crossed (copy_out n d) x (still_near tape t₁ copied_out o)) w

    -- both
    pub halves_done : {c c₁ c₂ : List ℕ} {t₁ t₂ : ℕ} → Nearly (first_half n a b) tape t c c₁ t₁ → Wholly (second_half n d a) tape t₁ c₁ c₂ t₂ → Ran (and_block scratch n d a b) tape t c c₂ t₂
    unfolding and_block and_steps
    halves_done r s = ran_as (regrouped (copy_in n b) fresh (diagonal n a) (crossed ++ copy_out n d) wiped) (then_whole (first_half n a b) (second_half n d a) r s)

    pub second_enough : {c c₁ : List ℕ} {t₁ : ℕ} → Enough tape t (and_block scratch n d a b) → Nearly (first_half n a b) tape t c c₁ t₁ → Enough tape t₁ crossed
    second_enough e r = omega (arith, and_words, r.place, rands_append (copy_in n b ++ fresh) (diagonal n a), rands_append (copy_in n b) fresh, copied_in, squared)

    pub and_done : {c c₁ c₂ c₃ c₄ c₅ c₆ : List ℕ} {t₂ t₄ : ℕ} → NearlyStill (copy_in n b) c c₁ → Nearly fresh tape t c₁ c₂ t₂ → NearlyStill (diagonal n a) c₂ c₃
        → Nearly crossed tape t₂ c₃ c₄ t₄ → NearlyStill (copy_out n d) c₄ c₅ → Still wiped c₅ c₆ → Ran (and_block scratch n d a b) tape t c c₆ t₄
    unfolding and_block and_steps
    and_done {t₂ = t₂} {t₄ = t₄} i f s x o w =
        wholly_ran (then_wiped (joined (copy_in n b) _ (still_near tape t copied_in i)
        (joined fresh _ f (joined (diagonal n a) _ (still_near tape t₂ squared s) (joined crossed _ x (still_near tape t₄ copied_out o))))) w)

-- two shares take two words
pub two_words : (d a b : ℕ → ℕ) (tape : List ℕ) (t : ℕ) → Enough tape t (and_block scratch 2 d a b) → t + 2 ≤ length tape
two_words d a b tape t e = omega (arith, and_words 2 d a b)
