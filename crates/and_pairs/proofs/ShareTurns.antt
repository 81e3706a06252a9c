-- A turn of AND's loops over shares, up to what t and u hold: what is left to do of a step per share, and the copies' and products' steps.
-- Rests on masking's Rising, bits' Shift and Likeness.
use mathlib.Core.Path.{◌≡◌, sym, ap, ap₂, ◌∙◌, subst}
use mathlib.Core.List.{List, map}
use Prim.Native.Nat.{ℕ, ◌+◌, ◌-◌, ◌^◌, ◌≤◌, ◌<◌}
use lib.ListN.{get_or, set, drop}
use Rattle.bits.specs.Ops.{and_w, shl_w}
use Rattle.bits.proofs.Shift.{shl_zero}
use Rattle.word.specs.declared.step.Step.{Step}
use Rattle.word.specs.declared.step.Step.TheVariants.{And, Shl}
use Rattle.masking.specs.Translation.{shares, up_from}
use Rattle.masking.specs.Machine.{takes, exec_step, exec_steps}
use Rattle.masking.proofs.emitted.Rising.{rising, risen, from_first}
use Rattle.and_parts.specs.inner.Effects.{Alike, NearlyStill}
use Rattle.and_parts.proofs.Likeness.{Other, alike_as, same_get, same_set}

-- for a step of each share on `before` it is enough to do those from share i on, on `cells`
abbrev pub Rest : (ℕ → Step) → ℕ → ℕ → List ℕ → List ℕ → Type 0
Rest f n i before cells = (after : List ℕ) → NearlyStill (map f (up_from i (n - i))) cells after → NearlyStill (map f (shares n)) before after

module _ (f : ℕ → Step) (n : ℕ) where
  pub rest_start : (c : List ℕ) → Rest f n 0 c c
  rest_start c after h = subst (λ (is : List ℕ). NearlyStill (map f is) c after) (sym (from_first n)) h

  pub rest_turn : (i : ℕ) → i < n → takes (f i) ≡ 0 → (before c c' : List ℕ) → ((tape k : List ℕ) → Alike c k → Alike c' (exec_step (f i) tape k)) → Rest f n i before c → Rest f n (i + 1) before c'
  rest_turn i h none before c c' one l after g =
      l after (λ tape k e. alike_as (g tape (exec_step (f i) tape k) (one tape k e))
      (sym (
      ap (λ (is : List ℕ). exec_steps (map f is) tape k) (rising i n h)
      ∙ ap (λ (m : ℕ). exec_steps (map f (up_from (i + 1) (n - (i + 1)))) (drop m tape) (exec_step (f i) tape k)) none
      )))

  pub rest_end : (i : ℕ) → n ≤ i → (before c : List ℕ) → Rest f n i before c → NearlyStill (map f (shares n)) before c
  rest_end i h before c l = l c (λ tape k e. alike_as e (sym (ap (λ (is : List ℕ). exec_steps (map f is) tape k) (risen i n h))))

-- ---- one step
module _ (c : List ℕ) (d x : ℕ) (od : Other d) (ox : Other x) where
  -- a copy is SHL 0
  pub copy_alike : get_or c x 0 < 2 ^ 64 → (tape k : List ℕ) → Alike c k → Alike (set c d (get_or c x 0)) (exec_step (Shl d x 0) tape k)
  unfolding exec_step
  copy_alike w tape k e =
      same_set e d od (sym (shl_zero (get_or c x 0) w) ∙ ap (λ (v : ℕ). shl_w v 0) (same_get e x ox))

  pub and_alike : (y : ℕ) → Other y → (tape k : List ℕ) → Alike c k → Alike (set c d (and_w (get_or c x 0) (get_or c y 0))) (exec_step (And d x y) tape k)
  unfolding exec_step
  and_alike y oy tape k e = same_set e d od (ap₂ and_w (same_get e x ox) (same_get e y oy))
