-- The sum's plan computes `sum`: from any 32 cells, register 2 holds the sum of the words in registers 0 and 1. Rests on Align (the operands in order) and Cases.
use mathlib.Core.Path.{◌≡◌, ap, ap₂, ◌∙◌}
use mathlib.Core.Logic.{inl, inr}
use Prim.Native.Nat.{ℕ, ◌^◌, ◌<◌}
use native.Mathlib.Omega.{arith}
use lib.Dec.{T}
use Rattle.bits.specs.Ops.{xor_w, not_w}
use Rattle.bits.proofs.Xor.{xor_comm}
use Rattle.binary64.specs.Number.{expo}
use Rattle.binary64.specs.Sum.{sum}
use Rattle.binary64.proofs.Cases.{lt_or_ge}
use Rattle.binary64.proofs.SumCases.{sum_comm}
use Rattle.plans.specs.Computes.{Computes}
use Rattle.plans.specs.words.SumPlan.{sum_steps, sum_plan}
use Rattle.plans.proofs.Modelled.{well_formed, plan_computes}
use Rattle.plans.proofs.sum.Run.{Riding, compare_w, first_w, near_w, Aligned, align_w, added_w, sum_model, sum_run}
use Rattle.plans.proofs.sum.Align.{ordered_yes, ordered_no}
use Rattle.plans.proofs.sum.Cases.{ordered_sum}

model_sum : (x y : ℕ) → x < 2 ^ 64 → y < 2 ^ 64 → sum_model x y ≡ sum x y
unfolding sum_model
model_sum x y hx hy =
    let c : Riding = compare_w x y in
    let f : ℕ = first_w c.words in
    let B : ℕ → Aligned = λ b. align_w b (near_w x y c.words) c.words.N c.lanes (not_w f) (xor_w x y) in
    elim (lt_or_ge (expo x) (expo y)) [
      | inl l ↦
          let o = ordered_no x y hx hy l in
          ap₂ (λ (a b : ℕ). added_w a (B b) (xor_w x y)) o.0 o.1 ∙ ap (added_w y (B x)) (xor_comm x y) ∙ ordered_sum y x (B x) hy hx (omega arith) o.2 ∙ sum_comm y x
      | inr l ↦
          let o = ordered_yes x y hx hy l in
          ap₂ (λ (a b : ℕ). added_w a (B b) (xor_w x y)) o.0 o.1 ∙ ordered_sum x y (B y) hx hy l o.2
    ]

sum_well_formed : T (well_formed sum_steps)
unfolding sum_steps
sum_well_formed = tt

-- what holds of the plan
pub sum_plan_is : Computes sum_plan sum
unfolding sum_plan
sum_plan_is = plan_computes sum_steps sum sum_well_formed (λ f words. sum_run f ∙ model_sum (f 0) (f 1) (words 0) (words 1))
