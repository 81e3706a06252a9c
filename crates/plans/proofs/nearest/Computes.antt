-- The built-in plan of nearest computes nearest: for every operand in register 0 and whatever the other registers hold, register 2 is the nearest whole number of
-- document 02, No. 1.
-- Rests on the decoder for the place and the masks, on Outside and Between for the steps after it, and on binary64's WholeModel for nearest on the word itself.
use mathlib.Core.Path.{◌≡◌, refl, sym, ap, ap₂, ◌∙◌}
use mathlib.Core.Logic.{inl, inr}
use Prim.Native.Nat.{ℕ, suc, ◌-◌, ◌*◌, ◌/◌, ◌^◌, ◌<◌}
use native.Mathlib.Nat.{add-zero, mul-one, div-one}
use native.Mathlib.Omega.{arith}
use lib.Dec.{T}
use lib.ListN.{get_or}
use Rattle.plain.specs.Machine.{stepped}
use Rattle.binary64.specs.Number.{sign, expo}
use Rattle.binary64.specs.Nearest.{nearest}
use Rattle.binary64.proofs.Cases.{lt_or_ge, if_eq, if_not_eq}
use Rattle.binary64.proofs.WholeModel.{nearest_large, nearest_small, nearest_half, nearest_between}
use Rattle.plans.specs.Computes.{Computes}
use Rattle.plans.specs.words.NearestPlan.{nearest_steps, nearest_plan}
use Rattle.plans.proofs.Registers.{run_steps, tab}
use Rattle.plans.proofs.Modelled.{well_formed, plan_computes}
use Rattle.plans.proofs.RunOfOnes.{stage_and, next_f, next_n, run_of, or_of}
use Rattle.plans.proofs.RoundUp.{one_of, raised_where, rounded_up}
use Rattle.plans.proofs.decoder.Words.{pattern5, pattern2, lit2, lit1, lit0, for_high, for_low, pair_a, pair_b, no_pair, tests_a, tests_b, top_tests}
use Rattle.plans.proofs.decoder.Decoded.{chosen_by, decoded_by, decoded_word, is_one, is_half, one_place_of, fold, mask_w, mask_u, decoded_of, below_of, decoded}
use Rattle.plans.proofs.nearest.Parts.{first_of, others_of, rounded_to}
use Rattle.plans.proofs.nearest.Outside.{none_first, half}
use Rattle.plans.proofs.nearest.Between.{between}

unfoldable pub nearest_model : ℕ → ℕ
nearest_model x = let p : ℕ = one_place_of (decoded_of x) in rounded_to x p (mask_w p) (below_of x) (is_half (decoded_of x))

modelled : (f : ℕ → ℕ) → get_or (run_steps nearest_steps (tab f 0 32)) 2 0 ≡ nearest_model (f 0)
unfolding nearest_steps stepped nearest_model rounded_to others_of first_of rounded_up raised_where one_of run_of or_of next_n next_f stage_and pattern5 pattern2 lit2 lit1 lit0 for_high for_low pair_a pair_b no_pair tests_a tests_b top_tests chosen_by decoded_by decoded_word is_one is_half one_place_of fold mask_w mask_u decoded_of below_of
modelled f = refl

nearest_well_formed : T (well_formed nearest_steps)
unfolding nearest_steps
nearest_well_formed = tt

-- ---- the ranges of E
module _ (x : ℕ) (hx : x < 2 ^ 64) where
  -- by what the decoder leaves
  left : (p W U h : ℕ) → one_place_of (decoded_of x) ≡ p → mask_w (one_place_of (decoded_of x)) ≡ W → below_of x ≡ U → is_half (decoded_of x) ≡ h → nearest_model x ≡ rounded_to x p W U h
  unfolding nearest_model
  left p W U h pe we ue he =
      ap₂ (λ (p W : ℕ). rounded_to x p W (below_of x) (is_half (decoded_of x))) pe we ∙ ap₂ (rounded_to x p W) ue he

  nearest_model_is : nearest_model x ≡ nearest x
  nearest_model_is =
      let d = decoded x hx in
      elim (lt_or_ge (expo x) 1022) [
        | inl l ↦
            let m = d.below (omega arith) in
            left 0 0 (2 ^ 63 - 1) 0 m.0 m.1 m.2 (d.half ∙ if_not_eq (expo x) 1022 1 0 (λ e. omega arith))
            ∙ none_first x 63 ∙ sym (nearest_small x l ∙ add-zero (sign x * 2 ^ 63))
        | inr g ↦ elim (lt_or_ge (expo x) 1023) [
          | inl l ↦
              let m = d.below l in
              let e : expo x ≡ 1022 = omega arith in
              left 0 0 (2 ^ 63 - 1) 1 m.0 m.1 m.2 (d.half ∙ if_eq (expo x) 1022 1 0 e) ∙ half x hx ∙ sym (nearest_half x e)
          | inr g₁ ↦ elim (lt_or_ge (expo x) 1075) [
            | inl l ↦
                let m = d.between g₁ l in
                let j : ℕ = 1074 - expo x in
                let k : 1075 - expo x ≡ suc j = omega arith in
                left (2 ^ j) (2 ^ suc j - 1) 0 0 m.0 (m.1 ∙ ap (λ (v : ℕ). 2 ^ v - 1) k) m.2 (d.half ∙ if_not_eq (expo x) 1022 1 0 (λ e. omega arith))
                ∙ between x j hx (omega arith) (omega arith) ∙ sym (nearest_between x j g₁ l refl)
            | inr g₂ ↦
                let m = d.large g₂ in
                left 0 0 0 0 m.0 m.1 m.2 (d.half ∙ if_not_eq (expo x) 1022 1 0 (λ e. omega arith))
                ∙ none_first x 0 ∙ mul-one (x / 1) ∙ div-one x ∙ sym (nearest_large x g₂)
          ]
        ]
      ]

-- what holds of the plan
pub nearest_plan_is : Computes nearest_plan (λ a b. nearest a)
unfolding nearest_plan
nearest_plan_is = plan_computes nearest_steps (λ a b. nearest a) nearest_well_formed (λ f words. modelled f ∙ nearest_model_is (f 0) (words 0))
