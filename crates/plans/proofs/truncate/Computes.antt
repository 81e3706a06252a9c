-- The built-in plan of truncation computes truncation: for every operand in register 0 and whatever the other registers hold, register 2 is the truncation of
-- document 02, No. 1.
-- Rests on the decoder for the masks, and on binary64's WholeModel for truncation on the word itself.
use mathlib.Core.Path.{◌≡◌, refl, sym, ap, ap₂, ◌∙◌}
use mathlib.Core.Logic.{inl, inr}
use Prim.Native.Nat.{ℕ, ◌-◌, ◌*◌, ◌/◌, ◌^◌, ◌≤◌, ◌<◌}
use native.Mathlib.Nat.{add-zero, mul-one, div-one}
use native.Mathlib.Omega.{arith}
use lib.Dec.{T}
use lib.ListN.{get_or}
use Rattle.bits.specs.Ops.{xor_w, and_w, not_w}
use Rattle.bits.proofs.Xor.{xor_zero, xor_zero_l}
use Rattle.plain.specs.Machine.{stepped}
use Rattle.binary64.specs.Number.{sign, expo}
use Rattle.binary64.specs.Truncate.{truncate}
use Rattle.binary64.proofs.Cases.{lt_or_ge}
use Rattle.binary64.proofs.WholeModel.{truncate_large, truncate_small, truncate_between}
use Rattle.plans.specs.Computes.{Computes}
use Rattle.plans.specs.words.TruncatePlan.{truncate_steps, truncate_plan}
use Rattle.plans.proofs.Registers.{run_steps, tab}
use Rattle.plans.proofs.Modelled.{well_formed, plan_computes}
use Rattle.plans.proofs.Fields.{clear_low}
use Rattle.plans.proofs.decoder.Words.{pattern5, pattern2, lit2, lit1, lit0, for_high, for_low, pair_a, pair_b, no_pair, tests_a, tests_b, top_tests}
use Rattle.plans.proofs.decoder.Decoded.{chosen_by, decoded_by, decoded_word, is_one, one_place_of, fold, mask_w, mask_u, decoded_of, below_of, decoded}

-- the operand without the bits of two masks
abbrev dropped : ℕ → ℕ → ℕ → ℕ
dropped x W U = and_w x (not_w (xor_w W U))

unfoldable pub truncate_model : ℕ → ℕ
truncate_model x = dropped x (mask_w (one_place_of (decoded_of x))) (below_of x)

modelled : (f : ℕ → ℕ) → get_or (run_steps truncate_steps (tab f 0 32)) 2 0 ≡ truncate_model (f 0)
unfolding truncate_steps stepped truncate_model pattern5 pattern2 lit2 lit1 lit0 for_high for_low pair_a pair_b no_pair tests_a tests_b top_tests chosen_by decoded_by decoded_word is_one one_place_of fold mask_w mask_u decoded_of below_of
modelled f = refl

truncate_well_formed : T (well_formed truncate_steps)
unfolding truncate_steps
truncate_well_formed = tt

-- ---- the ranges of E
module _ (x : ℕ) (hx : x < 2 ^ 64) where
  -- the k low bits dropped
  low_dropped : (k : ℕ) → k ≤ 64 → (W U : ℕ) → xor_w W U ≡ 2 ^ k - 1 → dropped x W U ≡ x / 2 ^ k * 2 ^ k
  low_dropped k h W U e = ap (λ (m : ℕ). and_w x (not_w m)) e ∙ clear_low x k hx h

  truncate_model_is : truncate_model x ≡ truncate x
  unfolding truncate_model
  truncate_model_is =
      let W : ℕ = mask_w (one_place_of (decoded_of x)) in
      let U : ℕ = below_of x in
      let d = decoded x hx in
      elim (lt_or_ge (expo x) 1023) [
        | inl l ↦
            let m = d.below l in
            low_dropped 63 (omega arith) W U (ap₂ xor_w m.1 m.2 ∙ xor_zero_l (2 ^ 63 - 1)) ∙ sym (truncate_small x l ∙ add-zero (sign x * 2 ^ 63))
        | inr g ↦ elim (lt_or_ge (expo x) 1075) [
          | inl l ↦
              let m = d.between g l in
              low_dropped (1075 - expo x) (omega arith) W U (ap₂ xor_w m.1 m.2 ∙ xor_zero (2 ^ (1075 - expo x) - 1)) ∙ sym (truncate_between x g l)
          | inr g₁ ↦
              let m = d.large g₁ in
              low_dropped 0 (omega arith) W U (ap₂ xor_w m.1 m.2 ∙ xor_zero 0) ∙ mul-one (x / 1) ∙ div-one x ∙ sym (truncate_large x g₁)
        ]
      ]

-- what holds of the plan
pub truncate_plan_is : Computes truncate_plan (λ a b. truncate a)
unfolding truncate_plan
truncate_plan_is = plan_computes truncate_steps (λ a b. truncate a) truncate_well_formed (λ f words. modelled f ∙ truncate_model_is (f 0) (words 0))
