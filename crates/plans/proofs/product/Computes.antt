-- The product's plan computes the product, for all operands and whatever the other registers hold.
-- Rests on High (head and rows), Tail (the tail's words) and Last (the link with the definition).
use mathlib.Core.Path.{◌≡◌, refl, ap, ap₂, ◌∙◌}
use mathlib.Core.List.{List, ◌++◌}
use Prim.Native.Nat.{ℕ, ◌+◌, ◌%◌, ◌^◌, ◌<◌}
use native.Mathlib.Nat.{mod-lt}
use lib.Dec.{T}
use lib.ListN.{length, get_or}
use lib.Pow.{pow_pos}
use Rattle.binary64.specs.Product.{product}
use Rattle.plans.specs.Computes.{Computes}
use Rattle.plans.specs.words.Segments.{zero_tests}
use Rattle.plans.specs.words.CarryRun.{add_with_run, carry_step, paired_step}
use Rattle.plans.specs.words.ProductPlan.{product_head, carry_row, product_row, product_rows, with_exponents, last_rows, product_end, product_tail, product_steps, product_plan}
use Rattle.plans.specs.words.ProductPlan.{high_half, bit_factors, fold32, bit_factors_again, fold16, tests, bit_products, round_steps, ranges, normalise, choose}
use Rattle.plans.proofs.Registers.{run_steps, run_append}
use Rattle.plans.proofs.Modelled.{well_formed, steps_compute}
use Rattle.plans.proofs.product.High.{High, high_half_is}
use Rattle.plans.proofs.product.End.{end_w, end_run}
use Rattle.plans.proofs.product.Tail.{end_is}
use Rattle.plans.proofs.product.Last.{less_one, top_bit, top_bit_is, sum_high, ended_product}

product_well_formed : T (well_formed product_steps)
unfolding product_head carry_row product_row product_rows with_exponents last_rows product_end product_tail product_steps high_half add_with_run carry_step paired_step bit_factors fold32 bit_factors_again fold16 tests zero_tests
    bit_products round_steps ranges normalise choose
product_well_formed = tt

product_run : (cells : List ℕ) → length cells ≡ 32 → ((r : ℕ) → get_or cells r 0 < 2 ^ 64)
    → get_or (run_steps product_steps cells) 2 0 ≡ product (get_or cells 0 0) (get_or cells 1 0)
unfolding product_steps product_tail
product_run cells len words =
    let x = get_or cells 0 0 in
    let y = get_or cells 1 0 in
    let r₁ = run_steps product_head cells in
    let r₂ = run_steps (product_rows 52) r₁ in
    let r₃ = run_steps last_rows r₂ in
    let h : High x y r₃ = high_half_is x y cells len refl refl (words 0) (words 1) in
    let S = get_or r₃ 5 0 in
    let C = get_or r₃ 6 0 in
    let low = get_or r₃ 7 0 in
    ap (λ (c : List ℕ). get_or c 2 0)
    (run_append product_head (product_rows 52 ++ (last_rows ++ product_end)) cells
    ∙ run_append (product_rows 52) (last_rows ++ product_end) r₁ ∙ run_append last_rows product_end r₂)
    ∙ end_run r₃ h.len
    ∙ ap₂ (λ (i j : ℕ). end_w i j S C low (get_or r₃ 11 0)) h.hx h.hy
    ∙ ap (end_w x y S C low) h.one
    ∙ ended_product x y (S + C) h.total (end_w x y S C low 1)
    (end_is x y S C low (less_one x y % 2 ^ 53) (top_bit x y) (words 0) (words 1) h.S_lt h.C_lt (top_bit_is x y) (sum_high x y (S + C) h.total) (mod-lt (less_one x y) (pow_pos 53)) h.low)

-- what holds of the plan
pub product_plan_is : Computes product_plan product
unfolding product_plan
product_plan_is = steps_compute product_steps product product_well_formed product_run
