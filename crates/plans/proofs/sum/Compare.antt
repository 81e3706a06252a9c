-- The sum's plan, the exponents compared: E_y + NOT E_x in the top places, and tests whether E_x and E_y are 0 beside it.
-- Rests on Ride, TopRun and Lanes.
use mathlib.Core.Path.{◌≡◌, refl, sym, ap, ap₂, ◌∙◌, subst}
use Prim.Native.Nat.{ℕ, ◌+◌, ◌-◌, ◌*◌, ◌%◌, ◌^◌, ◌<◌}
use native.Mathlib.Nat.{mul-mod_left}
use native.Mathlib.Omega.{arith}
use Rattle.bits.specs.Ops.{xor_w, not_w, shl_w}
use Rattle.bits.proofs.Digits.{bit}
use Rattle.bits.proofs.Sum.{xor_packed}
use Rattle.bits.proofs.Places.{shl_exact}
use Rattle.binary64.specs.Number.{expo}
use Rattle.plans.proofs.Fields.{low_bits}
use Rattle.plans.proofs.Shifts.{not_is, exponent_w, exponent, not_top}
use Rattle.plans.proofs.Lanes.{is_zero, and_down, zeros16, lane0, lane1}
use Rattle.plans.proofs.AddWithRun.{Words}
use Rattle.plans.proofs.TopRun.{Top, top_and, top_start, top_run, TopRuns, top_runs}
use Rattle.plans.proofs.sum.Run.{compare_lanes, compare_w, Riding, ride}
use Rattle.plans.proofs.sum.Ride.{rode}

-- NOT E_x in 16 bits
abbrev pub opposed : ℕ → ℕ
opposed x = (2 ^ 16 - 1) - expo x

-- ---- the operands in the top places
pub up_is : (y : ℕ) → shl_w (exponent_w y) 48 ≡ expo y * 2 ^ 48
up_is y = ap (λ (e : ℕ). shl_w e 48) (exponent y) ∙ shl_exact 11 48 (expo y) (omega arith) (omega arith)

pub opposed_is : (x : ℕ) → shl_w (not_w (exponent_w x)) 48 ≡ opposed x * 2 ^ 48
opposed_is x =
    ap (λ (e : ℕ). shl_w (not_w e) 48) (exponent x) ∙ not_top (expo x) (omega arith)

-- ---- the two exponents in lanes, inverted
module _ (x y : ℕ) where
  abbrev both : ℕ
  both = expo y * 2 ^ 16 + expo x

  lanes_are : compare_lanes x y ≡ (2 ^ 32 - 1) - both
  unfolding compare_lanes
  lanes_are =
      let e : xor_w (shl_w (exponent_w y) 16) (exponent_w x) ≡ both =
      ap₂ (λ (p q : ℕ). xor_w (shl_w p 16) q) (exponent y) (exponent x) ∙ ap (λ (p : ℕ). xor_w p (expo x)) (shl_exact 11 16 (expo y) (omega arith) (omega arith))
      ∙ xor_packed (expo y) 16 (expo x) (omega arith) in
      low_bits _ 32 32 refl ∙ ap (λ (p : ℕ). not_w p % 2 ^ 32) e ∙ ap (λ (p : ℕ). p % 2 ^ 32) (not_is both) ∙ low both (omega arith)
    where
      low : (p : ℕ) → p < 2 ^ 32 → ((2 ^ 64 - 1) - p) % 2 ^ 32 ≡ (2 ^ 32 - 1) - p
      low p h = omega arith

  lanes_lt : compare_lanes x y < 2 ^ 32
  lanes_lt = subst (λ (p : ℕ). p < 2 ^ 32) (sym lanes_are) (omega arith)

  -- they are zero tests of 64 bits, whose upper half is all ones
  abbrev tested : ℕ
  tested = (2 ^ 16 - 1) * 2 ^ 48 + ((2 ^ 16 - 1) * 2 ^ 32 + both)

  tested_is : compare_lanes x y ≡ not_w tested
  tested_is = lanes_are ∙ whole both (omega arith) ∙ sym (not_is tested)
    where
      whole : (p : ℕ) → p < 2 ^ 32 → (2 ^ 32 - 1) - p ≡ (2 ^ 64 - 1) - ((2 ^ 16 - 1) * 2 ^ 48 + ((2 ^ 16 - 1) * 2 ^ 32 + p))
      whole p h = omega arith

  abbrev start : Words
  start = top_start (expo y * 2 ^ 48) (opposed x * 2 ^ 48)

  start_top : Top start.G
  unfolding top_start
  start_top = top_and (expo y * 2 ^ 48) (opposed x * 2 ^ 48) (mul-mod_left (opposed x) (2 ^ 48))

  run_is : compare_w x y ≡ record { words = top_run start; lanes = zeros16 tested }
  unfolding compare_w zeros16
  run_is =
      ap₂ (λ (p q : ℕ). ride 8 (ride 4 (ride 2 (ride 1 (record { words = top_start p q; lanes = compare_lanes x y }))))) (up_is y) (opposed_is x)
      ∙ rode start (compare_lanes x y) start_top lanes_lt
      ∙ ap (λ (l : ℕ). record { words = top_run start; lanes = and_down 1 (and_down 2 (and_down 4 (and_down 8 l))) }) tested_is

  pub compared : TopRuns (expo y) (opposed x) (compare_w x y).words
  compared = subst (TopRuns (expo y) (opposed x)) (sym (ap (λ (r : Riding). r.words) run_is)) (top_runs (expo y) (opposed x) (omega arith) (omega arith))

  -- ---- the tests
  pub zero_x : bit (compare_w x y).lanes 0 ≡ is_zero (expo x)
  zero_x =
      ap (λ (r : Riding). bit r.lanes 0) run_is
      ∙ lane0 (expo x) (expo y) (2 ^ 16 - 1) (2 ^ 16 - 1) tested (omega arith) (omega arith) (omega arith) (omega arith) refl

  pub zero_y : bit (compare_w x y).lanes 16 ≡ is_zero (expo y)
  zero_y =
      ap (λ (r : Riding). bit r.lanes 16) run_is
      ∙ lane1 (expo x) (expo y) (2 ^ 16 - 1) (2 ^ 16 - 1) tested (omega arith) (omega arith) (omega arith) (omega arith) refl
