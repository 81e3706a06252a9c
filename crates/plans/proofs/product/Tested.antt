-- The product's four tests in numbers, and what the last of them and the two top bits of U tell: whether U - 1024 is an exponent in range, or beyond.
-- Rests on End and Lanes; the facts of U are computed for each U.
use mathlib.Core.Path.{◌≡◌, refl, sym, ap, ap₂, ◌∙◌}
use mathlib.Core.Bool.{Bool, ◌&&◌}
use Prim.Native.Nat.{ℕ, ◌+◌, ◌-◌, ◌*◌, ◌/◌, ◌%◌, ◌^◌, ◌<◌, min}
use native.Mathlib.Nat.{div-one}
use native.Mathlib.Omega.{arith}
use lib.Dec.{T, eqb, eqb→eq}
use lib.Pow.{high}
use Rattle.bits.specs.Ops.{xor_w, shl_w, shr_w}
use Rattle.bits.proofs.Digits.{bit, bit_lt}
use Rattle.bits.proofs.Xor.{xor_comm}
use Rattle.bits.proofs.Sum.{xor_packed}
use Rattle.bits.proofs.Places.{shr_is}
use Rattle.word.proofs.Ranges.{both}
use Rattle.binary64.specs.Number.{expo}
use Rattle.plans.proofs.Fields.{pack}
use Rattle.plans.proofs.Shifts.{shl_keeps, exponent_w, exponent}
use Rattle.plans.proofs.Lanes.{is_zero, zeros16, zeros16_lt, lane0, lane1, lane2, lane3}
use Rattle.plans.proofs.Tests.{every, each}
use Rattle.plans.proofs.product.Operands.{expo_lt}
use Rattle.plans.proofs.product.End.{edge_w, lanes_w}
use Rattle.plans.proofs.product.Pairs.{high_of}

-- the bits of U ^ 1024 but the lowest, each with the one below it; whether they are all the same
abbrev edge_lane : ℕ → ℕ
edge_lane U = edge_w (xor_w U 1024) % 2 ^ 11 * 2 ^ 5

unfoldable pub edge_of : ℕ → ℕ
edge_of U = is_zero (edge_lane U)

pub edge_bit : (U : ℕ) → edge_of U < 2
unfolding edge_of
edge_bit U = omega arith

-- ---- in range, and beyond
unfoldable pub in_of : ℕ → ℕ
in_of U = ((U / 2048 + U / 1024 % 2) % 2 + edge_of U) % 2

pub in_bit : (U : ℕ) → in_of U < 2
unfolding in_of
in_bit U = bit_lt ((U / 2048 + U / 1024 % 2) % 2 + edge_of U)

unfoldable pub over_of : ℕ → ℕ
over_of U = (U / 2048 * (U / 1024 % 2) + edge_of U * (U / 2048)) % 2

pub over_bit : (U : ℕ) → over_of U < 2
unfolding over_of
over_bit U = bit_lt (U / 2048 * (U / 1024 % 2) + edge_of U * (U / 2048))

abbrev range_test : ℕ → Bool
range_test U = eqb (in_of U) (min (U - 1024) 1 - min (U - 3070) 1) && eqb (over_of U) (min (U - 3070) 1)

range_tested : T (every 4096 range_test)
unfolding in_of over_of edge_of edge_w xor_w shr_w
range_tested = tt

module _ (U : ℕ) (h_u : U < 4096) where
  tested_at : T (eqb (in_of U) (min (U - 1024) 1 - min (U - 3070) 1)) × T (eqb (over_of U) (min (U - 3070) 1))
  tested_at = both (eqb (in_of U) (min (U - 1024) 1 - min (U - 3070) 1)) (eqb (over_of U) (min (U - 3070) 1)) (each 4096 range_test range_tested U h_u)

  pub in_is : in_of U ≡ min (U - 1024) 1 - min (U - 3070) 1
  in_is = eqb→eq _ _ tested_at.0

  pub over_is : over_of U ≡ min (U - 3070) 1
  over_is = eqb→eq _ _ tested_at.1

-- ---- the lanes
-- the tests' answers: K = 0, E_x = 0, E_y = 0, and U is 1024 or 3071
pub record Tested (K x y U Z : ℕ) : Type 0 where
  pub Z_lt : Z < 2 ^ 64
  pub even : Z % 2 ≡ is_zero K
  pub left : bit Z 16 ≡ is_zero (expo x)
  pub right : bit Z 32 ≡ is_zero (expo y)
  pub edge : bit Z 48 ≡ edge_of U

lanes_are : (K x y U f : ℕ) → K < 2 ^ 16 → f < 2 ^ 52 → lanes_w K x y (high_of U f) ≡ edge_lane U * 2 ^ 48 + (expo y * 2 ^ 32 + (expo x * 2 ^ 16 + K))
unfolding lanes_w
lanes_are K x y U f h_k hf =
    let a = expo_lt x in
    let b = expo_lt y in
    let E = edge_w (xor_w U 1024) in
    let d : shr_w (high_of U f) 52 ≡ U = shr_is (high_of U f) 52 ∙ high U 52 hf in
    let e : shl_w (edge_w (xor_w (shr_w (high_of U f) 52) 1024)) 53 ≡ edge_lane U * 2 ^ 48 =
    ap (λ (z : ℕ). shl_w (edge_w (xor_w z 1024)) 53) d ∙ shl_keeps 11 53 E refl ∙ up (E % 2 ^ 11) in
    ap (xor_w (xor_w (xor_w K (shl_w (exponent_w x) 16)) (shl_w (exponent_w y) 32))) e
    ∙ ap₂ (λ (i j : ℕ). xor_w (xor_w (xor_w K (shl_w i 16)) (shl_w j 32)) (edge_lane U * 2 ^ 48)) (exponent x) (exponent y)
    ∙ ap (λ (z : ℕ). xor_w (xor_w z (shl_w (expo y) 32)) (edge_lane U * 2 ^ 48)) (pack 11 16 K (expo x) h_k a (omega arith))
    ∙ ap (λ (z : ℕ). xor_w z (edge_lane U * 2 ^ 48)) (pack 11 32 (expo x * 2 ^ 16 + K) (expo y) (omega arith) b (omega arith))
    ∙ xor_comm (expo y * 2 ^ 32 + (expo x * 2 ^ 16 + K)) (edge_lane U * 2 ^ 48)
    ∙ xor_packed (edge_lane U) 48 (expo y * 2 ^ 32 + (expo x * 2 ^ 16 + K)) (omega arith)
  where
    up : (a : ℕ) → a * 2 ^ 53 ≡ a * 2 ^ 5 * 2 ^ 48
    up a = omega arith

edge_lt : (E : ℕ) → E % 2 ^ 11 * 2 ^ 5 < 2 ^ 16
edge_lt E = omega arith

pub tested : (K x y U f : ℕ) → K < 2 ^ 16 → f < 2 ^ 52 → Tested K x y U (zeros16 (lanes_w K x y (high_of U f)))
unfolding edge_of
tested K x y U f h_k hf =
    let w = lanes_w K x y (high_of U f) in
    let E = expo x in
    let H = expo y in
    let h_e : E < 2 ^ 11 = expo_lt x in
    let h_h : H < 2 ^ 11 = expo_lt y in
    let h_d = edge_lt (edge_w (xor_w U 1024)) in
    let e = lanes_are K x y U f h_k hf in
    record {
      Z_lt = zeros16_lt w;
      even = ap (λ (z : ℕ). z % 2) (sym (div-one (zeros16 w))) ∙ lane0 K E H (edge_lane U) w h_k (omega arith) (omega arith) h_d e;
      left = lane1 K E H (edge_lane U) w h_k (omega arith) (omega arith) h_d e;
      right = lane2 K E H (edge_lane U) w h_k (omega arith) (omega arith) h_d e;
      edge = lane3 K E H (edge_lane U) w h_k (omega arith) (omega arith) h_d e;
    }
