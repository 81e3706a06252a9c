-- The factors of the product's AND of bits and what comes of them, in numbers: A W, A Y, whether no operand is a zero, whether U = 3071; from these the carry of rounding and the last bit.
-- Rests on Terms and Tested; the equations of bits are computed in all cases.
use mathlib.Core.Path.{◌≡◌, refl, ap, ap₂, ◌∙◌}
use Prim.Native.Nat.{ℕ, ◌+◌, ◌-◌, ◌*◌, ◌/◌, ◌%◌, ◌^◌, ◌<◌}
use native.Mathlib.Omega.{arith}
use Rattle.bits.specs.Ops.{xor_w, and_w, not_w, shl_w, shr_w}
use Rattle.bits.proofs.Places.{shr_is, bit_not}
use Rattle.binary64.specs.Number.{expo}
use Rattle.plans.proofs.Fields.{field}
use Rattle.plans.proofs.Shifts.{lowest, lowest_is, xor_parity}
use Rattle.plans.proofs.Lanes.{is_zero}
use Rattle.plans.proofs.SmallBits.{mul_bit, bit_up, bits4, four_bits, place0, place1, last2, bits4_lt, and_bits}
use Rattle.plans.proofs.BitCases.{by_bits, bits_lt}
use Rattle.plans.proofs.product.Ended.{carry_in, last_bit}
use Rattle.plans.proofs.product.End.{tests_w, terms_w, carry_w, last_w}
use Rattle.plans.proofs.product.Pairs.{low_of, high_of, top_bit_is}
use Rattle.plans.proofs.product.Terms.{Four, hb_lt, first_only, second_only}
use Rattle.plans.proofs.product.Tested.{Tested, edge_of, edge_bit}

-- ---- from the tests
pub tests_are : (K x y U Z : ℕ) → Tested K x y U Z → tests_w Z ≡ bits4 (is_zero K) (is_zero K) (1 - is_zero (expo x)) (edge_of U)
unfolding tests_w
tests_are K x y U Z t =
    let A : ℕ = is_zero K in
    let n : ℕ = 1 - is_zero (expo x) in
    let h_a : A < 2 = omega arith in
    let hn : n < 2 = omega arith in
    let a : lowest Z ≡ A = lowest_is Z ∙ t.even in
    let a2 : shl_w (lowest Z) 1 ≡ A * 2 = bit_up 1 (lowest Z) A (omega arith) h_a a in
    let c : shr_w (shl_w (not_w Z) 47) 63 ≡ n = field (not_w Z) 47 16 1 refl ∙ bit_not Z 16 t.Z_lt (omega arith) ∙ ap (λ (z : ℕ). 1 - z) t.left in
    let c4 : shl_w (shr_w (shl_w (not_w Z) 47) 63) 2 ≡ n * 4 = bit_up 2 (shr_w (shl_w (not_w Z) 47) 63) n (omega arith) hn c in
    let d : shr_w (shl_w Z 15) 63 ≡ edge_of U = field Z 15 48 1 refl ∙ t.edge in
    let d8 : shl_w (shr_w (shl_w Z 15) 63) 3 ≡ edge_of U * 8 = bit_up 3 (shr_w (shl_w Z 15) 63) (edge_of U) (omega arith) (edge_bit U) d in
    ap₂ xor_w (ap₂ xor_w (ap₂ xor_w a a2) c4) d8 ∙ four_bits A A n (edge_of U) h_a h_a hn (edge_bit U)

-- ---- from the bits of q
-- what A decides: W, by the bits b, l1, l0 and h
abbrev pub tie_of : ℕ → ℕ → ℕ → ℕ → ℕ
tie_of b l1 l0 h = b * (l0 * (1 - l1) * h) + (1 - b) * (l1 * (1 - l0))

-- what came of the second riders, and of the AND of the tests A, n and e with these, m and u
abbrev pub came_of : ℕ → ℕ → ℕ → ℕ → ℕ
came_of b l1 l0 h = bits4 (l0 * (1 - l1) * (h * b)) (l1 * (1 - l0) * b) 0 0

abbrev pub decided_of : ℕ → ℕ → ℕ → ℕ → ℕ → ℕ → ℕ → ℕ → ℕ → ℕ
decided_of b l1 l0 h A n m e u = bits4 (A * tie_of b l1 l0 h) (A * (l1 * (1 - l0))) (n * m) (e * u)

pub carry_lt : (b A l1 l0 h : ℕ) → b < 2 → A < 2 → l1 < 2 → l0 < 2 → h < 2 → carry_in b A l1 l0 h < 2
carry_lt = bits_lt carry_in tt

module _ (b l1 l0 h : ℕ) (four : Four b l1 l0 h) where
  pub tie_lt : tie_of b l1 l0 h < 2
  tie_lt = bits_lt (λ b l1 l0 h z. tie_of b l1 l0 h) tt b l1 l0 h 0 four.b_lt four.l1_lt four.l0_lt four.h_lt (omega arith)

  tie_is : xor_w (xor_w (l1 * (1 - l0) * b) (l1 * (1 - l0))) (l0 * (1 - l1) * (h * b)) ≡ tie_of b l1 l0 h
  unfolding xor_w
  tie_is =
      by_bits (λ b l1 l0 h z. xor_w (xor_w (l1 * (1 - l0) * b) (l1 * (1 - l0))) (l0 * (1 - l1) * (h * b))) (λ b l1 l0 h z. tie_of b l1 l0 h) tt b l1 l0 h 0
      four.b_lt four.l1_lt four.l0_lt four.h_lt (omega arith)

  abbrev Y : ℕ
  Y = l1 * (1 - l0)

  Y_lt : Y < 2
  Y_lt = first_only b l1 l0 h four

  abbrev came : ℕ
  came = came_of b l1 l0 h

  Yb_lt : Y * b < 2
  Yb_lt = mul_bit Y b Y_lt four.b_lt

  X_lt : l0 * (1 - l1) * (h * b) < 2
  X_lt = mul_bit (l0 * (1 - l1)) (h * b) (second_only b l1 l0 h four) (hb_lt b l1 l0 h four)

  pub came_lt : came < 16
  came_lt = bits4_lt (l0 * (1 - l1) * (h * b)) (Y * b) 0 0 X_lt Yb_lt (omega arith) (omega arith)

  came_low : lowest came ≡ l0 * (1 - l1) * (h * b)
  came_low = lowest_is came ∙ place0 (l0 * (1 - l1) * (h * b)) (Y * b) 0 0 X_lt Yb_lt (omega arith) (omega arith)

  came_high : shr_w came 1 ≡ Y * b
  came_high = shr_is came 1 ∙ last2 (l0 * (1 - l1) * (h * b)) (Y * b) 0 0 X_lt Yb_lt (omega arith) (omega arith)

  pub terms_are : (K x y U f Z : ℕ) → U < 4096 → f < 2 ^ 52 → Tested K x y U Z → terms_w came Y Z (high_of U f) ≡ bits4 (tie_of b l1 l0 h) Y (1 - is_zero (expo y)) (U / 2048)
  unfolding terms_w
  terms_are K x y U f Z h_u hf t =
      let n : ℕ = 1 - is_zero (expo y) in
      let hn : n < 2 = omega arith in
      let hu : U / 2048 < 2 = omega arith in
      let w : xor_w (xor_w (shr_w came 1) Y) (lowest came) ≡ tie_of b l1 l0 h =
      ap₂ (λ (i j : ℕ). xor_w (xor_w i Y) j) came_high came_low ∙ tie_is in
      let y2 : shl_w Y 1 ≡ Y * 2 = bit_up 1 Y Y (omega arith) Y_lt refl in
      let c : shr_w (shl_w (not_w Z) 31) 63 ≡ n = field (not_w Z) 31 32 1 refl ∙ bit_not Z 32 t.Z_lt (omega arith) ∙ ap (λ (z : ℕ). 1 - z) t.right in
      let c4 : shl_w (shr_w (shl_w (not_w Z) 31) 63) 2 ≡ n * 4 = bit_up 2 (shr_w (shl_w (not_w Z) 31) 63) n (omega arith) hn c in
      let d8 : shl_w (shr_w (high_of U f) 63) 3 ≡ U / 2048 * 8 = bit_up 3 (shr_w (high_of U f) 63) (U / 2048) (omega arith) hu (top_bit_is U f h_u hf) in
      ap₂ xor_w (ap₂ xor_w (ap₂ xor_w w y2) c4) d8 ∙ four_bits (tie_of b l1 l0 h) Y n (U / 2048) tie_lt Y_lt hn hu

  -- the AND of the two, and what is read off it
  module _ (A n m e u : ℕ) (h_a : A < 2) (hn : n < 2) (hm : m < 2) (he : e < 2) (hu : u < 2) where
    abbrev decided : ℕ
    decided = decided_of b l1 l0 h A n m e u

    pub decided_is : and_w (bits4 A A n e) (bits4 (tie_of b l1 l0 h) Y m u) ≡ decided
    decided_is = and_bits A A n e (tie_of b l1 l0 h) Y m u h_a h_a hn he tie_lt Y_lt hm hu

    tied_lt : A * tie_of b l1 l0 h < 2
    tied_lt = mul_bit A (tie_of b l1 l0 h) h_a tie_lt

    AY_lt : A * Y < 2
    AY_lt = mul_bit A Y h_a Y_lt

    nm_lt : n * m < 2
    nm_lt = mul_bit n m hn hm

    eu_lt : e * u < 2
    eu_lt = mul_bit e u he hu

    pub carry_odd : (r : ℕ) → r % 2 ≡ l1 * l0 → carry_w r came decided % 2 ≡ carry_in b A l1 l0 h
    unfolding carry_w
    carry_odd r hr =
        xor_parity (xor_w (lowest r) (shr_w came 1)) decided
        ∙ ap₂ (λ (i j : ℕ). (i + j) % 2) (xor_parity (lowest r) (shr_w came 1) ∙ ap₂ (λ (i j : ℕ). (i % 2 + j % 2) % 2) (lowest_is r) came_high)
        (place0 (A * tie_of b l1 l0 h) (A * Y) (n * m) (e * u) tied_lt AY_lt nm_lt eu_lt)
        ∙ ap (λ (z : ℕ). ((z + Y * b % 2) % 2 + A * tie_of b l1 l0 h) % 2) (twice r ∙ hr)
        ∙ by_bits (λ b A l1 l0 h. ((l1 * l0 + l1 * (1 - l0) * b % 2) % 2 + A * tie_of b l1 l0 h) % 2) carry_in tt b A l1 l0 h
        four.b_lt h_a four.l1_lt four.l0_lt four.h_lt
      where
        twice : (r : ℕ) → r % 2 % 2 ≡ r % 2
        twice r = omega arith

    pub last_is : (l : ℕ) → l < 2 ^ 53 → l / 2 ^ 52 ≡ l1 → l / 2 ^ 51 % 2 ≡ l0 → last_w decided (low_of l) ≡ last_bit A l1 l0
    unfolding last_w
    last_is l hl e1 e0 =
        let a : shr_w decided 1 % 2 ≡ A * Y =
        ap (λ (z : ℕ). z % 2) (shr_is decided 1) ∙ place1 (A * tie_of b l1 l0 h) (A * Y) (n * m) (e * u) tied_lt AY_lt nm_lt eu_lt in
        let c : shr_w (low_of l) 63 % 2 ≡ l1 = ap (λ (z : ℕ). z % 2) (shr_is (low_of l) 63) ∙ first l l1 hl four.l1_lt e1 in
        let d : shr_w (low_of l) 62 % 2 ≡ l0 = ap (λ (z : ℕ). z % 2) (shr_is (low_of l) 62 ∙ second l) ∙ e0 in
        lowest_is (xor_w (xor_w (shr_w decided 1) (shr_w (low_of l) 63)) (shr_w (low_of l) 62))
        ∙ xor_parity (xor_w (shr_w decided 1) (shr_w (low_of l) 63)) (shr_w (low_of l) 62)
        ∙ ap (λ (z : ℕ). (z + shr_w (low_of l) 62 % 2) % 2) (xor_parity (shr_w decided 1) (shr_w (low_of l) 63))
        ∙ ap₂ (λ (i j : ℕ). ((i + shr_w (low_of l) 63 % 2) % 2 + j) % 2) a d ∙ ap (λ (z : ℕ). ((A * Y + z) % 2 + l0) % 2) c ∙ turned (A * Y) l1 l0
      where
        first : (l a : ℕ) → l < 2 ^ 53 → a < 2 → l / 2 ^ 52 ≡ a → (l * 2 ^ 11 + 2 ^ 10) / 2 ^ 63 % 2 ≡ a
        first l a h k e = omega arith

        second : (l : ℕ) → (l * 2 ^ 11 + 2 ^ 10) / 2 ^ 62 ≡ l / 2 ^ 51
        second l = omega arith

        turned : (a b c : ℕ) → ((a + b) % 2 + c) % 2 ≡ (b + c + a) % 2
        turned a b c = omega arith
