-- The product's segments after the high half, put together: from R = U · 2^52 + f, its carries and its run, and from low = l · 2^11 + 2^10, to the choice (Chosen) of the rounded word.
-- Rests on Pairs, Folds, Terms, Tested, Products, Rounded and Chosen.
use mathlib.Core.Path.{◌≡◌, refl, ap, ap₂, ◌∙◌}
use Prim.Native.Nat.{ℕ, ◌+◌, ◌-◌, ◌*◌, ◌/◌, ◌%◌, ◌^◌, ◌<◌, min}
use native.Mathlib.Omega.{arith}
use lib.Pow.{high}
use Rattle.bits.specs.Ops.{xor_w, and_w, not_w, shl_w, shr_w}
use Rattle.bits.proofs.Digits.{digit, bit_lt}
use Rattle.bits.proofs.Bound.{and_lt, not_lt}
use Rattle.bits.proofs.Places.{shr_is}
use Rattle.binary64.specs.Number.{expo}
use Rattle.plans.proofs.Lanes.{is_zero, and_down, zeros16}
use Rattle.plans.proofs.Or16.{down32_lt, or16, or16_lt}
use Rattle.plans.proofs.SmallBits.{bits4, mul_bit, bits4_lt, place0}
use Rattle.plans.proofs.product.Ended.{carry_in, last_bit, first_bit, second_bit, carry_of, last_of, both_nonzero}
use Rattle.plans.proofs.product.End.{parity_w, first_w, second_w, inverted_w, fold32_w, fold16_w, only_w, only_both_w, top_both_w, lanes_w, tests_w, terms_w}
use Rattle.plans.proofs.product.End.{carry_w, last_w, rounded_w, range_w, nonzero_w, change_w, chosen_w, signed_w, finished_w, closing_w, tested_w, paired_w, after_w}
use Rattle.plans.proofs.product.Pairs.{low_of, high_of, first_is, second_is}
use Rattle.plans.proofs.product.Folds.{fold32_is, fold16_is, folded_is, rest_zero}
use Rattle.plans.proofs.product.Terms.{Four, both_lt, hb_lt, first_only, second_only, riders_first, only_first, only_both, top_both, riders_second}
use Rattle.plans.proofs.product.Tested.{Tested, tested, edge_of, edge_bit, in_of, over_of, in_bit}
use Rattle.plans.proofs.product.Products.{tie_of, came_of, decided_of, tests_are, terms_are, decided_is, tie_lt, came_lt, carry_odd, last_is}
use Rattle.plans.proofs.product.Rounded.{changed, rounded_is, range_is, nonzero_is}
use Rattle.plans.proofs.product.Chosen.{finished_is}

-- the rounded word, with its fraction moved up where p is 1, chosen by i and o
abbrev pub left_of : ℕ → ℕ → ℕ → ℕ → ℕ → ℕ
left_of W d p i o = chosen_w (xor_w W (changed W d % 2 ^ 52 * p)) 1 (bits4 i o 0 0)

-- P is the parity word, g the carry out of R
module _ (x y U f l b g G N P : ℕ) (h_u : U < 4096) (hf : f < 2 ^ 52) (hl : l < 2 ^ 53) (hb : b < 2) (hg : g < 2) (eg : G / 2 ^ 63 ≡ g) (h_p : P < 2 ^ 64) (e_p : P % 2 ≡ 1 - b)
    (plus : xor_w (high_of U f) (not_w (shl_w N 1)) ≡ (high_of U f + 1) % 2 ^ 64) where
  abbrev R : ℕ
  R = high_of U f

  abbrev l1 : ℕ
  l1 = first_bit l

  abbrev l0 : ℕ
  l0 = second_bit l

  abbrev h : ℕ
  h = f % 2

  abbrev u1 : ℕ
  u1 = U / 2048

  abbrev u0 : ℕ
  u0 = U / 1024 % 2

  abbrev n : ℕ
  n = 1 - is_zero (expo x)

  abbrev m : ℕ
  m = 1 - is_zero (expo y)

  -- what comes of it all, with the test A and the two operands' test k
  abbrev done_w : ℕ → ℕ → ℕ
  done_w A k = signed_w x y (left_of ((R + carry_in b A l1 l0 h) % 2 ^ 64) (last_bit A l1 l0) (1 - b) (in_of U * k) ((over_of U + g) % 2 * k))

  abbrev r : ℕ
  r = bits4 (l1 * l0) (h * b) (u1 * u0) 0

  abbrev Y : ℕ
  Y = l1 * (1 - l0)

  abbrev t : ℕ
  t = came_of b l1 l0 h

  four : Four b l1 l0 h
  four = record { b_lt = hb; l1_lt = omega arith; l0_lt = bit_lt (l / 2 ^ 51); h_lt = bit_lt f }

  u1_lt : u1 < 2
  u1_lt = omega arith

  u0_lt : u0 < 2
  u0_lt = bit_lt (U / 1024)

  uu_lt : u1 * u0 < 2
  uu_lt = mul_bit u1 u0 u1_lt u0_lt

  n_lt : n < 2
  n_lt = omega arith

  m_lt : m < 2
  m_lt = omega arith

  -- ---- from the tests and the AND of bits on
  module _ (K Z : ℕ) (tz : Tested K x y U Z) where
    abbrev A : ℕ
    A = is_zero K

    abbrev v : ℕ
    v = decided_of b l1 l0 h A n m (edge_of U) u1

    A_lt : A < 2
    A_lt = omega arith

    closing_is : closing_w x y (low_of l) 1 R G N P r t Z v ≡ done_w A (n * m)
    unfolding closing_w
    closing_is =
        let W : ℕ = rounded_w R N (carry_w r t v) in
        let W' : ℕ = (R + carry_in b A l1 l0 h) % 2 ^ 64 in
        let d : ℕ = last_bit A l1 l0 in
        let i : ℕ = in_of U in
        let o : ℕ = (over_of U + g) % 2 in
        let k : ℕ = n * m in
        let B : ℕ = A * tie_of b l1 l0 h in
        let k_lt : k < 2 = mul_bit n m n_lt m_lt in
        let B_lt : B < 2 = mul_bit A (tie_of b l1 l0 h) A_lt (tie_lt b l1 l0 h four) in
        let AY : A * Y < 2 = mul_bit A Y A_lt (first_only b l1 l0 h four) in
        let eu : edge_of U * u1 < 2 = mul_bit (edge_of U) u1 (edge_bit U) u1_lt in
        let odd : carry_w r t v % 2 ≡ carry_in b A l1 l0 h =
        carry_odd b l1 l0 h four A n m (edge_of U) u1 A_lt n_lt m_lt (edge_bit U) u1_lt r (place0 (l1 * l0) (h * b) (u1 * u0) 0 (both_lt b l1 l0 h four) (hb_lt b l1 l0 h four) uu_lt (omega arith)) in
        let e_w : W ≡ W' = rounded_is R N (carry_w r t v) (omega arith) plus ∙ ap (λ (z : ℕ). (R + z) % 2 ^ 64) odd in
        let ed : last_w v (low_of l) ≡ d = last_is b l1 l0 h four A n m (edge_of U) u1 A_lt n_lt m_lt (edge_bit U) u1_lt l hl refl refl in
        let ei : range_w R G Z r v ≡ bits4 i o 0 0 = range_is K x y U f Z g h_u hf hg tz G (l1 * l0) (h * b) B (A * Y) k eg (both_lt b l1 l0 h four) (hb_lt b l1 l0 h four) B_lt AY k_lt in
        let en : nonzero_w v ≡ bits4 k k 0 0 = nonzero_is B (A * Y) k (edge_of U * u1) B_lt AY k_lt eu in
        ap₂ (λ (a c : ℕ). finished_w x y 1 W (change_w W (last_w v (low_of l)) P a c)) ei en
        ∙ ap₂ (λ (a c : ℕ). finished_w x y 1 a (change_w a c P (bits4 i o 0 0) (bits4 k k 0 0))) e_w ed
        ∙ finished_is x y W' d P i o k (in_bit U) (bit_lt (over_of U + g)) k_lt
        ∙ ap (λ (p : ℕ). signed_w x y (left_of W' d p (i * k) (o * k))) e_p

  -- ---- from the second folding on
  abbrev w : ℕ
  w = inverted_w (low_of l)

  abbrev g32 : ℕ
  g32 = and_down 32 (not_w w)

  g16_lt : and_down 16 g32 < 2 ^ 32
  g16_lt = and_lt 32 g32 (shr_w g32 16) (down32_lt (not_w w) (not_lt w))

  tested_is : tested_w x y (low_of l) 1 R G N P r Y (t * 2 ^ 32 + and_down 16 g32) ≡ done_w (is_zero (or16 w)) (n * m)
  unfolding tested_w
  tested_is =
      let K : ℕ = or16 w in
      let M : ℕ = t * 2 ^ 32 + and_down 16 g32 in
      let Z : ℕ = zeros16 (lanes_w K x y R) in
      let tz : Tested K x y U Z = tested K x y U f (or16_lt w) hf in
      let ev : and_w (tests_w Z) (terms_w t Y Z R) ≡ decided_of b l1 l0 h (is_zero K) n m (edge_of U) u1 =
      ap₂ and_w (tests_are K x y U Z tz) (terms_are b l1 l0 h four K x y U f Z h_u hf tz)
      ∙ decided_is b l1 l0 h four (is_zero K) n m (edge_of U) u1 (A_lt K Z tz) n_lt m_lt (edge_bit U) u1_lt in
      ap₂ (λ (k c : ℕ). let Z' : ℕ = zeros16 (lanes_w k x y R) in closing_w x y (low_of l) 1 R G N P r c Z' (and_w (tests_w Z') (terms_w c Y Z' R)))
      (folded_is w t (came_lt b l1 l0 h four)) (shr_is M 32 ∙ high t 32 g16_lt)
      ∙ ap (λ (c : ℕ). closing_w x y (low_of l) 1 R G N P r t Z c) ev
      ∙ closing_is K Z tz

  -- ---- from the first folding on
  abbrev p : ℕ
  p = bits4 l1 h u1 0

  abbrev q : ℕ
  q = bits4 l0 b u0 0

  paired_is : paired_w x y (low_of l) 1 R G N P p q (r * 2 ^ 32 + g32) ≡ done_w (is_zero (or16 w)) (n * m)
  unfolding paired_w
  paired_is =
      let z : 0 < 2 = omega arith in
      let gl : g32 < 2 ^ 32 = down32_lt (not_w w) (not_lt w) in
      let Q : ℕ = r * 2 ^ 32 + g32 in
      let i : ℕ = bits4 (l0 * (1 - l1)) Y 0 0 in
      let j : ℕ = bits4 (h * b) b 0 0 in
      let er : shr_w Q 32 ≡ r = shr_is Q 32 ∙ high r 32 gl in
      let em : fold16_w Q i j ≡ t * 2 ^ 32 + and_down 16 g32 =
      fold16_is r g32 i j gl (bits4_lt (l0 * (1 - l1)) Y 0 0 (second_only b l1 l0 h four) (first_only b l1 l0 h four) z z) (bits4_lt (h * b) b 0 0 (hb_lt b l1 l0 h four) hb z z)
      ∙ ap (λ (u : ℕ). u * 2 ^ 32 + and_down 16 g32) (riders_second b l1 l0 h four) in
      ap (λ (u : ℕ). tested_w x y (low_of l) 1 R G N P u (only_w p u) (fold16_w Q (only_both_w p q u) (top_both_w q u))) er
      ∙ ap (λ (u : ℕ). tested_w x y (low_of l) 1 R G N P r u (fold16_w Q (only_both_w p q r) (top_both_w q r))) (only_first b l1 l0 h four u1 u0 u1_lt u0_lt)
      ∙ ap₂ (λ (u c : ℕ). tested_w x y (low_of l) 1 R G N P r Y (fold16_w Q u c))
      (only_both b l1 l0 h four u1 u0 u1_lt u0_lt) (top_both b l1 l0 h four u1 u0 u1_lt u0_lt)
      ∙ ap (tested_w x y (low_of l) 1 R G N P r Y) em
      ∙ tested_is

  -- ---- all
  after_by : parity_w x y R ≡ P → after_w x y (low_of l) 1 R G N ≡ done_w (is_zero (or16 w)) (n * m)
  unfolding after_w
  after_by e =
      let z : 0 < 2 = omega arith in
      let F : ℕ = first_w (low_of l) R in
      let ep : F ≡ p = first_is U f h_u hf l hl in
      let eq : second_w (low_of l) R P ≡ q = second_is U f h_u hf l P hl h_p ∙ ap (λ (u : ℕ). bits4 l0 u u0 0) (ap (λ (u : ℕ). 1 - u) e_p ∙ back b hb) in
      let en : fold32_w (not_w w) p q ≡ r * 2 ^ 32 + g32 =
      fold32_is (not_w w) p q (not_lt w) (bits4_lt l1 h u1 0 four.l1_lt four.h_lt u1_lt z) (bits4_lt l0 b u0 0 four.l0_lt hb u0_lt z)
      ∙ ap (λ (u : ℕ). u * 2 ^ 32 + g32) (riders_first b l1 l0 h four u1 u0 u1_lt u0_lt) in
      ap (λ (u : ℕ). paired_w x y (low_of l) 1 R G N u F (second_w (low_of l) R u) (fold32_w (not_w w) F (second_w (low_of l) R u))) e
      ∙ ap₂ (λ (u c : ℕ). paired_w x y (low_of l) 1 R G N P u c (fold32_w (not_w w) u c)) ep eq
      ∙ ap (paired_w x y (low_of l) 1 R G N P p q) en
      ∙ paired_is
    where
      back : (b : ℕ) → b < 2 → 1 - (1 - b) ≡ b
      back b h = omega arith

  pub after_is : parity_w x y R ≡ P
      → after_w x y (low_of l) 1 R G N ≡ signed_w x y (left_of ((R + carry_of b l f) % 2 ^ 64) (last_of l) (1 - b) (in_of U * both_nonzero x y) ((over_of U + g) % 2 * both_nonzero x y))
  after_is e = after_by e ∙ ap₂ done_w (rest_zero l hl) (mul_min n m n_lt m_lt)
    where
      mul_min : (a c : ℕ) → a < 2 → c < 2 → a * c ≡ min a c
      mul_min a c ha hc = digit (λ a. a * c ≡ min a c) (omega arith) (omega arith) a ha
