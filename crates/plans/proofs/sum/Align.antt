-- The sum's plan, the operands in order and the smaller one aligned: its significand shifted right by the distance of the exponents and doubled, or nothing, and 16 bits that are
-- all ones where no bit was lost. Rests on Compare, Order, Exact, Shift, Used and Kept.
use mathlib.Core.Path.{◌≡◌, sym, ap, ap₂, ◌∙◌, subst}
use mathlib.Core.Logic.{◌⊎◌, inl, inr}
use Prim.Native.Nat.{ℕ, ◌+◌, ◌-◌, ◌*◌, ◌/◌, ◌%◌, ◌^◌, ◌≤◌, ◌<◌}
use native.Mathlib.Nat.{mod-eq_of_lt, mul-one, mul-zero, div-one, lt_of_le_of_lt}
use native.Mathlib.Omega.{arith}
use lib.Pow.{shr_le}
use Rattle.bits.specs.Ops.{xor_w, not_w}
use Rattle.bits.proofs.Digits.{digit, bit_lt, bit}
use Rattle.binary64.specs.Number.{expo, frac}
use Rattle.plans.proofs.Lanes.{is_zero, not_zero}
use Rattle.plans.proofs.sum.Run.{compare_w, first_w, near_w, larger_w, smaller_w, exact_and, exact_d, exact_w, used_w, second_and, second_rider, small_w, large_w, lost_w, lost32, lost16, Aligned, aligned_w, align_w}
use Rattle.plans.proofs.sum.Compare.{zero_x, zero_y}
use Rattle.plans.proofs.sum.Order.{larger_yes, smaller_yes, larger_no, smaller_no}
use Rattle.plans.proofs.sum.Exact.{D_yes, W_yes, D_no, W_no}
use Rattle.plans.proofs.sum.Lost.{lost_lt}
use Rattle.plans.proofs.sum.Shift.{stages_w, significand9_is, large_is, lost_zero}
use Rattle.plans.proofs.sum.Used.{against, used_is, rider4, rider4_lt, counts, rider_is, small_is}
use Rattle.plans.proofs.sum.Kept.{value_is, kept_small, kept_none}

pub record AlignedTo (a b : ℕ) (r : Aligned) : Type 0 where
  pub used : expo a - expo b < 64 → 0 < expo b → r.value ≡ 2 * ((2 ^ 52 + frac b) * 2 ^ 9 / 2 ^ (expo a - expo b))
  pub unused : (64 ≤ expo a - expo b) ⊎ (expo b ≡ 0) → r.value ≡ 0
  pub kept_lt : r.kept < 2 ^ 16
  pub kept_zero : is_zero (2 ^ 16 - 1 - r.kept) ≡ is_zero ((2 ^ 52 + frac b) * 2 ^ 9 % 2 ^ ((expo a - expo b) % 64))

abbrev significand : ℕ → ℕ
significand b = 2 ^ 52 + frac b

significand_lt : (b : ℕ) → significand b < 2 ^ 53
significand_lt b = omega arith

-- the plan, from the distance c and w, which is shifted by c's lowest bit
abbrev from : ℕ → ℕ → ℕ → Aligned
from z c w = let t : ℕ = second_and c (used_w c z) w in let v : ℕ = small_w c t w in aligned_w (large_w c v) (lost16 (lost32 (lost_w c v) (second_rider t)))

-- ---- the significand q shifted by d, with the tests z
module _ (d q z : ℕ) (hd : d < 2 ^ 11) (hq : q < 2 ^ 53) where
  abbrev W : ℕ
  W = q * 2 ^ 9

  abbrev w₁ : ℕ
  w₁ = W / 2 ^ (d % 2)

  -- after the first shift it is a multiple of 2^8
  m : ℕ
  m = q * (2 - d % 2)

  m_lt : m < 2 ^ 54
  unfolding m
  m_lt = digit (λ c. q * (2 - c) < 2 ^ 54) (omega arith) (omega arith) (d % 2) (bit_lt d)

  m_is : w₁ ≡ m * 2 ^ 8
  unfolding m
  m_is = digit (λ c. W / 2 ^ c ≡ q * (2 - c) * 2 ^ 8) (div-one W ∙ omega arith) (omega arith) (d % 2) (bit_lt d)

  abbrev r : ℕ
  r = rider4 (used_w d z)

  abbrev w₃ : ℕ
  w₃ = stages_w d w₁

  abbrev result : Aligned
  result = aligned_w (large_w d w₃) (lost16 (lost32 (lost_w d w₃) r))

  used_lt : used_w d z < 256
  used_lt = subst (λ (v : ℕ). v < 256) (sym (used_is d z hd)) (omega arith)

  -- the rider beside the shift by 2 is apart from it
  result_is : from z d w₁ ≡ result
  result_is =
      ap₂ (λ (w s : ℕ). aligned_w (large_w d w) (lost16 (lost32 (lost_w d w) s))) small rider
    where
      small : small_w d (second_and d (used_w d z) w₁) w₁ ≡ w₃
      small = ap (λ (w : ℕ). small_w d (second_and d (used_w d z) w) w) m_is ∙ small_is d (used_w d z) m used_lt m_lt ∙ ap (stages_w d) (sym m_is)

      rider : second_rider (second_and d (used_w d z) w₁) ≡ r
      rider = ap (λ (w : ℕ). second_rider (second_and d (used_w d z) w)) m_is ∙ rider_is d (used_w d z) m used_lt m_lt

  value : result.value ≡ 2 * (W / 2 ^ (d % 64)) * is_zero (against d z)
  value =
      let Q_lt : W / 2 ^ (d % 64) < 2 ^ 63 = lt_of_le_of_lt (shr_le W (d % 64)) (omega arith) in
      ap (λ (w : ℕ). (aligned_w w (lost16 (lost32 (lost_w d w₃) r))).value) (large_is d q hq)
      ∙ value_is (lost_w d w₃) r (rider4_lt (used_w d z)) (W / 2 ^ (d % 64)) Q_lt ∙ ap (λ (c : ℕ). 2 * (W / 2 ^ (d % 64)) * c) (counts d z hd)

  kept : is_zero (2 ^ 16 - 1 - result.kept) ≡ is_zero (W % 2 ^ (d % 64))
  kept = kept_none (lost_w d w₃) r (rider4_lt (used_w d z)) (large_w d w₃) (lost_lt d w₃) ∙ lost_zero d q hq

-- ---- the operand b, below a, where the tests tell whether b's exponent is 0
module _ (a b z : ℕ) (none : 0 < expo b → bit z 16 + bit z 0 ≡ 0) (some : expo b ≡ 0 → 0 < bit z 16 + bit z 0) where
  abbrev d : ℕ
  d = expo a - expo b

  d_lt : d < 2 ^ 11
  d_lt = omega arith

  abbrev q : ℕ
  q = significand b

  aligned_to : AlignedTo a b (result d q z d_lt (significand_lt b))
  aligned_to =
      record {
        used = λ l p.
            value d q z d_lt (significand_lt b) ∙ ap (λ (c : ℕ). 2 * (q * 2 ^ 9 / 2 ^ (d % 64)) * c) (nothing (bit z 16) (bit z 0) (d / 64) (none p) (omega arith))
            ∙ mul-one (2 * (q * 2 ^ 9 / 2 ^ (d % 64))) ∙ ap (λ (k : ℕ). 2 * (q * 2 ^ 9 / 2 ^ k)) (mod-eq_of_lt l);
        unused = λ o.
            value d q z d_lt (significand_lt b) ∙ ap (λ (c : ℕ). 2 * (q * 2 ^ 9 / 2 ^ (d % 64)) * c) (not_zero (against d z) (positive o))
            ∙ mul-zero (2 * (q * 2 ^ 9 / 2 ^ (d % 64)));
        kept_lt = kept_small (lost_w d (stages_w d (q * 2 ^ 9 / 2 ^ (d % 2)))) (rider4 (used_w d z)) (rider4_lt (used_w d z)) _;
        kept_zero = kept d q z d_lt (significand_lt b);
      }
    where
      nothing : (i j u : ℕ) → i + j ≡ 0 → u ≡ 0 → is_zero (i * 64 + (j * 32 + u)) ≡ 1
      nothing i j u e f = omega arith

      far : (i j u : ℕ) → 0 < u → 0 < i * 64 + (j * 32 + u)
      far i j u h = omega arith

      zero : (i j u : ℕ) → 0 < i + j → 0 < i * 64 + (j * 32 + u)
      zero i j u h = omega arith

      positive : (64 ≤ d) ⊎ (expo b ≡ 0) → 0 < against d z
      positive (inl l) = far (bit z 16) (bit z 0) (d / 64) (omega arith)
      positive (inr e) = zero (bit z 16) (bit z 0) (d / 64) (some e)

  -- b aligned, from the first shift and the distance as the plan has them
  align_to : (D N m xy : ℕ) → exact_d D m (exact_and N m xy (significand b * 2 ^ 9)) ≡ expo a - expo b
      → exact_w (significand b * 2 ^ 9) (exact_and N m xy (significand b * 2 ^ 9)) ≡ significand b * 2 ^ 9 / 2 ^ ((expo a - expo b) % 2) → AlignedTo a b (align_w b D N z m xy)
  align_to D N m xy e f = subst (AlignedTo a b) (sym whole) aligned_to
    where
      whole : align_w b D N z m xy ≡ result d q z d_lt (significand_lt b)
      whole =
          ap (λ (s : ℕ). let t : ℕ = exact_and N m xy s in from z (exact_d D m t) (exact_w s t)) (significand9_is b)
          ∙ ap₂ (from z) e f ∙ result_is d q z d_lt (significand_lt b)

-- ---- the operands in order, and the smaller one aligned
module _ (x y : ℕ) (hx : x < 2 ^ 64) (hy : y < 2 ^ 64) where
  abbrev first : ℕ
  first = first_w (compare_w x y).words

  -- the test of the smaller exponent, whichever it is
  tests_none : (e : ℕ) → e ≤ expo x → e ≤ expo y → 0 < e → bit (compare_w x y).lanes 16 + bit (compare_w x y).lanes 0 ≡ 0
  tests_none e l k h = ap₂ (λ (i j : ℕ). i + j) (zero_y x y ∙ not_zero (expo y) (omega arith)) (zero_x x y ∙ not_zero (expo x) (omega arith))

  pub ordered_yes : expo y ≤ expo x
      → (larger_w x y (first_w (compare_w x y).words) ≡ x) × (smaller_w x y (first_w (compare_w x y).words) ≡ y)
      × AlignedTo x y (align_w y (near_w x y (compare_w x y).words) (compare_w x y).words.N (compare_w x y).lanes (not_w (first_w (compare_w x y).words)) (xor_w x y))
  ordered_yes le = (
    larger_yes x y le hx hy,
    smaller_yes x y le hx hy,
    align_to x y (compare_w x y).lanes (tests_none (expo y) le (omega arith))
        (λ e. let t : bit (compare_w x y).lanes 16 ≡ 1 = zero_y x y ∙ ap is_zero e in omega arith)
        (near_w x y (compare_w x y).words) (compare_w x y).words.N (not_w first) (xor_w x y)
        (D_yes x y (significand y) (significand_lt y) le) (W_yes x y (significand y) (significand_lt y) le),
  )

  pub ordered_no : expo x < expo y
      → (larger_w x y (first_w (compare_w x y).words) ≡ y) × (smaller_w x y (first_w (compare_w x y).words) ≡ x)
      × AlignedTo y x (align_w x (near_w x y (compare_w x y).words) (compare_w x y).words.N (compare_w x y).lanes (not_w (first_w (compare_w x y).words)) (xor_w x y))
  ordered_no lt = (
    larger_no x y lt,
    smaller_no x y lt,
    align_to y x (compare_w x y).lanes (tests_none (expo x) (omega arith) (omega arith))
        (λ e. let t : bit (compare_w x y).lanes 0 ≡ 1 = zero_x x y ∙ ap is_zero e in omega arith)
        (near_w x y (compare_w x y).words) (compare_w x y).words.N (not_w first) (xor_w x y)
        (D_no x y (significand x) (significand_lt x) lt) (W_no x y (significand x) (significand_lt x) lt),
  )
