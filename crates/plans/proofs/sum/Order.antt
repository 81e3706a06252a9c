-- The sum's plan, order: the carry out of E_y + NOT E_x tells which exponent is larger, and the sum how far apart they are.
-- Rests on Compare.
use mathlib.Core.Path.{◌≡◌, refl, sym, ap, ap₂, ◌∙◌}
use Prim.Native.Nat.{ℕ, ◌+◌, ◌-◌, ◌*◌, ◌/◌, ◌%◌, ◌^◌, ◌≤◌, ◌<◌}
use native.Mathlib.Nat.{mod-eq_of_lt}
use native.Mathlib.Omega.{arith}
use Rattle.bits.specs.Ops.{xor_w, and_w, not_w, shl_w, shr_w}
use Rattle.bits.proofs.Xor.{xor_comm, xor_zero, xor_cancel, and_zero, not_xor, xor_cancel_r}
use Rattle.bits.proofs.Bound.{xor_lt}
use Rattle.bits.proofs.Choice.{and_ones}
use Rattle.bits.proofs.Places.{shr_is}
use Rattle.binary64.specs.Number.{expo}
use Rattle.plans.proofs.Fields.{low_bits, spread_is}
use Rattle.plans.proofs.Shifts.{not_is, exponent_w}
use Rattle.plans.proofs.sum.Run.{compare_w, first_w, near_w, larger_w, smaller_w}
use Rattle.plans.proofs.sum.Compare.{opposed, up_is, opposed_is, compared}

-- ---- the mask and the difference, from the carry out and the sum
first_is : (x y o : ℕ) → (expo y + opposed x) / 2 ^ 16 ≡ o → o < 2 → first_w (compare_w x y).words ≡ (1 - o) * (2 ^ 64 - 1)
unfolding first_w
first_is x y o e h =
    let c : ℕ = shr_w (compare_w x y).words.G 63 in
    spread_is (not_w c) ∙ ap (λ (u : ℕ). u % 2 * (2 ^ 64 - 1)) (not_is c ∙ ap (λ (u : ℕ). (2 ^ 64 - 1) - u) (shr_is (compare_w x y).words.G 63 ∙ (compared x y).out ∙ e))
    ∙ ap (λ (u : ℕ). u * (2 ^ 64 - 1)) (low o h)
  where
    low : (o : ℕ) → o < 2 → ((2 ^ 64 - 1) - o) % 2 ≡ 1 - o
    low o h = omega arith

near_is : (x y : ℕ) → near_w x y (compare_w x y).words ≡ xor_w ((expo y + opposed x) % 2 ^ 16) (first_w (compare_w x y).words) % 2 ^ 11
unfolding near_w
near_is x y =
    let f : ℕ = first_w (compare_w x y).words in
    let S : ℕ = (expo y + opposed x) % 2 ^ 16 in
    let X : ℕ = xor_w (xor_w (shl_w (exponent_w y) 48) (shl_w (not_w (exponent_w x)) 48)) (shl_w (compare_w x y).words.G 1) in
    let s : shr_w X 48 ≡ S =
    shr_is X 48 ∙ ap (λ (u : ℕ). u / 2 ^ 48) (ap₂ (λ (p q : ℕ). xor_w (xor_w p q) (shl_w (compare_w x y).words.G 1)) (up_is y) (opposed_is x) ∙ (compared x y).sum) ∙ back S in
    low_bits (xor_w (shr_w X 48) f) 53 11 refl ∙ ap (λ (u : ℕ). xor_w u f % 2 ^ 11) s
  where
    back : (s : ℕ) → s * 2 ^ 48 / 2 ^ 48 ≡ s
    back s = omega arith

-- ---- x's exponent is the larger, or they are equal
module _ (x y : ℕ) (le : expo y ≤ expo x) where
  pub first_yes : first_w (compare_w x y).words ≡ 2 ^ 64 - 1
  first_yes = first_is x y 0 (omega arith) (omega arith)

  pub near_yes : near_w x y (compare_w x y).words ≡ expo x - expo y
  near_yes =
      let s : (expo y + opposed x) % 2 ^ 16 ≡ (2 ^ 16 - 1) - (expo x - expo y) = omega arith in
      near_is x y ∙ ap₂ (λ (p q : ℕ). xor_w p q % 2 ^ 11) s first_yes
      ∙ ap (λ (p : ℕ). p % 2 ^ 11) (sym (not_xor ((2 ^ 16 - 1) - (expo x - expo y)) (omega arith)) ∙ not_is ((2 ^ 16 - 1) - (expo x - expo y))) ∙ low (expo x - expo y) (omega arith)
    where
      low : (d : ℕ) → d < 2 ^ 11 → ((2 ^ 64 - 1) - ((2 ^ 16 - 1) - d)) % 2 ^ 11 ≡ d
      low d h = omega arith

  module _ (hx : x < 2 ^ 64) (hy : y < 2 ^ 64) where
    taken : and_w (xor_w x y) (first_w (compare_w x y).words) ≡ xor_w x y
    taken = ap (and_w (xor_w x y)) first_yes ∙ and_ones (xor_w x y) (xor_lt 64 x y hx hy)

    pub larger_yes : larger_w x y (first_w (compare_w x y).words) ≡ x
    unfolding larger_w
    larger_yes = ap (xor_w y) taken ∙ xor_comm y (xor_w x y) ∙ xor_cancel_r x y

    pub smaller_yes : smaller_w x y (first_w (compare_w x y).words) ≡ y
    unfolding smaller_w
    smaller_yes = ap (xor_w x) taken ∙ xor_cancel x y

-- ---- y's is the larger
module _ (x y : ℕ) (lt : expo x < expo y) where
  pub first_no : first_w (compare_w x y).words ≡ 0
  first_no = first_is x y 1 (omega arith) (omega arith)

  pub sum_no : (expo y + opposed x) % 2 ^ 16 ≡ expo y - expo x - 1
  sum_no = omega arith

  pub near_no : near_w x y (compare_w x y).words ≡ expo y - expo x - 1
  near_no =
      near_is x y ∙ ap₂ (λ (p q : ℕ). xor_w p q % 2 ^ 11) sum_no first_no ∙ ap (λ (p : ℕ). p % 2 ^ 11) (xor_zero (expo y - expo x - 1)) ∙ mod-eq_of_lt (omega arith)

  left : and_w (xor_w x y) (first_w (compare_w x y).words) ≡ 0
  left = ap (and_w (xor_w x y)) first_no ∙ and_zero (xor_w x y)

  pub larger_no : larger_w x y (first_w (compare_w x y).words) ≡ y
  unfolding larger_w
  larger_no = ap (xor_w y) left ∙ xor_zero y

  pub smaller_no : smaller_w x y (first_w (compare_w x y).words) ≡ x
  unfolding smaller_w
  smaller_no = ap (xor_w x) left ∙ xor_zero x
