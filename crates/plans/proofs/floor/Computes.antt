-- The built-in plan of floor computes floor: for every operand in register 0 and whatever the other registers hold, register 2 is the floor
-- of document 01 and document 02, No. 2.
-- Rests on the decoder for the masks and the test for E = 0, on RoundUp for the steps after them, and on binary64's FloorModel for floor on the word itself.
use mathlib.Core.Path.{◌≡◌, refl, sym, ap, ap₂, ◌∙◌}
use mathlib.Core.Logic.{inl, inr}
use mathlib.Core.Bool.{cond}
use Prim.Native.Nat.{ℕ, ◌+◌, ◌-◌, ◌*◌, ◌/◌, ◌%◌, ◌^◌, ◌≤◌, ◌<◌, min}
use native.Mathlib.Nat.{mul-zero, mul-one, mod-eq_of_lt, mod-one, div-one, lt_of_lt_of_le, eq-zero-or-pos}
use native.Mathlib.Omega.{arith}
use lib.Dec.{T, eqb}
use lib.ListN.{get_or}
use lib.Pow.{pow_mono, ones_lt, mod-mod-pow}
use Rattle.bits.specs.Ops.{xor_w, and_w, not_w, shl_w, shr_w}
use Rattle.bits.proofs.Digits.{digit}
use Rattle.bits.proofs.Xor.{xor_zero, xor_zero_l, xor_comm}
use Rattle.bits.proofs.Places.{shr_is, and_low, and_block}
use Rattle.bits.proofs.Sum.{xor_packed}
use Rattle.plain.specs.Machine.{stepped}
use Rattle.binary64.specs.Number.{sign, expo, signed}
use Rattle.binary64.specs.Floor.{floor}
use Rattle.binary64.proofs.Cases.{lt_or_ge, if_eq, if_not_eq}
use Rattle.binary64.proofs.FloorModel.{floor_large, floor_zero, floor_small_plus, floor_small_minus, floor_word}
use Rattle.plans.specs.Computes.{Computes}
use Rattle.plans.specs.words.FloorPlan.{floor_steps, floor_plan}
use Rattle.plans.proofs.Registers.{run_steps, tab}
use Rattle.plans.proofs.Modelled.{well_formed, plan_computes}
use Rattle.plans.proofs.Fields.{low_bits, low_lt}
use Rattle.plans.proofs.Riding.{riders}
use Rattle.plans.proofs.RunOfOnes.{stage_and, next_f, next_n, run_of, or_of}
use Rattle.plans.proofs.RoundUp.{one_of, raised_where, rounded_up, opposite, stays, next_above, next_below}
use Rattle.plans.proofs.decoder.Words.{pattern5, pattern2, lit2, lit1, lit0, for_high, for_low, pair_a, pair_b, no_pair, tests_a, tests_b, top_tests}
use Rattle.plans.proofs.decoder.Decoded.{chosen_by, decoded_by, is_one, one_place_of, fold, mask_w, mask_u, high_part}
use Rattle.plans.proofs.decoder.Zero.{marked_of, decoded_with_zero}

-- ---- the steps after the decoder: W and U the masks, e whether E = 0
-- the bits to drop, and in place 63 whether the operand is negative and no zero
unfoldable pub dropped_of : ℕ → ℕ → ℕ → ℕ → ℕ
dropped_of x W U e = and_w x (xor_w (xor_w W U) (shl_w (not_w e) 63))

unfoldable pub floored_to : ℕ → ℕ → ℕ → ℕ → ℕ
floored_to x W U e =
    let g : ℕ = dropped_of x W U e in
    let f : ℕ = shr_w (shl_w g 1) 1 in
    rounded_up x W f (shr_w U 62) f (shr_w g 63)

unfoldable pub floor_model : ℕ → ℕ
floor_model x = let w : ℕ = marked_of x in floored_to x (mask_w (one_place_of w)) (mask_u (high_part x) (is_one w)) (riders w)

modelled : (f : ℕ → ℕ) → get_or (run_steps floor_steps (tab f 0 32)) 2 0 ≡ floor_model (f 0)
unfolding floor_steps stepped floor_model floored_to dropped_of rounded_up raised_where one_of run_of or_of next_n next_f stage_and pattern5 pattern2 lit2 lit1 lit0 for_high for_low pair_a pair_b no_pair tests_a tests_b top_tests chosen_by decoded_by marked_of is_one one_place_of fold mask_w mask_u
modelled f = refl

floor_well_formed : T (well_formed floor_steps)
unfolding floor_steps
floor_well_formed = tt

-- ---- in numbers
bits : (s e : ℕ) → s < 2 → e < 2 → and_w s (1 - e) ≡ s * (1 - e)
unfolding and_w
bits s e hs h =
    digit (λ s. and_w s (1 - e) ≡ s * (1 - e)) (digit (λ e. and_w 0 (1 - e) ≡ 0 * (1 - e)) refl refl e h) (digit (λ e. and_w 1 (1 - e) ≡ 1 * (1 - e)) refl refl e h) s hs

-- k bits to drop
module _ (x k e W U : ℕ) (hx : x < 2 ^ 64) (hk : k ≤ 63) (he : e < 2) (m : xor_w W U ≡ 2 ^ k - 1) where
  -- whether the operand is negative and no zero
  abbrev b : ℕ
  b = sign x * (1 - e)

  b_lt : b < 2
  b_lt = digit (λ e. sign x * (1 - e) < 2) (omega arith) (omega arith) e he

  dropped_are : dropped_of x W U e ≡ b * 2 ^ 63 + x % 2 ^ k
  unfolding dropped_of
  dropped_are =
      let lo : 2 ^ k - 1 < 2 ^ 63 = lt_of_lt_of_le (ones_lt k) (pow_mono {i = k} {j = 63} hk) in
      let word : x ≡ sign x * 2 ^ 63 + x % 2 ^ 63 = omega arith in
      let odd : e % 2 ≡ e = mod-eq_of_lt he in
      ap (and_w x)
      (ap₂ xor_w m (opposite e (omega arith) ∙ ap (λ (v : ℕ). (1 - v) * 2 ^ 63) odd) ∙ xor_comm (2 ^ k - 1) ((1 - e) * 2 ^ 63) ∙ xor_packed (1 - e) 63 (2 ^ k - 1) lo)
      ∙ ap (λ (v : ℕ). and_w v ((1 - e) * 2 ^ 63 + (2 ^ k - 1))) word
      ∙ and_block 63 (sign x) (1 - e) (x % 2 ^ 63) (2 ^ k - 1) (omega arith) lo
      ∙ ap₂ (λ (s r : ℕ). s * 2 ^ 63 + r) (bits (sign x) e (omega arith) he) (and_low (x % 2 ^ 63) k ∙ short)
    where
      short : x % 2 ^ 63 % 2 ^ k ≡ x % 2 ^ k
      short = ap (λ (n : ℕ). x % 2 ^ n % 2 ^ k) (there k hk) ∙ mod-mod-pow x (63 - k) k
        where
          there : (k : ℕ) → k ≤ 63 → 63 ≡ 63 - k + k
          there k h = omega arith

  floored : floored_to x W U e ≡ rounded_up x W (x % 2 ^ k) (shr_w U 62) (x % 2 ^ k) b
  unfolding floored_to
  floored =
      let s : x % 2 ^ k < 2 ^ 63 = low_lt x k 63 hk in
      ap (λ (g : ℕ). rounded_up x W (shr_w (shl_w g 1) 1) (shr_w U 62) (shr_w (shl_w g 1) 1) (shr_w g 63)) dropped_are
      ∙ ap₂ (λ (f n : ℕ). rounded_up x W f (shr_w U 62) f n)
      (low_bits (b * 2 ^ 63 + x % 2 ^ k) 1 63 refl ∙ low b (x % 2 ^ k) s) (shr_is (b * 2 ^ 63 + x % 2 ^ k) 63 ∙ high b (x % 2 ^ k) s)
    where
      low : (b r : ℕ) → r < 2 ^ 63 → (b * 2 ^ 63 + r) % 2 ^ 63 ≡ r
      low b r h = omega arith

      high : (b r : ℕ) → r < 2 ^ 63 → (b * 2 ^ 63 + r) / 2 ^ 63 ≡ b
      high b r h = omega arith

-- whether E < 1023, from U
below_some : shr_w (2 ^ 63 - 1) 62 ≡ 1
below_some = unfold shr_w in refl

below_none : shr_w 0 62 ≡ 0
below_none = unfold shr_w in refl

-- ---- the ranges of E
module _ (x : ℕ) (hx : x < 2 ^ 64) where
  -- below 1
  below : (e : ℕ) → e < 2 → floored_to x 0 (2 ^ 63 - 1) e ≡ signed (sign x) (sign x * (1 - e) % 2 * min (x % 2 ^ 63) 1 * (1023 * 2 ^ 52))
  below e h =
      let b : ℕ = sign x * (1 - e) in
      floored x 63 e 0 (2 ^ 63 - 1) hx (omega arith) h (xor_zero_l (2 ^ 63 - 1))
      ∙ ap (λ (n : ℕ). rounded_up x 0 (x % 2 ^ 63) n (x % 2 ^ 63) b) below_some
      ∙ next_below x (x % 2 ^ 63) b hx (omega arith) (omega (arith, b_lt x 63 e 0 (2 ^ 63 - 1) hx (omega arith) h (xor_zero_l (2 ^ 63 - 1))))

  floor_below : expo x < 1023 → floored_to x 0 (2 ^ 63 - 1) (cond (eqb (expo x) 0) 1 0) ≡ floor x
  floor_below l =
      elim (eq-zero-or-pos (expo x)) [
        | inl z ↦
            ap (floored_to x 0 (2 ^ 63 - 1)) (if_eq (expo x) 0 1 0 z) ∙ below 1 (omega arith)
            ∙ ap (λ (b : ℕ). signed (sign x) (b % 2 * min (x % 2 ^ 63) 1 * (1023 * 2 ^ 52))) (mul-zero (sign x)) ∙ omega arith ∙ sym (floor_zero x z)
        | inr o ↦
            ap (floored_to x 0 (2 ^ 63 - 1)) (if_not_eq (expo x) 0 1 0 (λ z. omega arith)) ∙ below 0 (omega arith)
            ∙ ap (λ (b : ℕ). signed (sign x) (b % 2 * min (x % 2 ^ 63) 1 * (1023 * 2 ^ 52))) (mul-one (sign x))
            ∙ elim (lt_or_ge (sign x) 1) [
              | inl z ↦
                  let s : sign x ≡ 0 = omega arith in
                  ap (λ (s : ℕ). signed s (s % 2 * min (x % 2 ^ 63) 1 * (1023 * 2 ^ 52))) s ∙ omega arith ∙ sym (floor_small_plus x l s)
              | inr g ↦
                  let s : sign x ≡ 1 = omega arith in
                  let m : min (x % 2 ^ 63) 1 ≡ 1 = omega arith in
                  ap₂ (λ (s m : ℕ). signed s (s % 2 * m * (1023 * 2 ^ 52))) s m ∙ sym (floor_small_minus x o l (λ z. omega arith))
            ]
      ]

  floor_between : 1023 ≤ expo x → expo x < 1075 → floored_to x (2 ^ (1075 - expo x) - 1) 0 0 ≡ floor x
  floor_between lo hi =
      let k : ℕ = 1075 - expo x in
      let W : ℕ = 2 ^ k - 1 in
      let hk : k ≤ 52 = omega arith in
      floored x k 0 W 0 hx (omega arith) (omega arith) (xor_zero W)
      ∙ ap₂ (λ (n b : ℕ). rounded_up x W (x % 2 ^ k) n (x % 2 ^ k) b) below_none (mul-one (sign x))
      ∙ next_above x k (x % 2 ^ k) (sign x) hx hi hk (low_lt x k 63 (omega arith)) (omega arith)
      ∙ ap (λ (s : ℕ). (x / 2 ^ k + s * min (x % 2 ^ k) 1) * 2 ^ k) (mod-eq_of_lt (omega arith)) ∙ sym (floor_word x lo hi hx)

  floor_above : 1075 ≤ expo x → floored_to x 0 0 0 ≡ floor x
  floor_above g =
      let none : x % 2 ^ 0 ≡ 0 = mod-one x in
      floored x 0 0 0 0 hx (omega arith) (omega arith) (xor_zero 0)
      ∙ stays x 0 0 (shr_w 0 62) (x % 2 ^ 0) (sign x * 1) (omega arith) (omega arith) (omega arith)
      (ap (λ (r : ℕ). sign x * 1 % 2 * min r 1) none ∙ mul-zero (sign x * 1 % 2))
      ∙ mul-one (x / 1) ∙ div-one x ∙ sym (floor_large x g)

  -- by what the decoder leaves
  left : (W U e : ℕ) → mask_w (one_place_of (marked_of x)) ≡ W → mask_u (high_part x) (is_one (marked_of x)) ≡ U → riders (marked_of x) ≡ e → floor_model x ≡ floored_to x W U e
  unfolding floor_model
  left W U e we ue ee = ap₂ (λ (W U : ℕ). floored_to x W U (riders (marked_of x))) we ue ∙ ap (floored_to x W U) ee

  floor_model_is : floor_model x ≡ floor x
  floor_model_is =
      let d = decoded_with_zero x hx in
      elim (lt_or_ge (expo x) 1023) [
        | inl l ↦ let m = d.masks.below l in left 0 (2 ^ 63 - 1) (cond (eqb (expo x) 0) 1 0) m.1 m.2 d.zero ∙ floor_below l
        | inr g ↦
            let z : riders (marked_of x) ≡ 0 = d.zero ∙ if_not_eq (expo x) 0 1 0 (λ e. omega arith) in
            elim (lt_or_ge (expo x) 1075) [
              | inl l ↦ let m = d.masks.between g l in left (2 ^ (1075 - expo x) - 1) 0 0 m.1 m.2 z ∙ floor_between g l
              | inr g₁ ↦ let m = d.masks.large g₁ in left 0 0 0 m.1 m.2 z ∙ floor_above g₁
            ]
      ]

-- what holds of the plan
pub floor_plan_is : Computes floor_plan (λ a b. floor a)
unfolding floor_plan
floor_plan_is = plan_computes floor_steps (λ a b. floor a) floor_well_formed (λ f words. modelled f ∙ floor_model_is (f 0) (words 0))
