-- The sum's plan, rounding: one is added to the packed result where the first bit dropped is set, and so is the last one kept or a later one. Rests on RunOfOnes, RoundUp and binary64's Round.
use mathlib.Core.Path.{◌≡◌, refl, sym, ap, ap₂, ◌∙◌}
use Prim.Native.Nat.{ℕ, ◌+◌, ◌-◌, ◌*◌, ◌/◌, ◌%◌, ◌^◌, ◌<◌, min}
use native.Mathlib.Nat.{add-zero, mul-zero, mul-one}
use native.Mathlib.Omega.{arith}
use Rattle.bits.specs.Ops.{xor_w, and_w, not_w, shl_w, shr_w, spread_w}
use Rattle.bits.proofs.Digits.{digit, bit_lt}
use Rattle.bits.proofs.Xor.{xor_comm, xor_zero}
use Rattle.bits.proofs.Sum.{xor_packed}
use Rattle.bits.proofs.Bound.{not_lt, shr_lt}
use Rattle.bits.proofs.Choice.{and_spread}
use Rattle.bits.proofs.Places.{shr_is}
use Rattle.binary64.specs.inner.Steps.{round_ne}
use Rattle.binary64.proofs.Round.{round_tie}
use Rattle.plans.proofs.Fields.{low_bits, bit_mul_lt}
use Rattle.plans.proofs.Shifts.{shl_keeps}
use Rattle.plans.proofs.RunOfOnes.{run_of, or_of, raise}
use Rattle.plans.proofs.RoundUp.{opposite, added, decision}
use Rattle.plans.proofs.sum.Run.{dropped_w, rounded_w}

-- bit 11 of z, and its bits 9..0: the last bit kept, and the bits after the first one dropped
dropped : ℕ → ℕ
dropped z = z / 2 ^ 11 % 2 * 2 ^ 10 + z % 2 ^ 10

dropped_lt : (z : ℕ) → dropped z < 2 ^ 11
unfolding dropped
dropped_lt z = omega arith

dropped_is : (z : ℕ) → dropped_w z ≡ dropped z
unfolding dropped_w dropped
dropped_is z =
    let up : shr_w (shl_w (shr_w z 11) 63) 53 ≡ z / 2 ^ 11 % 2 * 2 ^ 10 =
    shr_is (shl_w (shr_w z 11) 63) 53 ∙ ap (λ (x : ℕ). x / 2 ^ 53) (shl_keeps 1 63 (shr_w z 11) refl ∙ ap (λ (x : ℕ). x % 2 * 2 ^ 63) (shr_is z 11)) ∙ omega arith in
    ap₂ xor_w (low_bits z 54 10 refl) up ∙ xor_comm (z % 2 ^ 10) (z / 2 ^ 11 % 2 * 2 ^ 10) ∙ xor_packed (z / 2 ^ 11 % 2) 10 (z % 2 ^ 10) (omega arith)

-- ---- the word
module _ (Y z : ℕ) (h_y : Y < 2 ^ 63) (hz : z < 2 ^ 64) where
  abbrev g : ℕ
  g = shr_w z 10

  abbrev F : ℕ
  F = (1 - g % 2) * 2 ^ 63 + dropped z

  F_lt : F < 2 ^ 64
  F_lt = let h = dropped_lt z in omega arith

  F_is : xor_w (dropped_w z) (shl_w (not_w g) 63) ≡ F
  F_is =
      let h : dropped z < 2 ^ 63 = let l = dropped_lt z in omega arith in
      ap₂ xor_w (dropped_is z) (opposite g (shr_lt 64 z 10 hz)) ∙ xor_comm (dropped z) ((1 - g % 2) * 2 ^ 63) ∙ xor_packed (1 - g % 2) 63 (dropped z) h

  abbrev run : ℕ
  run = not_w (shl_w (run_of (not_w Y) F) 1)

  raised : (c : ℕ) → c < 2 → xor_w Y (run * c) ≡ Y + c
  raised = digit (λ c. xor_w Y (run * c) ≡ Y + c) (ap (xor_w Y) (mul-zero run) ∙ xor_zero Y ∙ sym (add-zero Y)) (ap (xor_w Y) (mul-one run) ∙ raise Y F (omega arith) F_lt)

  word_is : rounded_w Y z ≡ Y + g % 2 * min (dropped z) 1
  unfolding rounded_w
  word_is =
      ap (λ (x : ℕ). xor_w Y (and_w (not_w (shl_w (run_of (not_w Y) x) 1)) (spread_w (xor_w (not_w (or_of (not_w Y) x)) g)))) F_is
      ∙ ap (xor_w Y) (and_spread run (xor_w (not_w (or_of (not_w Y) F)) g) (not_lt (shl_w (run_of (not_w Y) F) 1)) ∙ ap (λ (x : ℕ). run * x) (added Y F g F_lt ∙ decision (g % 2) (dropped z) (bit_lt g)))
      ∙ raised (g % 2 * min (dropped z) 1) (bit_mul_lt g (min (dropped z) 1) 1 (omega arith))

-- ---- z's significand: N kept, r the first bit dropped, s the others
round_up : (z : ℕ) → z / 2 ^ 11 + z / 2 ^ 10 % 2 * min (dropped z) 1 ≡ round_ne z 11
unfolding dropped
round_up z =
    let N : ℕ = z / 2 ^ 11 in
    let r : ℕ = z / 2 ^ 10 % 2 in
    let s : ℕ = z % 2 ^ 10 in
    let e : z ≡ N * 2 ^ 11 + (r * 2 ^ 10 + s) = omega arith in
    ap (λ (x : ℕ). N + r * x) (scaled (N % 2) s) ∙ sym (round_tie 10 N r s (omega arith) (omega arith)) ∙ ap (λ (x : ℕ). round_ne x 11) (sym e)
  where
    scaled : (b s : ℕ) → min (b * 2 ^ 10 + s) 1 ≡ min (b + s) 1
    scaled b s = omega arith

-- a packed result whose significand is z's, t places up
pub rounded_is : (t z : ℕ) → t * 2 ^ 52 + z / 2 ^ 11 < 2 ^ 63 → z < 2 ^ 64 → rounded_w (t * 2 ^ 52 + z / 2 ^ 11) z ≡ t * 2 ^ 52 + round_ne z 11
rounded_is t z h hz =
    word_is (t * 2 ^ 52 + z / 2 ^ 11) z h hz ∙ ap (λ (x : ℕ). t * 2 ^ 52 + z / 2 ^ 11 + x % 2 * min (dropped z) 1) (shr_is z 10)
    ∙ regroup (t * 2 ^ 52) (z / 2 ^ 11) (z / 2 ^ 10 % 2 * min (dropped z) 1) ∙ ap (λ (x : ℕ). t * 2 ^ 52 + x) (round_up z)
  where
    regroup : (x y z : ℕ) → x + y + z ≡ x + (y + z)
    regroup x y z = omega arith
