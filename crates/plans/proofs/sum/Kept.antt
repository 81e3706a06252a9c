-- The sum's plan, the bits lost brought to 16 bits, inverted, with riders from place 32 on: the riders go as in ANDs of their own, and the 16 bits are Or16's.
-- What the aligned operand and these 16 bits are then. Rests on Run, Or16 and SmallBits.
use mathlib.Core.Path.{◌≡◌, refl, sym, ap, ap₂, ◌∙◌, subst}
use Prim.Native.Nat.{ℕ, ◌+◌, ◌-◌, ◌*◌, ◌/◌, ◌%◌, ◌^◌, ◌<◌}
use native.Mathlib.Nat.{mod-lt}
use native.Mathlib.Omega.{arith}
use lib.Pow.{pow_pos, low}
use Rattle.bits.specs.Ops.{xor_w, and_w, not_w, shl_w, shr_w}
use Rattle.bits.proofs.Bound.{and_lt, not_lt, shl_lt, shr_lt}
use Rattle.bits.proofs.Choice.{and_spread}
use Rattle.bits.proofs.Places.{shr_is, shl_exact}
use Rattle.plans.proofs.Fields.{low_bits}
use Rattle.plans.proofs.Lanes.{is_zero, and_down}
use Rattle.plans.proofs.Or16.{down32, down32_lt, gathered, or16_is, or16_zero}
use Rattle.plans.proofs.SmallBits.{ride}
use Rattle.plans.proofs.sum.Run.{lost32, lost16, aligned_w}

above : (r g : ℕ) → g < 2 ^ 32 → (r * 2 ^ 32 + g) / 2 ^ 32 ≡ r
above r g h = omega arith

-- ---- from 64 places to 32
lost32_is : (l r : ℕ) → r < 16 → lost32 l r ≡ and_down 2 r * 2 ^ 32 + and_down 32 (not_w l)
unfolding lost32
lost32_is l r h =
    let n : ℕ = not_w l in
    let hn : n < 2 ^ 64 = not_lt l in
    ap₂ (λ (i j : ℕ). and_w (xor_w i (shl_w r 32)) (xor_w j (shl_w (shr_w r 2) 32))) (low_bits n 32 32 refl) (shr_is n 32)
    ∙ ride 4 32 (n % 2 ^ 32) (n / 2 ^ 32) r (shr_w r 2) (mod-lt n (pow_pos 32)) (omega arith) h (shr_lt 4 r 2 h) (omega arith)
    ∙ ap (λ (u : ℕ). and_down 2 r * 2 ^ 32 + u) (sym (down32 n hn))

-- ---- from 32 places to 16
lost16_is : (r g : ℕ) → r < 16 → g < 2 ^ 32 → lost16 (r * 2 ^ 32 + g) ≡ and_down 1 r * 2 ^ 32 + and_down 16 g
unfolding lost16
lost16_is r g hr hg =
    ap₂ (λ (n p : ℕ). and_w (xor_w n (shl_w p 32)) (xor_w (shr_w n 16) (shl_w (shr_w p 1) 32)))
    (low_bits (r * 2 ^ 32 + g) 32 32 refl ∙ low r 32 hg) (shr_is (r * 2 ^ 32 + g) 32 ∙ above r g hg)
    ∙ ride 4 32 g (shr_w g 16) r (shr_w r 1) hg (shr_lt 32 g 16 hg) hr (shr_lt 4 r 1 hr) (omega arith)

-- ---- both, with riders r of four bits
module _ (l r : ℕ) (hr : r < 16) where
  abbrev g : ℕ
  g = and_down 32 (not_w l)

  g_lt : g < 2 ^ 32
  g_lt = down32_lt (not_w l) (not_lt l)

  abbrev f : ℕ
  f = lost16 (lost32 l r)

  f_is : f ≡ and_down 1 (and_down 2 r) * 2 ^ 32 + gathered l
  unfolding gathered
  f_is = ap lost16 (lost32_is l r hr) ∙ lost16_is (and_down 2 r) g (and_lt 4 r (shr_w r 2) hr) g_lt

  gathered_lt : gathered l < 2 ^ 32
  unfolding gathered
  gathered_lt = and_lt 32 g (shr_w g 16) g_lt

  -- the aligned operand, where the riders leave a one
  pub value_is : (w : ℕ) → w < 2 ^ 63 → (aligned_w w (lost16 (lost32 l r))).value ≡ 2 * w * (and_down 1 (and_down 2 r) % 2)
  unfolding aligned_w
  value_is w h =
      and_spread (shl_w w 1) (shr_w f 32) (shl_lt w 1)
      ∙ ap₂ (λ (x y : ℕ). x * (y % 2)) (shl_exact 63 1 w h (omega arith) ∙ omega arith)
      (shr_is f 32 ∙ ap (λ (x : ℕ). x / 2 ^ 32) f_is ∙ above (and_down 1 (and_down 2 r)) (gathered l) gathered_lt)

  kept_is : (w : ℕ) → (aligned_w w (lost16 (lost32 l r))).kept ≡ gathered l % 2 ^ 16
  unfolding aligned_w
  kept_is w = low_bits f 48 16 refl ∙ ap (λ (x : ℕ). x % 2 ^ 16) f_is ∙ below (and_down 1 (and_down 2 r)) (gathered l)
    where
      below : (r g : ℕ) → (r * 2 ^ 32 + g) % 2 ^ 16 ≡ g % 2 ^ 16
      below r g = omega arith

  pub kept_small : (w : ℕ) → (aligned_w w (lost16 (lost32 l r))).kept < 2 ^ 16
  kept_small w = subst (λ (x : ℕ). x < 2 ^ 16) (sym (kept_is w)) (mod-lt (gathered l) (pow_pos 16))

  -- they are all ones exactly where nothing is lost
  pub kept_none : (w : ℕ) → l < 2 ^ 64 → is_zero (2 ^ 16 - 1 - (aligned_w w (lost16 (lost32 l r))).kept) ≡ is_zero l
  kept_none w h = ap (λ (x : ℕ). is_zero (2 ^ 16 - 1 - x)) (kept_is w) ∙ ap is_zero (sym (or16_is l)) ∙ or16_zero l h
