-- Bits that ride beside a word in an AND: in places 9 to 11, where the word itself has nothing. What the steps `riding` of specs/Decoder leave, in numbers:
-- the riders and the word come apart as if each had been in an AND of its own.
-- Rests on bits' block laws and Fields.
use mathlib.Core.Path.{◌≡◌, refl, sym, ap, ap₂, ◌∙◌}
use Prim.Native.Nat.{ℕ, ◌+◌, ◌*◌, ◌/◌, ◌%◌, ◌^◌, ◌<◌}
use native.Mathlib.Omega.{arith}
use Rattle.bits.specs.Ops.{xor_w, and_w, shl_w, shr_w}
use Rattle.bits.proofs.Xor.{xor_comm, xor_zero}
use Rattle.bits.proofs.Bound.{and_lt, xor_lt, shl_lt}
use Rattle.bits.proofs.Places.{shr_is, shl_exact, and_block, xor_block}
use Rattle.bits.proofs.Sum.{xor_packed}
use Rattle.plans.proofs.Fields.{field, low_bits}

-- what rides in x; two words with riders in one AND; the riders, and the word, taken off again
abbrev pub beside : ℕ → ℕ → ℕ
beside x l = xor_w x (shl_w l 9)

abbrev pub rode : ℕ → ℕ → ℕ → ℕ → ℕ
rode x y l r = and_w (beside x l) (beside y r)

abbrev pub riders : ℕ → ℕ
riders w = shr_w (shl_w w 52) 61

abbrev pub carrier : ℕ → ℕ
carrier w = xor_w (shl_w (shr_w w 12) 12) (shr_w (shl_w w 55) 55)

-- the word with places 9 to 11 cleared
pub carrier_parts : (w : ℕ) → w < 2 ^ 64 → carrier w ≡ w / 2 ^ 12 * 2 ^ 12 + w % 2 ^ 9
carrier_parts w h =
    ap₂ xor_w (ap (λ (t : ℕ). shl_w t 12) (shr_is w 12) ∙ shl_exact 52 12 (w / 2 ^ 12) (omega arith) (omega arith)) (low_bits w 55 9 (omega arith))
    ∙ xor_packed (w / 2 ^ 12) 12 (w % 2 ^ 9) (omega arith)

-- a word with places 9 to 11 free
pub record Free (x : ℕ) : Type 0 where
  pub word : x < 2 ^ 64
  pub free : x / 2 ^ 9 % 8 ≡ 0

module _ (x : ℕ) (f : Free x) where
  -- the word in two parts, above and below the free places
  parts : x ≡ x / 2 ^ 12 * 2 ^ 12 + x % 2 ^ 9
  parts = omega (arith, f.free)

  pub beside_is : (l : ℕ) → l < 8 → beside x l ≡ x / 2 ^ 12 * 2 ^ 12 + (l * 2 ^ 9 + x % 2 ^ 9)
  beside_is l h =
      let low : x % 2 ^ 9 < 2 ^ 12 = omega arith in
      let mid : l * 2 ^ 9 < 2 ^ 12 = omega arith in
      let none : l * 2 ^ 9 ≡ 0 * 2 ^ 12 + l * 2 ^ 9 = omega arith in
      ap₂ xor_w parts (shl_exact 3 9 l h (omega arith) ∙ none)
      ∙ xor_block 12 (x / 2 ^ 12) 0 (x % 2 ^ 9) (l * 2 ^ 9) low mid
      ∙ ap₂ (λ (a b : ℕ). a * 2 ^ 12 + b) (xor_zero (x / 2 ^ 12)) (xor_comm (x % 2 ^ 9) (l * 2 ^ 9) ∙ xor_packed l 9 (x % 2 ^ 9) (omega arith))

module _ (x y l r : ℕ) (fx : Free x) (fy : Free y) (hl : l < 8) (hr : r < 8) where
  top : ℕ
  top = and_w (x / 2 ^ 12) (y / 2 ^ 12)

  low : ℕ
  low = and_w (x % 2 ^ 9) (y % 2 ^ 9)

  mid : ℕ
  mid = and_w l r

  low_lt : low < 2 ^ 9
  unfolding low
  low_lt = and_lt 9 (x % 2 ^ 9) (y % 2 ^ 9) (omega arith)

  mid_lt : mid < 8
  unfolding mid
  mid_lt = and_lt 3 l r hl

  rode_is : rode x y l r ≡ top * 2 ^ 12 + (mid * 2 ^ 9 + low)
  unfolding top mid low
  rode_is =
      let lx : l * 2 ^ 9 + x % 2 ^ 9 < 2 ^ 12 = omega arith in
      let ly : r * 2 ^ 9 + y % 2 ^ 9 < 2 ^ 12 = omega arith in
      ap₂ and_w (beside_is x fx l hl) (beside_is y fy r hr)
      ∙ and_block 12 (x / 2 ^ 12) (y / 2 ^ 12) (l * 2 ^ 9 + x % 2 ^ 9) (r * 2 ^ 9 + y % 2 ^ 9) lx ly
      ∙ ap (λ (b : ℕ). and_w (x / 2 ^ 12) (y / 2 ^ 12) * 2 ^ 12 + b) (and_block 9 l r (x % 2 ^ 9) (y % 2 ^ 9) (omega arith) (omega arith))

  apart : and_w x y ≡ top * 2 ^ 12 + low
  unfolding top low
  apart =
      ap₂ and_w (parts x fx) (parts y fy)
      ∙ and_block 12 (x / 2 ^ 12) (y / 2 ^ 12) (x % 2 ^ 9) (y % 2 ^ 9) (omega arith) (omega arith)

  pub rode_lt : rode x y l r < 2 ^ 64
  rode_lt = and_lt 64 (beside x l) (beside y r) (xor_lt 64 x (shl_w l 9) fx.word (shl_lt l 9))

  pub riders_are : riders (rode x y l r) ≡ and_w l r
  riders_are = ap riders rode_is ∙ field (top * 2 ^ 12 + (mid * 2 ^ 9 + low)) 52 9 3 (omega arith) ∙ middle top mid low low_lt mid_lt ∙ mid_is
    where
      middle : (t m w : ℕ) → w < 2 ^ 9 → m < 8 → (t * 2 ^ 12 + (m * 2 ^ 9 + w)) / 2 ^ 9 % 2 ^ 3 ≡ m
      middle t m w h k = omega arith

      mid_is : mid ≡ and_w l r
      mid_is = unfold mid in refl

  pub carrier_is : carrier (rode x y l r) ≡ and_w x y
  carrier_is = carrier_parts (rode x y l r) rode_lt ∙ ap (λ (w : ℕ). w / 2 ^ 12 * 2 ^ 12 + w % 2 ^ 9) rode_is ∙ outer top mid low low_lt mid_lt ∙ sym apart
    where
      outer : (t m w : ℕ) → w < 2 ^ 9 → m < 8 → (t * 2 ^ 12 + (m * 2 ^ 9 + w)) / 2 ^ 12 * 2 ^ 12 + (t * 2 ^ 12 + (m * 2 ^ 9 + w)) % 2 ^ 9 ≡ t * 2 ^ 12 + w
      outer t m w h k = omega arith
