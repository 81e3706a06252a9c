-- The sum's plan, a step of the addition with bits r and s beside it: where the carries leave the places 0 to 9 free, it is the plain step, and r AND s rides in these places. So five such steps
-- leave the words of the plain addition, and whether sixteen bits that ride along are all ones (`summed_is`). Rests on Run, AddWithRun and Above.
use mathlib.Core.Path.{◌≡◌, refl, sym, ap, ap₂, ◌∙◌, subst}
use mathlib.Core.Logic.{inl, inr}
use mathlib.Core.Bool.{Bool}
use Prim.Native.Nat.{ℕ, ◌+◌, ◌-◌, ◌*◌, ◌/◌, ◌%◌, ◌^◌, ◌≤◌, ◌<◌}
use native.Mathlib.Nat.{add-zero, mod-lt, eq-or-lt_of_le}
use native.Mathlib.Omega.{arith}
use lib.Dec.{eqb, eqb→eq}
use lib.Pow as Pow
use lib.Pow.{pow_pos}
use Rattle.bits.specs.Ops.{xor_w, and_w, not_w, shl_w, shr_w}
use Rattle.bits.proofs.Digits.{digit}
use Rattle.bits.proofs.Xor.{and_zero_l, and_comm}
use Rattle.bits.proofs.Bound.{and_le, and_lt, shr_lt, not_lt}
use Rattle.bits.proofs.Sum.{xor_packed}
use Rattle.bits.proofs.Places.{shr_is, shl_exact, and_block}
use Rattle.plans.proofs.Fields.{low_bits, without_low}
use Rattle.plans.proofs.Lanes.{is_zero}
use Rattle.plans.proofs.Tests.{each}
use Rattle.plans.proofs.Above.{Above, above_is, above_xor, above_and, above_shl}
use Rattle.plans.proofs.CarryRun.{carry_g, carry_n}
use Rattle.plans.proofs.AddWithRun.{Words, begin, step, pair, whole_run}
use Rattle.plans.proofs.sum.Run.{ridden_and, rider, ridden, Summed, summed_w}

-- ---- one step
module _ (k r s : ℕ) (w : Words) (h : Above 10 w.G) (hr : r < 2 ^ 10) (hs : s < 2 ^ 10) where
  abbrev γ : ℕ
  γ = shl_w w.G k / 2 ^ 10

  abbrev p : ℕ
  p = not_w w.N / 2 ^ 10

  γ_is : shl_w w.G k ≡ γ * 2 ^ 10
  γ_is = above_is 10 (shl_w w.G k) (above_shl 54 10 w.G k refl h)

  and_is : ridden_and k r s w ≡ and_w γ p * 2 ^ 10 + and_w s r
  unfolding ridden_and
  and_is =
      let e : shl_w (shr_w (not_w w.N) 10) 10 ≡ p * 2 ^ 10 = ap (λ (x : ℕ). shl_w x 10) (shr_is (not_w w.N) 10) ∙ shl_exact 54 10 p (Pow.shr_lt 54 10 (not_lt w.N)) (omega arith) in
      ap₂ and_w (ap (λ (x : ℕ). xor_w x s) γ_is ∙ xor_packed γ 10 s hs) (ap (λ (x : ℕ). xor_w x r) e ∙ xor_packed p 10 r hr) ∙ and_block 10 γ p s r hs hr

  both_lt : and_w s r < 2 ^ 10
  both_lt = and_lt 10 s r hs

  rider_low : rider (ridden_and k r s w) ≡ ridden_and k r s w % 2 ^ 10
  unfolding rider
  rider_low = low_bits (ridden_and k r s w) 54 10 refl

  -- what rides
  rider_is : rider (ridden_and k r s w) ≡ and_w s r
  rider_is = rider_low ∙ ap (λ (x : ℕ). x % 2 ^ 10) and_is ∙ Pow.low (and_w γ p) 10 both_lt

  -- the carries
  carries : xor_w (ridden_and k r s w) (rider (ridden_and k r s w)) ≡ and_w γ p * 2 ^ 10
  carries =
      ap (xor_w (ridden_and k r s w)) rider_low ∙ without_low (ridden_and k r s w) 10 ∙ ap (λ (x : ℕ). x / 2 ^ 10 * 2 ^ 10) and_is ∙ ap (λ (x : ℕ). x * 2 ^ 10) (Pow.high (and_w γ p) 10 both_lt)

  plain : and_w (not_w w.N) (shl_w w.G k) ≡ and_w γ p * 2 ^ 10
  plain =
      let q : ℕ = not_w w.N % 2 ^ 10 in
      and_comm (not_w w.N) (shl_w w.G k) ∙ ap₂ and_w (γ_is ∙ sym (add-zero (γ * 2 ^ 10))) (sym (Pow.split (not_w w.N) 10))
      ∙ and_block 10 γ p 0 q (pow_pos 10) (mod-lt (not_w w.N) (pow_pos 10)) ∙ ap (λ (x : ℕ). and_w γ p * 2 ^ 10 + x) (and_zero_l q) ∙ add-zero (and_w γ p * 2 ^ 10)

  ridden_is : ridden k r s w ≡ step k w
  unfolding carry_g
  ridden_is = ap (λ (x : ℕ). record { G = xor_w w.G x; N = carry_n k w.N }) (carries ∙ sym plain)

-- the places stay free
above_step : (k : ℕ) (w : Words) → Above 10 w.G → Above 10 (step k w).G
unfolding carry_g
above_step k w h = above_xor 10 w.G (and_w (not_w w.N) (shl_w w.G k)) h (above_and 10 (not_w w.N) (shl_w w.G k) (above_shl 54 10 w.G k refl h))

-- ---- the bits that ride: eight, then four, two and one of them
abbrev down : ℕ → ℕ → ℕ
down k r = and_w (shr_w r k) r

abbrev folded : ℕ → ℕ
folded r = down 1 (down 2 (down 4 r))

-- 1 where all eight are ones, computed for each
abbrev folded_right : ℕ → Bool
folded_right r = eqb (folded r) (is_zero (2 ^ 8 - 1 - r))

folded_is : (r : ℕ) → r < 2 ^ 8 → folded r ≡ is_zero (2 ^ 8 - 1 - r)
folded_is r h = eqb→eq _ _ (each 256 folded_right (unfold and_w shr_w in tt) r h)

-- eight bits AND eight others are all ones where the sixteen are
both_full : (K : ℕ) → K < 2 ^ 16 → is_zero (2 ^ 8 - 1 - and_w (K / 2 ^ 8) (K % 2 ^ 8)) ≡ is_zero (2 ^ 16 - 1 - K)
both_full K h =
    let x : ℕ = and_w (K / 2 ^ 8) (K % 2 ^ 8) in
    elim (eq-or-lt_of_le (Pow.le_ones 16 h)) [
      | inl e ↦ subst (λ (n : ℕ). is_zero (2 ^ 8 - 1 - and_w (n / 2 ^ 8) (n % 2 ^ 8)) ≡ is_zero (2 ^ 16 - 1 - n)) (sym e) full
      | inr l ↦ some x K (and_le (K / 2 ^ 8) (K % 2 ^ 8)) (subst (λ (y : ℕ). y ≤ K % 2 ^ 8) (and_comm (K % 2 ^ 8) (K / 2 ^ 8)) (and_le (K % 2 ^ 8) (K / 2 ^ 8))) l
    ]
  where
    full : is_zero (2 ^ 8 - 1 - and_w ((2 ^ 16 - 1) / 2 ^ 8) ((2 ^ 16 - 1) % 2 ^ 8)) ≡ is_zero (2 ^ 16 - 1 - (2 ^ 16 - 1))
    full = unfold and_w in refl

    some : (x K : ℕ) → x ≤ K / 2 ^ 8 → x ≤ K % 2 ^ 8 → K < 2 ^ 16 - 1 → is_zero (2 ^ 8 - 1 - x) ≡ is_zero (2 ^ 16 - 1 - K)
    some x K p q l = omega arith

-- whether K lacks one of sixteen ones
abbrev pub lost : ℕ → ℕ
lost K = 1 - is_zero (2 ^ 16 - 1 - K)

pub lost_lt : (K : ℕ) → lost K < 2
lost_lt K = omega arith

-- ---- the steps
abbrev last : ℕ → Words → ℕ → Summed
last u w st = record { words = pair 32 32 (ridden 16 st u w); sticky = st; borrowed = rider (ridden_and 16 st u w) }

abbrev from8 : ℕ → Words → ℕ → Summed
from8 u w r = last u (ridden 8 r (shr_w r 1) w) (xor_w (rider (ridden_and 8 r (shr_w r 1) w)) 1)

abbrev from4 : ℕ → Words → ℕ → Summed
from4 u w r = from8 u (ridden 4 r (shr_w r 2) w) (rider (ridden_and 4 r (shr_w r 2) w))

abbrev from2 : ℕ → Words → ℕ → Summed
from2 u w r = from4 u (ridden 2 r (shr_w r 4) w) (rider (ridden_and 2 r (shr_w r 4) w))

-- a step with r AND itself shifted right by j beside it
stepped : (f : Words → ℕ → Summed) (k j : ℕ) (w : Words) (r : ℕ) → Above 10 w.G → r < 2 ^ 10 → f (ridden k r (shr_w r j) w) (rider (ridden_and k r (shr_w r j) w)) ≡ f (step k w) (down j r)
stepped f k j w r h l = let m : shr_w r j < 2 ^ 10 = shr_lt 10 r j l in ap₂ f (ridden_is k r (shr_w r j) w h l m) (rider_is k r (shr_w r j) w h l m)

down_lt : (j r : ℕ) → r < 2 ^ 10 → down j r < 2 ^ 10
down_lt j r l = and_lt 10 (shr_w r j) r (shr_lt 10 r j l)

module _ (A C K u : ℕ) (h_a : Above 10 A) (h_k : K < 2 ^ 16) (hu : u < 2) where
  abbrev both : ℕ
  both = and_w (K / 2 ^ 8) (K % 2 ^ 8)

  both_small : both < 2 ^ 8
  both_small = and_lt 8 (K / 2 ^ 8) (K % 2 ^ 8) (Pow.shr_lt 8 8 h_k)

  begun : Above 10 (begin A C).G
  begun = ap (λ (x : ℕ). x % 2 ^ 10) (and_comm A C) ∙ above_and 10 C A h_a

  first : summed_w A C K u ≡ from2 u (step 1 (begin A C)) both
  unfolding summed_w
  first =
      let w : Words = begin A C in
      let l : K % 2 ^ 8 < 2 ^ 10 = omega arith in
      let m : K / 2 ^ 8 < 2 ^ 10 = omega arith in
      ap₂ (λ (r s : ℕ). from2 u (ridden 1 r s w) (rider (ridden_and 1 r s w))) (low_bits K 56 8 refl) (shr_is K 8)
      ∙ ap₂ (from2 u) (ridden_is 1 (K % 2 ^ 8) (K / 2 ^ 8) w begun l m) (rider_is 1 (K % 2 ^ 8) (K / 2 ^ 8) w begun l m)

  sticky_is : xor_w (folded both) 1 ≡ lost K
  sticky_is = ap (λ (x : ℕ). xor_w x 1) (folded_is both both_small ∙ both_full K h_k) ∙ turn (is_zero (2 ^ 16 - 1 - K)) (omega arith)
    where
      turn : (b : ℕ) → b < 2 → xor_w b 1 ≡ 1 - b
      turn b h = unfold xor_w in digit (λ b. xor_w b 1 ≡ 1 - b) refl refl b h

  borrowed_is : and_w u (lost K) ≡ lost K * u
  borrowed_is = product (lost K) u (lost_lt K) hu
    where
      product : (s u : ℕ) → s < 2 → u < 2 → and_w u s ≡ s * u
      product s u hs hu =
          unfold and_w in digit (λ s. and_w u s ≡ s * u) (digit (λ u. and_w u 0 ≡ 0 * u) refl refl u hu) (digit (λ u. and_w u 1 ≡ 1 * u) refl refl u hu) s hs

  pub summed_is : summed_w A C K u ≡ record { words = whole_run A C; sticky = lost K; borrowed = lost K * u }
  unfolding whole_run
  summed_is =
      let w₁ : Words = step 1 (begin A C) in
      let w₂ : Words = step 2 w₁ in
      let w₄ : Words = step 4 w₂ in
      let w₈ : Words = step 8 w₄ in
      let h₁ = above_step 1 (begin A C) begun in
      let h₂ = above_step 2 w₁ h₁ in
      let h₄ = above_step 4 w₂ h₂ in
      let h₈ = above_step 8 w₄ h₄ in
      let l₁ : both < 2 ^ 10 = let l = both_small in omega arith in
      let l₂ = down_lt 4 both l₁ in
      let l₄ = down_lt 2 (down 4 both) l₂ in
      let st : ℕ = lost K in
      let ls : st < 2 ^ 10 = let l = lost_lt K in omega arith in
      let lu : u < 2 ^ 10 = omega arith in
      first ∙ stepped (from4 u) 2 4 w₁ both h₁ l₁ ∙ stepped (from8 u) 4 2 w₂ (down 4 both) h₂ l₂
      ∙ stepped (λ w r. last u w (xor_w r 1)) 8 1 w₄ (down 2 (down 4 both)) h₄ l₄ ∙ ap (last u w₈) sticky_is
      ∙ ap₂ (λ (w : Words) (b : ℕ). record { words = pair 32 32 w; sticky = st; borrowed = b }) (ridden_is 16 st u w₈ h₈ ls lu) (rider_is 16 st u w₈ h₈ ls lu ∙ borrowed_is)
