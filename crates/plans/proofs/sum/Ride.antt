-- The sum's plan, two lanes of 16 bits that ride beside the carries and the run of the exponent: in the one AND of a step they stand in places 16 to 47, which the step leaves free.
-- A step is TopRun's, with the lanes ANDed with themselves shifted right. Rests on TopRun and Lanes.
use mathlib.Core.Path.{◌≡◌, refl, sym, ap, ap₂, ◌∙◌}
use Prim.Native.Nat.{ℕ, ◌+◌, ◌*◌, ◌/◌, ◌%◌, ◌^◌, ◌<◌}
use native.Mathlib.Nat.{mul-mod_left}
use native.Mathlib.Omega.{arith}
use lib.Pow as Pow
use Rattle.bits.specs.Ops.{xor_w, and_w, not_w, shl_w, shr_w}
use Rattle.bits.proofs.Xor.{xor_assoc, xor_swap_r}
use Rattle.bits.proofs.Bound.{and_lt, not_lt, shl_lt, shr_lt}
use Rattle.bits.proofs.Sum.{xor_packed}
use Rattle.bits.proofs.Places.{shr_is, and_block}
use Rattle.plans.proofs.Fields.{field, pack}
use Rattle.plans.proofs.Shifts.{shl_keeps, and_fields}
use Rattle.plans.proofs.Lanes.{and_down}
use Rattle.plans.proofs.AddWithRun.{pair_and, pair_g, pair_n, Words, pair}
use Rattle.plans.proofs.TopRun.{Top, top_is, top_xor, top_shl, top_run}
use Rattle.plans.proofs.sum.Run.{Riding, ride_and, ride}

-- three fields
abbrev fields : ℕ → ℕ → ℕ → ℕ
fields x y z = (x * 2 ^ 32 + y) * 2 ^ 16 + z

-- the two sides of the AND
left : (p l : ℕ) → p < 2 ^ 16 → l < 2 ^ 32 → xor_w (xor_w p (shl_w p 48)) (shl_w l 16) ≡ fields p l p
left p l hp hl =
    xor_swap_r p (shl_w p 48) (shl_w l 16) ∙ ap (λ (x : ℕ). xor_w x (shl_w p 48)) (pack 32 16 p l hp hl (omega arith)) ∙ pack 16 48 (l * 2 ^ 16 + p) p (omega arith) hp (omega arith)
    ∙ omega arith

right : (c m v : ℕ) → v < 2 ^ 16 → m < 2 ^ 32 → xor_w (xor_w (c * 2 ^ 48) v) (shl_w m 16) ≡ fields c m v
right c m v hv hm = xor_assoc (c * 2 ^ 48) v (shl_w m 16) ∙ ap (xor_w (c * 2 ^ 48)) (pack 32 16 v m hv hm (omega arith)) ∙ xor_packed c 48 (m * 2 ^ 16 + v) (omega arith) ∙ omega arith

-- ---- a step
module _ (k l : ℕ) (w : Words) (t : Top w.G) (hl : l < 2 ^ 32) where
  p : ℕ
  p = not_w w.N / 2 ^ 48

  c : ℕ
  c = shl_w w.G k / 2 ^ 48

  v : ℕ
  v = shl_w w.N k / 2 ^ 48

  abbrev m : ℕ
  m = shr_w l (8 / k)

  p_lt : p < 2 ^ 16
  unfolding p
  p_lt = Pow.shr_lt 16 48 (not_lt w.N)

  v_lt : v < 2 ^ 16
  unfolding v
  v_lt = Pow.shr_lt 16 48 (shl_lt w.N k)

  m_lt : m < 2 ^ 32
  m_lt = shr_lt 32 l (8 / k) hl

  c_is : shl_w w.G k ≡ c * 2 ^ 48
  unfolding c
  c_is = top_is (shl_w w.G k) (top_shl w.G k t)

  abbrev started : Riding
  started = record { words = w; lanes = l }

  ride_and_is : ride_and k started ≡ fields (and_w p c) (and_w l m) (and_w p v)
  unfolding ride_and p v
  ride_and_is =
      ap₂ (λ (x y : ℕ). and_w (xor_w (xor_w x (shl_w x 48)) (shl_w l 16)) (xor_w (xor_w (shl_w w.G k) y) (shl_w m 16))) (shr_is (not_w w.N) 48) (shr_is (shl_w w.N k) 48)
      ∙ ap (λ (x : ℕ). and_w (xor_w (xor_w p (shl_w p 48)) (shl_w l 16)) (xor_w (xor_w x v) (shl_w m 16))) c_is
      ∙ ap₂ and_w (left p l p_lt hl) (right c m v v_lt m_lt) ∙ and_fields 32 16 p l p c m v hl m_lt p_lt v_lt

  pair_and_is : pair_and 48 k w.G w.N ≡ fields (and_w p c) 0 (and_w p v)
  unfolding pair_and p v
  pair_and_is =
      let hp : p < 2 ^ 48 = let h = p_lt in omega arith in
      let hv : v < 2 ^ 48 = let h = v_lt in omega arith in
      ap₂ (λ (x y : ℕ). and_w (xor_w x (shl_w x 48)) (xor_w (shl_w w.G k) y)) (shr_is (not_w w.N) 48) (shr_is (shl_w w.N k) 48)
      ∙ ap (λ (x : ℕ). and_w (xor_w p (shl_w p 48)) (xor_w x v)) c_is
      ∙ ap₂ and_w (pack 16 48 p p hp p_lt (omega arith)) (xor_packed c 48 v hv) ∙ and_block 48 p c p v hp hv ∙ plain (and_w p c) (and_w p v)
    where
      plain : (x y : ℕ) → x * 2 ^ 48 + y ≡ fields x 0 y
      plain x y = omega arith

  -- the outer fields are the same, and come out alone
  low_lt : and_w p v < 2 ^ 16
  low_lt = and_lt 16 p v p_lt

  mid_lt : and_w l m < 2 ^ 32
  mid_lt = and_lt 32 l m hl

  same_high : shr_w (ride_and k started) 48 ≡ shr_w (pair_and 48 k w.G w.N) 48
  same_high =
      shr_is (ride_and k started) 48 ∙ ap (λ (x : ℕ). x / 2 ^ 48) ride_and_is ∙ high (and_w p c) (and_w l m) (and_w p v) mid_lt low_lt
      ∙ sym (shr_is (pair_and 48 k w.G w.N) 48 ∙ ap (λ (x : ℕ). x / 2 ^ 48) pair_and_is ∙ high (and_w p c) 0 (and_w p v) (omega arith) low_lt)
    where
      high : (x y z : ℕ) → y < 2 ^ 32 → z < 2 ^ 16 → fields x y z / 2 ^ 48 ≡ x
      high x y z hy hz = omega arith

  same_low : shl_w (ride_and k started) 48 ≡ shl_w (pair_and 48 k w.G w.N) 48
  same_low =
      shl_keeps 16 48 (ride_and k started) refl ∙ ap (λ (x : ℕ). x % 2 ^ 16 * 2 ^ 48) ride_and_is ∙ ap (λ (x : ℕ). x * 2 ^ 48) (low (and_w p c) (and_w l m) (and_w p v) low_lt)
      ∙ sym (shl_keeps 16 48 (pair_and 48 k w.G w.N) refl ∙ ap (λ (x : ℕ). x % 2 ^ 16 * 2 ^ 48) pair_and_is ∙ ap (λ (x : ℕ). x * 2 ^ 48) (low (and_w p c) 0 (and_w p v) low_lt))
    where
      low : (x y z : ℕ) → z < 2 ^ 16 → fields x y z % 2 ^ 16 ≡ z
      low x y z hz = omega arith

  middle : shr_w (shl_w (ride_and k started) 16) 32 ≡ and_w l m
  middle = field (ride_and k started) 16 16 32 refl ∙ ap (λ (x : ℕ). x / 2 ^ 16 % 2 ^ 32) ride_and_is ∙ mid (and_w p c) (and_w l m) (and_w p v) mid_lt low_lt
    where
      mid : (x y z : ℕ) → y < 2 ^ 32 → z < 2 ^ 16 → fields x y z / 2 ^ 16 % 2 ^ 32 ≡ y
      mid x y z hy hz = omega arith

  ride_is : ride k (record { words = w; lanes = l }) ≡ record { words = pair 48 k w; lanes = and_down (8 / k) l }
  unfolding pair_g pair_n
  ride_is =
      ap₂ (λ (x y : ℕ). record { words = record { G = xor_w w.G (shl_w x 48); N = xor_w w.N y }; lanes = shr_w (shl_w (ride_and k started) 16) 32 }) same_high same_low
      ∙ ap (λ (x : ℕ). record { words = pair 48 k w; lanes = x }) middle

  next_top : Top (pair 48 k w).G
  unfolding pair_g
  next_top =
      let x : ℕ = shr_w (pair_and 48 k w.G w.N) 48 in
      top_xor w.G (shl_w x 48) t (ap (λ (y : ℕ). y % 2 ^ 48) (shl_keeps 16 48 x refl) ∙ mul-mod_left (x % 2 ^ 16) (2 ^ 48))

-- ---- the four of them
pub rode : (w : Words) (l : ℕ) → Top w.G → l < 2 ^ 32
    → ride 8 (ride 4 (ride 2 (ride 1 (record { words = w; lanes = l })))) ≡ record { words = top_run w; lanes = and_down 1 (and_down 2 (and_down 4 (and_down 8 l))) }
unfolding top_run
rode w l t h =
    let w₁ : Words = pair 48 1 w in
    let l₁ : ℕ = and_down 8 l in
    let w₂ : Words = pair 48 2 w₁ in
    let l₂ : ℕ = and_down 4 l₁ in
    let w₃ : Words = pair 48 4 w₂ in
    let l₃ : ℕ = and_down 2 l₂ in
    let h₁ : l₁ < 2 ^ 32 = and_lt 32 l (shr_w l 8) h in
    let h₂ : l₂ < 2 ^ 32 = and_lt 32 l₁ (shr_w l₁ 4) h₁ in
    let h₃ : l₃ < 2 ^ 32 = and_lt 32 l₂ (shr_w l₂ 2) h₂ in
    let t₁ : Top w₁.G = next_top 1 l w t h in
    let t₂ : Top w₂.G = next_top 2 l₁ w₁ t₁ h₁ in
    let t₃ : Top w₃.G = next_top 4 l₂ w₂ t₂ h₂ in
    ap (λ (r : Riding). ride 8 (ride 4 (ride 2 r))) (ride_is 1 l w t h) ∙ ap (λ (r : Riding). ride 8 (ride 4 r)) (ride_is 2 l₁ w₁ t₁ h₁)
    ∙ ap (λ (r : Riding). ride 8 r) (ride_is 4 l₂ w₂ t₂ h₂) ∙ ride_is 8 l₃ w₃ t₃ h₃
