-- The sum's plan, the exponent E = E_a + 1 - the count of leading zeros: NOT E_a and the count less 1 are added in the 16 top places, and E is NOT of the sum. Whether E ≤ 0
-- is told by the sum plus 1, which the run gives. Rests on TopRun and Ride.
use mathlib.Core.Path.{◌≡◌, refl, sym, ap, ap₂, ◌∙◌, subst}
use mathlib.Core.Logic.{◌⊎◌, inl, inr}
use Prim.Native.Nat.{ℕ, ◌+◌, ◌-◌, ◌*◌, ◌/◌, ◌%◌, ◌^◌, ◌≤◌, ◌<◌}
use native.Mathlib.Nat.{add-zero, mul-mod_left, mod-lt, mod-eq_of_lt}
use native.Mathlib.Omega.{arith}
use lib.Pow.{pow_pos}
use Rattle.bits.specs.Ops.{xor_w, and_w, not_w, shl_w, shr_w}
use Rattle.bits.proofs.Digits.{bit}
use Rattle.bits.proofs.Xor.{and_zero, xor·ring}
use Rattle.bits.proofs.Bound.{and_lt, xor_lt, shl_lt}
use Rattle.bits.proofs.Sum.{xor_packed}
use Rattle.bits.proofs.Parity.{xor_bit}
use Rattle.bits.proofs.Places.{shr_is, shl_exact, and_block, bit_shl}
use Rattle.binary64.proofs.Cases.{lt_or_ge}
use Rattle.plans.proofs.Fields.{field, low_bits}
use Rattle.plans.proofs.Shifts.{not_is, shl_keeps, lowest, lowest_is, not_top, xor_ones}
use Rattle.plans.proofs.Lanes.{and_down}
use Rattle.plans.proofs.AddWithRun.{Words}
use Rattle.plans.proofs.TopRun.{Top, top_twice, top_start, top_run, TopRuns, plain_xor, top_runs}
use Rattle.plans.proofs.sum.Run.{first_and, result_lanes, few_w, ride_start, exponent_run, less_w, under_w, packed_w, Riding, ride}
use Rattle.plans.proofs.sum.Ride.{rode}

-- whether the two top bits differ
unfoldable pub ends : ℕ → ℕ
ends th = (bit th 62 + bit th 63) % 2

ends_lt : (th : ℕ) → ends th < 2
unfolding ends
ends_lt th = omega arith

ends_is : (th : ℕ) → th < 2 ^ 64 → shr_w (xor_w (shl_w th 1) th) 63 ≡ ends th
unfolding ends
ends_is th h =
    let w : ℕ = xor_w (shl_w th 1) th in
    shr_is w 63 ∙ top w (xor_lt 64 (shl_w th 1) th (shl_lt th 1) h) ∙ xor_bit (shl_w th 1) th 63 ∙ ap (λ (x : ℕ). (x + bit th 63) % 2) (bit_shl th 1 62 (omega arith))
  where
    top : (w : ℕ) → w < 2 ^ 64 → w / 2 ^ 63 ≡ w / 2 ^ 63 % 2
    top w l = omega arith

module _ (e mu th xy : ℕ) (he : e < 2 ^ 11) (hm : mu < 2 ^ 16) (ht : th < 2 ^ 64) where
  abbrev u : ℕ
  u = (2 ^ 16 - 1) - e

  u_lt : u < 2 ^ 16
  u_lt = omega arith

  top_e : shl_w (not_w e) 48 ≡ u * 2 ^ 48
  top_e = not_top e (omega arith)

  top_mu : shl_w mu 48 ≡ mu * 2 ^ 48
  top_mu = shl_exact 16 48 mu hm (omega arith)

  -- ---- the first AND, with a rider in place 0
  rider : ℕ
  rider = and_w (ends th) (e % 2)

  rider_lt : rider < 2
  unfolding rider
  rider_lt = and_lt 1 (ends th) (e % 2) (ends_lt th)

  first_is : first_and e mu th ≡ and_w u mu * 2 ^ 48 + rider
  unfolding first_and rider
  first_is =
      let h : ends th < 2 ^ 48 = let l = ends_lt th in omega arith in
      let k : e % 2 < 2 ^ 48 = omega arith in
      ap₂ and_w (ap₂ xor_w top_e (ends_is th ht) ∙ xor_packed u 48 (ends th) h) (ap₂ xor_w top_mu (lowest_is e) ∙ xor_packed mu 48 (e % 2) k)
      ∙ and_block 48 u mu (ends th) (e % 2) h k

  pub first_low : lowest (first_and e mu th) ≡ and_w (ends th) (e % 2)
  unfolding rider
  first_low = lowest_is (first_and e mu th) ∙ ap (λ (x : ℕ). x % 2) first_is ∙ low (and_w u mu) rider rider_lt
    where
      low : (x y : ℕ) → y < 2 → (x * 2 ^ 48 + y) % 2 ≡ y
      low x y h = omega arith

  plain_and : and_w (u * 2 ^ 48) (mu * 2 ^ 48) ≡ and_w u mu * 2 ^ 48
  plain_and =
      let a : (x : ℕ) → x * 2 ^ 48 ≡ x * 2 ^ 48 + 0 = λ x. sym (add-zero (x * 2 ^ 48)) in
      ap₂ and_w (a u) (a mu) ∙ and_block 48 u mu 0 0 (omega arith) (omega arith) ∙ ap (λ (x : ℕ). and_w u mu * 2 ^ 48 + x) (and_zero 0) ∙ add-zero (and_w u mu * 2 ^ 48)

  start_G : shl_w (shr_w (first_and e mu th) 48) 48 ≡ and_w (u * 2 ^ 48) (mu * 2 ^ 48)
  start_G =
      ap (λ (x : ℕ). shl_w x 48) (shr_is (first_and e mu th) 48 ∙ ap (λ (x : ℕ). x / 2 ^ 48) first_is ∙ high (and_w u mu) rider rider_lt)
      ∙ shl_exact 16 48 (and_w u mu) (and_lt 16 u mu u_lt) (omega arith) ∙ sym plain_and
    where
      high : (x y : ℕ) → y < 2 → (x * 2 ^ 48 + y) / 2 ^ 48 ≡ x
      high x y h = omega arith

  abbrev L : ℕ
  L = result_lanes e (few_w e mu th) xy

  L_lt : L < 2 ^ 32
  unfolding result_lanes
  L_lt = subst (λ (x : ℕ). x < 2 ^ 32) (sym (low_bits _ 32 32 refl)) (mod-lt _ (pow_pos 32))

  abbrev w₀ : Words
  w₀ = top_start (u * 2 ^ 48) (mu * 2 ^ 48)

  start_is : ride_start e mu th xy ≡ record { words = w₀; lanes = L }
  unfolding top_start
  start_is =
      ap₂ (λ (g h : ℕ). record { words = record { G = g; N = shl_w (shr_w (not_w h) 48) 48 }; lanes = L }) start_G (ap₂ xor_w top_e top_mu)

  start_top : Top w₀.G
  unfolding top_start
  start_top = ap (λ (x : ℕ). x % 2 ^ 48) plain_and ∙ mul-mod_left (and_w u mu) (2 ^ 48)

  -- ---- carries, run and lanes
  pub run_is : exponent_run e mu th xy
      ≡ record { words = top_run (top_start (((2 ^ 16 - 1) - e) * 2 ^ 48) (mu * 2 ^ 48)); lanes = and_down 1 (and_down 2 (and_down 4 (and_down 8 (result_lanes e (few_w e mu th) xy)))) }
  unfolding exponent_run
  run_is = ap (λ (r : Riding). ride 8 (ride 4 (ride 2 (ride 1 r)))) start_is ∙ rode w₀ L start_top L_lt

  runs : TopRuns ((2 ^ 16 - 1) - e) mu (exponent_run e mu th xy).words
  runs = subst (TopRuns u mu) (sym (ap (λ (r : Riding). r.words) run_is)) (top_runs u mu u_lt hm)

  abbrev w : Words
  w = (exponent_run e mu th xy).words

  abbrev s : ℕ
  s = (u + mu) % 2 ^ 16

  pub less_is : less_w e mu (exponent_run e mu th xy).words ≡ ((2 ^ 16 - 1) - e + mu) % 2 ^ 16 * 2 ^ 48
  unfolding less_w
  less_is = ap₂ (λ (x y : ℕ). xor_w (xor_w x y) (shl_w w.G 1)) top_e top_mu ∙ runs.sum

  -- bit 15 of NOT (the sum plus 1)
  pub under_is : under_w (less_w e mu (exponent_run e mu th xy).words) (exponent_run e mu th xy).words ≡ ((2 ^ 16 - 1) - ((2 ^ 16 - 1) - e + mu + 1) % 2 ^ 16) / 2 ^ 15
  unfolding under_w
  under_is =
      let M : ℕ = w.N / 2 ^ 48 * 2 % 2 ^ 16 in
      let hs : s < 2 ^ 16 = mod-lt (u + mu) (pow_pos 16) in
      let h_m : M < 2 ^ 16 = mod-lt (w.N / 2 ^ 48 * 2) (pow_pos 16) in
      let sh : shl_w w.N 1 ≡ M * 2 ^ 48 = top_twice w.N (multiple w.N (w.N / 2 ^ 48) runs.top) in
      let opp : xor_w M s ≡ (2 ^ 16 - 1) - (u + mu + 1) % 2 ^ 16 = opposite M s (u + mu + 1) h_m hs runs.plus_one in
      shr_is (xor_w (shl_w w.N 1) (less_w e mu w)) 63 ∙ ap (λ (x : ℕ). x / 2 ^ 63) (ap₂ xor_w sh less_is ∙ plain_xor M s h_m hs ∙ ap (λ (x : ℕ). x * 2 ^ 48) opp)
      ∙ scaled ((2 ^ 16 - 1) - (u + mu + 1) % 2 ^ 16)
    where
      multiple : (n q : ℕ) → n ≡ q * 2 ^ 48 → Top n
      multiple n q e = ap (λ (x : ℕ). x % 2 ^ 48) e ∙ mul-mod_left q (2 ^ 48)

      scaled : (x : ℕ) → x * 2 ^ 48 / 2 ^ 63 ≡ x / 2 ^ 15
      scaled x = omega arith

      -- XOR with NOT M is NOT of XOR with M
      opposite : (M s t : ℕ) → M < 2 ^ 16 → s < 2 ^ 16 → xor_w s ((2 ^ 16 - 1) - M) ≡ t % 2 ^ 16 → xor_w M s ≡ (2 ^ 16 - 1) - t % 2 ^ 16
      opposite M s t h_m hs g =
          let f : (2 ^ 16 - 1) - xor_w M s ≡ t % 2 ^ 16 =
          sym (xor_ones 16 (xor_w M s) (xor_lt 16 M s h_m hs)) ∙ regroup (2 ^ 16 - 1) M s ∙ ap (xor_w s) (xor_ones 16 M h_m) ∙ g in
          let l : xor_w M s < 2 ^ 16 = xor_lt 16 M s h_m hs in
          omega arith
        where
          regroup : (o m s : ℕ) → xor_w o (xor_w m s) ≡ xor_w s (xor_w o m)
          regroup o m s = simp xor·ring

-- ---- the exponent e less the count c, where mu is c - 1 modulo 2^16
module _ (e mu c : ℕ) (he : e < 2 ^ 11) (hm : mu < 2 ^ 16) (at : (mu + 1) % 2 ^ 16 ≡ c) where
  whole : ((mu ≡ 2 ^ 16 - 1) × (c ≡ 0)) ⊎ (mu + 1 ≡ c)
  whole =
      elim (lt_or_ge (mu + 1) (2 ^ 16)) [
        | inl l ↦ inr (sym (mod-eq_of_lt l) ∙ at)
        | inr l ↦ let k : mu ≡ 2 ^ 16 - 1 = omega arith in inl (k, sym at ∙ ap (λ (x : ℕ). (x + 1) % 2 ^ 16) k)
      ]

  pub exponent_at : c ≤ e → (2 ^ 16 - 1) - ((2 ^ 16 - 1) - e + mu) % 2 ^ 16 ≡ e - c + 1
  exponent_at l =
      elim whole [
        | inl p ↦ let k : ((2 ^ 16 - 1) - e + mu) % 2 ^ 16 ≡ (2 ^ 16 - 2) - e = omega (arith, p.0) in omega (arith, p.1)
        | inr p ↦ let k : ((2 ^ 16 - 1) - e + mu) % 2 ^ 16 ≡ (2 ^ 16 - 1) - e + mu = mod-eq_of_lt (omega arith) in omega arith
      ]

  pub under_none : c ≤ e → ((2 ^ 16 - 1) - ((2 ^ 16 - 1) - e + mu + 1) % 2 ^ 16) / 2 ^ 15 % 2 ≡ 0
  under_none l =
      elim whole [
        | inl p ↦ let k : ((2 ^ 16 - 1) - e + mu + 1) % 2 ^ 16 ≡ (2 ^ 16 - 1) - e = omega (arith, p.0) in omega arith
        | inr p ↦ let k : ((2 ^ 16 - 1) - e + mu + 1) % 2 ^ 16 ≡ (2 ^ 16 - 1) - e + mu + 1 = mod-eq_of_lt (omega arith) in omega arith
      ]

  pub under_some : e < c → c < 2 ^ 12 → ((2 ^ 16 - 1) - ((2 ^ 16 - 1) - e + mu + 1) % 2 ^ 16) / 2 ^ 15 % 2 ≡ 1
  under_some l h =
      elim whole [
        | inl p ↦ absurd (omega (arith, p.1))
        | inr p ↦ let k : ((2 ^ 16 - 1) - e + mu + 1) % 2 ^ 16 ≡ c - e - 1 = omega arith in omega arith
      ]

-- ---- E and the bits after the top bit, packed
pub packed_is : (s z : ℕ) → s < 2 ^ 16 → packed_w (s * 2 ^ 48) z ≡ ((2 ^ 16 - 1) - s) % 2 ^ 11 * 2 ^ 52 + z / 2 ^ 11 % 2 ^ 52
unfolding packed_w
packed_is s z h =
    let c : shr_w (not_w (s * 2 ^ 48)) 48 ≡ (2 ^ 16 - 1) - s = shr_is (not_w (s * 2 ^ 48)) 48 ∙ ap (λ (x : ℕ). x / 2 ^ 48) (not_is (s * 2 ^ 48)) ∙ high s h in
    let f : ℕ = z / 2 ^ 11 % 2 ^ 52 in
    let q : ℕ = (2 ^ 16 - 1) - s in
    low_bits (xor_w (shl_w (shr_w (not_w (s * 2 ^ 48)) 48) 52) (shr_w (shl_w z 1) 12)) 1 63 refl
    ∙ ap (λ (x : ℕ). x % 2 ^ 63) (ap₂ xor_w (ap (λ (x : ℕ). shl_w x 52) c ∙ shl_keeps 12 52 q refl) (field z 1 11 52 refl) ∙ xor_packed (q % 2 ^ 12) 52 f (mod-lt (z / 2 ^ 11) (pow_pos 52)))
    ∙ cut q f (mod-lt (z / 2 ^ 11) (pow_pos 52))
  where
    high : (s : ℕ) → s < 2 ^ 16 → ((2 ^ 64 - 1) - s * 2 ^ 48) / 2 ^ 48 ≡ (2 ^ 16 - 1) - s
    high s h = omega arith

    cut : (q f : ℕ) → f < 2 ^ 52 → (q % 2 ^ 12 * 2 ^ 52 + f) % 2 ^ 63 ≡ q % 2 ^ 11 * 2 ^ 52 + f
    cut q f h = omega arith
