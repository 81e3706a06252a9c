-- The sum's plan, from the number z = |A ± B| and its sign to the result: bits 62..0 are binary64's `encoded`, nothing for z = 0; the sign is dropped where z = 0, and where both operands are
-- zeros of unlike signs. Rests on Normal, Exponent, Tests, Rounded and Chosen.
use mathlib.Core.Path.{◌≡◌, refl, sym, ap, ap₂, ◌∙◌, subst}
use mathlib.Core.Logic.{inl, inr}
use Prim.Native.Nat.{ℕ, ◌+◌, ◌-◌, ◌*◌, ◌/◌, ◌%◌, ◌^◌, ◌≤◌, ◌<◌}
use native.Mathlib.Nat.{mod-eq_of_lt, mod-lt, eq-zero-or-pos, zero-mul, mul-zero}
use native.Mathlib.Omega.{arith}
use lib.Count.{count_leading_zeros, leading_of_zero}
use lib.Pow.{pow_pos}
use Rattle.bits.specs.Ops.{xor_w, shr_w}
use Rattle.bits.proofs.Digits.{digit}
use Rattle.bits.proofs.Bound.{xor_lt, shr_lt}
use Rattle.bits.proofs.Places.{shr_is}
use Rattle.binary64.specs.Number.{expo, signed}
use Rattle.binary64.specs.inner.Steps.{round_ne, packed, encoded_at, encoded}
use Rattle.binary64.proofs.Cases.{lt_or_ge, if_lt, if_not_lt}
use Rattle.binary64.proofs.Encode.{to_top}
use Rattle.binary64.proofs.Round.{round_top}
use Rattle.plans.proofs.Shifts.{exponent, xor_parity}
use Rattle.plans.proofs.Lanes.{is_zero, not_zero}
use Rattle.plans.proofs.sum.Run.{leading_w, normal_w, Riding, exponent_run, less_w, under_w, packed_w, rounded_w, chosen_w, finish_w}
use Rattle.plans.proofs.sum.Leading.{leading_lt}
use Rattle.plans.proofs.sum.Normal.{leading_some, leading_odd, leading_first, leading_second, normal_none, normal_places, normal_value, normal_zero}
use Rattle.plans.proofs.sum.Exponent.{less_is, under_is, exponent_at, under_none, under_some, packed_is}
use Rattle.plans.proofs.sum.Tests.{Leads, lanes_lt, unlike_zeros, over_some, over_none}
use Rattle.plans.proofs.sum.Rounded.{rounded_is}
use Rattle.plans.proofs.sum.Chosen.{chosen_under, chosen_over, chosen_some}

-- ---- the end of the plan for the exponent e, the value w and the count less 1 mu of a number with leading ones th
abbrev ending : ℕ → ℕ → ℕ → ℕ → ℕ → ℕ → ℕ
ending e mu w th xy sg =
    let r : Riding = exponent_run e mu th xy in
    let s : ℕ = less_w e mu r.words in
    chosen_w (rounded_w (packed_w s w) w) sg (under_w s r.words) r.lanes (xor_w (shr_w r.lanes 16) th)

module _ (e mu w th xy sg lz c : ℕ) (he : e < 2 ^ 11) (hm : mu < 2 ^ 16) (hx : xy < 2 ^ 64) (t : Leads lz th) (at : (mu + 1) % 2 ^ 16 ≡ c) where
  abbrev r : Riding
  r = exponent_run e mu th xy

  abbrev under : ℕ
  under = under_w (less_w e mu r.words) r.words

  abbrev drop : ℕ
  drop = xor_w (shr_w r.lanes 16) th

  lanes_word : r.lanes < 2 ^ 64
  lanes_word = lanes_lt e mu th xy lz he hm hx t

  drop_lt : drop < 2 ^ 64
  drop_lt = xor_lt 64 (shr_w r.lanes 16) th (shr_lt 64 r.lanes 16 lanes_word) t.word

  under_word : under < 2 ^ 64
  under_word = subst (λ (x : ℕ). x < 2 ^ 64) (sym (under_is e mu th xy he hm t.word)) (omega arith)

  drop_is : drop % 2 ≡ (is_zero e * (xy / 2 ^ 63) + th % 2) % 2
  drop_is = xor_parity (shr_w r.lanes 16) th ∙ ap (λ (x : ℕ). (x % 2 + th % 2) % 2) (shr_is r.lanes 16) ∙ ap (λ (x : ℕ). (x + th % 2) % 2) (unlike_zeros e mu th xy lz he hm hx t)

  under_odd : under % 2 ≡ ((2 ^ 16 - 1) - ((2 ^ 16 - 1) - e + mu + 1) % 2 ^ 16) / 2 ^ 15 % 2
  under_odd = ap (λ (x : ℕ). x % 2) (under_is e mu th xy he hm t.word)

  -- E ≤ 0
  ending_under : e < c → c < 2 ^ 12 → e < lz + 2046 → ending e mu w th xy sg ≡ signed (sg % 2 * (1 - drop % 2)) 0
  ending_under l h k =
      chosen_under (rounded_w (packed_w (less_w e mu r.words) w) w) sg under r.lanes drop under_word lanes_word drop_lt
      (under_odd ∙ under_some e mu c he hm at l h) (over_none e mu th xy lz he hm hx t k)

  -- the count is that of leading zeros, and w has its top bit set
  module _ (same : c ≡ lz) (lo : 2 ^ 63 ≤ w) (hi : w < 2 ^ 64) (l : lz ≤ e) where
    c_le : c ≤ e
    c_le = omega arith

    even : under % 2 ≡ 0
    even = under_odd ∙ under_none e mu c he hm at c_le

    ending_over : lz + 2046 ≤ e → ending e mu w th xy sg ≡ signed (sg % 2 * (1 - drop % 2)) (2047 * 2 ^ 52)
    ending_over k = chosen_over (rounded_w (packed_w (less_w e mu r.words) w) w) sg under r.lanes drop under_word lanes_word drop_lt even (over_some e mu th xy lz he hm hx t k)

    packed_at : e < lz + 2046 → packed_w (less_w e mu r.words) w ≡ (e - lz) * 2 ^ 52 + w / 2 ^ 11
    packed_at k =
        let s : ℕ = ((2 ^ 16 - 1) - e + mu) % 2 ^ 16 in
        ap (λ (x : ℕ). packed_w x w) (less_is e mu th xy he hm t.word) ∙ packed_is s w (mod-lt ((2 ^ 16 - 1) - e + mu) (pow_pos 16))
        ∙ ap (λ (x : ℕ). x % 2 ^ 11 * 2 ^ 52 + w / 2 ^ 11 % 2 ^ 52) (exponent_at e mu c he hm at c_le ∙ ap (λ (x : ℕ). e - x + 1) same)
        ∙ top (e - lz) (w / 2 ^ 11) (omega arith) (omega arith) (omega arith)
      where
        top : (d f : ℕ) → d < 2046 → 2 ^ 52 ≤ f → f < 2 ^ 53 → (d + 1) % 2 ^ 11 * 2 ^ 52 + f % 2 ^ 52 ≡ d * 2 ^ 52 + f
        top d f h lo hi = omega arith

    ending_some : e < lz + 2046 → ending e mu w th xy sg ≡ signed (sg % 2 * (1 - drop % 2)) ((e - lz) * 2 ^ 52 + round_ne w 11)
    ending_some k =
        let d : e - lz < 2046 = omega arith in
        let Y : rounded_w (packed_w (less_w e mu r.words) w) w ≡ (e - lz) * 2 ^ 52 + round_ne w 11 =
        ap (λ (x : ℕ). rounded_w x w) (packed_at k) ∙ rounded_is (e - lz) w (room (e - lz) w d hi) hi in
        let q : round_ne w 11 ≤ 2 ^ 53 = (round_top w lo hi).1 in
        chosen_some (rounded_w (packed_w (less_w e mu r.words) w) w) sg under r.lanes drop under_word lanes_word drop_lt even (over_none e mu th xy lz he hm hx t k)
        ∙ ap (signed (sg % 2 * (1 - drop % 2))) (ap (λ (x : ℕ). x % 2 ^ 63) Y ∙ mod-eq_of_lt (fits (e - lz) (round_ne w 11) d q))
      where
        room : (d w : ℕ) → d < 2046 → w < 2 ^ 64 → d * 2 ^ 52 + w / 2 ^ 11 < 2 ^ 63
        room d w h l = omega arith

        fits : (d q : ℕ) → d < 2046 → q ≤ 2 ^ 53 → d * 2 ^ 52 + q < 2 ^ 63
        fits d q h l = omega arith

leads : (z : ℕ) → z < 2 ^ 64 → Leads (count_leading_zeros 64 z) (leading_w z)
leads z h = record { word = leading_lt z; first = leading_first z h; second = leading_second z h }

-- ---- z is not 0
module _ (a xy sg z : ℕ) (hx : xy < 2 ^ 64) (p : 0 < z) (h : z < 2 ^ 64) where
  abbrev e : ℕ
  e = expo a

  abbrev lz : ℕ
  lz = count_leading_zeros 64 z

  abbrev mu : ℕ
  mu = (normal_w z).count

  counted : (mu < 2 ^ 16) × ((mu + 1) % 2 ^ 16 ≡ lz)
  counted =
      elim (eq-zero-or-pos lz) [
        | inl k ↦ let f : mu ≡ 2 ^ 16 - 1 = normal_none z h k in (omega arith, ap (λ (x : ℕ). (x + 1) % 2 ^ 16) f ∙ sym k)
        | inr k ↦
            let l : lz < 64 = leading_some z h p in
            let f : mu ≡ lz - 1 = normal_places z h k l in
            (omega arith, omega arith)
      ]

  abbrev th : ℕ
  th = leading_w z

  abbrev w : ℕ
  w = z * 2 ^ lz

  abbrev S : ℕ
  S = sg % 2 * (1 - xor_w (shr_w (exponent_run e mu th xy).lanes 16) th % 2)

  ending_is : ending e mu w th xy sg ≡ signed S (encoded z e)
  unfolding encoded_at
  ending_is =
      let top = to_top z p h in
      let b = round_top w top.0 top.1 in
      let n : lz < 64 = leading_some z h p in
      let he : e < 2 ^ 11 = omega arith in
      elim (lt_or_ge e lz) [
        | inl l ↦
            ending_under e mu w th xy sg lz lz he counted.0 hx (leads z h) counted.1 l (omega arith) (omega arith)
            ∙ ap (signed S) (sym (if_lt e lz 0 (packed (e - lz) (round_ne w 11)) l))
        | inr l ↦
            elim (lt_or_ge e (lz + 2046)) [
              | inl k ↦
                  ending_some e mu w th xy sg lz lz he counted.0 hx (leads z h) counted.1 refl top.0 top.1 l k
                  ∙ ap (signed S) (small (e - lz) (round_ne w 11) (omega arith) b.1)
              | inr k ↦
                  ending_over e mu w th xy sg lz lz he counted.0 hx (leads z h) counted.1 refl top.0 top.1 l k
                  ∙ ap (signed S) (large (e - lz) (round_ne w 11) (omega arith) b.0)
            ]
            ∙ ap (signed S) (sym (if_not_lt e lz 0 (packed (e - lz) (round_ne w 11)) l))
      ]
    where
      small : (d q : ℕ) → d < 2046 → q ≤ 2 ^ 53 → d * 2 ^ 52 + q ≡ packed d q
      small d q g h = omega arith

      large : (d q : ℕ) → 2046 ≤ d → 2 ^ 52 ≤ q → 2047 * 2 ^ 52 ≡ packed d q
      large d q g h = omega arith

  sign_is : S ≡ sg % 2 * (1 - is_zero (expo a) * (xy / 2 ^ 63))
  sign_is =
      let n : lz < 64 = leading_some z h p in
      let o : th % 2 ≡ 0 = leading_odd z h ∙ omega arith in
      ap (λ (x : ℕ). sg % 2 * (1 - x))
      (drop_is e mu w th xy sg lz lz (omega arith) counted.0 hx (leads z h) counted.1 ∙ ap (λ (x : ℕ). (is_zero e * (xy / 2 ^ 63) + x) % 2) o ∙ once e (xy / 2 ^ 63) (omega arith))
    where
      once : (e s : ℕ) → s < 2 → (is_zero e * s + 0) % 2 ≡ is_zero e * s
      once e s l = digit (λ s. (is_zero e * s + 0) % 2 ≡ is_zero e * s) (omega arith) (omega arith) s l

pub closing_some : (a xy sg z : ℕ) → a < 2 ^ 64 → xy < 2 ^ 64 → sg < 2 ^ 64 → 0 < z → z < 2 ^ 64
    → finish_w a xy sg z ≡ signed (sg % 2 * (1 - is_zero (expo a) * (xy / 2 ^ 63))) (encoded z (expo a))
unfolding finish_w
closing_some a xy sg z ha hx hs p h =
    ap (λ (x : ℕ). ending x (normal_w z).count (normal_w z).value (leading_w z) xy sg) (exponent a)
    ∙ ap (λ (x : ℕ). ending (expo a) (normal_w z).count x (leading_w z) xy sg) (normal_value z h p)
    ∙ ending_is a xy sg z hx p h ∙ ap (λ (x : ℕ). signed x (encoded z (expo a))) (sign_is a xy sg z hx p h)

-- ---- z is 0
pub closing_none : (a xy sg : ℕ) → a < 2 ^ 64 → xy < 2 ^ 64 → sg < 2 ^ 64 → (expo a ≡ 0 → ⊥) → finish_w a xy sg 0 ≡ 0
unfolding finish_w
closing_none a xy sg ha hx hs n =
    let h : 0 < 2 ^ 64 = pow_pos 64 in
    let e : ℕ = expo a in
    let he : e < 2 ^ 11 = omega arith in
    let mu : ℕ = (normal_w 0).count in
    let th : ℕ = leading_w 0 in
    let w : ℕ = (normal_w 0).value in
    let f : mu ≡ 2 ^ 11 + 63 = normal_zero in
    let k : count_leading_zeros 64 0 ≡ 64 = leading_of_zero 64 in
    let t : Leads 64 th = subst (λ (x : ℕ). Leads x th) k (leads 0 h) in
    let hm : mu < 2 ^ 16 = omega arith in
    let c : (mu + 1) % 2 ^ 16 ≡ 2 ^ 11 + 64 = ap (λ (x : ℕ). (x + 1) % 2 ^ 16) f in
    let o : th % 2 ≡ 1 = leading_odd 0 h ∙ ap (λ (x : ℕ). x / 64) k in
    let d : xor_w (shr_w (exponent_run e mu th xy).lanes 16) th % 2 ≡ 1 =
    drop_is e mu w th xy sg 64 (2 ^ 11 + 64) he hm hx t c
    ∙ ap₂ (λ (x y : ℕ). (x * (xy / 2 ^ 63) + y) % 2) (not_zero e (positive e n)) o ∙ ap (λ (x : ℕ). (x + 1) % 2) (zero-mul (xy / 2 ^ 63)) in
    ap (λ (x : ℕ). ending x mu w th xy sg) (exponent a)
    ∙ ending_under e mu w th xy sg 64 (2 ^ 11 + 64) he hm hx t c (omega arith) (omega arith) (omega arith)
    ∙ ap (λ (x : ℕ). signed (sg % 2 * (1 - x)) 0) d ∙ ap (λ (x : ℕ). signed x 0) (mul-zero (sg % 2))
  where
    positive : (e : ℕ) → (e ≡ 0 → ⊥) → 0 < e
    positive e n = elim (eq-zero-or-pos e) [ inl z ↦ absurd (n z) | inr p ↦ p ]
