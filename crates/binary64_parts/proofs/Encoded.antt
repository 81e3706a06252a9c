-- Rounding and packing as the code selects them, without a branch, against what a number brought to its top bit is encoded to. Rests on binary64's Encode and Round.
use Rattle.std.proofs.Common.{◌≡◌, ℕ, zero, suc, ◌+◌, ◌-◌, ◌*◌, ◌%◌, ◌^◌, ◌<◌, ◌≤◌, Bool, cond, not, eqb, ltb, leb, sym, refl, ap, ◌∙◌, ap₂, inl, inr, mod-eq_of_lt, arith}
use lib.Count.{count_leading_zeros, leading_top}
use Rattle.binary64.specs.inner.Steps.{round_ne, packed, encoded_at, encoded}
use Rattle.binary64.proofs.Cases.{lt_or_ge, if_lt, if_not_lt, if_le, if_not_le, by_lt, by_eq}
use Rattle.binary64.proofs.Round.{round_top}
use Rattle.binary64.proofs.Encode.{to_top}

packed_is : (E q : ℕ) → 2 ^ 52 ≤ q → q ≤ 2 ^ 53 → cond (ltb E 2046) (E * 2 ^ 52 + q) (2047 * 2 ^ 52) ≡ packed E q
packed_is E q lo hi = by_lt (λ (b : Bool). cond b (E * 2 ^ 52 + q) (2047 * 2 ^ 52) ≡ packed E q) E 2046 (λ l. omega arith) (λ l. omega arith)

-- z brought to the top by its leading zeros, of which there are fewer than 64 where z is not zero; w is e less their count, modulo 2^64
pub encode_selected : (z e w : ℕ) → z < 2 ^ 64 → w < 2 ^ 64 → e < 2 ^ 64 → (w + count_leading_zeros 64 z) % 2 ^ 64 ≡ e
    → cond (not (eqb z 0)) (cond (leb (count_leading_zeros 64 z) e) (cond (ltb w 2046) (w * 2 ^ 52 + round_ne ((z * 2 ^ (count_leading_zeros 64 z % 64)) % 2 ^ 64) 11) (2047 * 2 ^ 52)) 0) 0
    ≡ cond (eqb z 0) 0 (encoded z e)
unfolding encoded_at
encode_selected z e w hz hw he h =
    let s = count_leading_zeros 64 z in
    let q = round_ne ((z * 2 ^ (s % 64)) % 2 ^ 64) 11 in
    by_eq (λ (b : Bool). cond (not b) (cond (leb s e) (cond (ltb w 2046) (w * 2 ^ 52 + q) (2047 * 2 ^ 52)) 0) 0 ≡ cond b 0 (encoded z e)) z 0 (λ _. refl)
    (λ n. elim (lt_or_ge e s) [
      | inl l ↦ if_not_le s e _ 0 l ∙ sym (if_lt e s 0 (packed (e - s) (round_ne (z * 2 ^ s) 11)) l)
      | inr l ↦
          let pos : 0 < z = positive z n in
          let top = to_top z pos hz in
          let small : s < 64 = fewer z pos hz in
          let qe : q ≡ round_ne (z * 2 ^ s) 11 = ap (λ (k : ℕ). round_ne ((z * 2 ^ k) % 2 ^ 64) 11) (mod-eq_of_lt small) ∙ ap (λ (x : ℕ). round_ne x 11) (mod-eq_of_lt top.1) in
          let range = round_top (z * 2 ^ s) top.0 top.1 in
          let we : w ≡ e - s = omega arith in
          if_le s e _ 0 l ∙ ap₂ (λ (E q : ℕ). cond (ltb E 2046) (E * 2 ^ 52 + q) (2047 * 2 ^ 52)) we qe
          ∙ packed_is (e - s) (round_ne (z * 2 ^ s) 11) range.0 range.1
          ∙ sym (if_not_lt e s 0 (packed (e - s) (round_ne (z * 2 ^ s) 11)) l)
    ])
  where
    positive : (z : ℕ) → (z ≡ 0 → ⊥) → 0 < z
    positive zero n = absurd (n refl)
    positive (suc z) n = omega arith

    fewer : (z : ℕ) → 0 < z → z < 2 ^ 64 → count_leading_zeros 64 z < 64
    fewer z p h = let t = leading_top 64 z p h in omega (arith, t.1)
