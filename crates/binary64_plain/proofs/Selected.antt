-- The results of product and sum as the code selects them, without a branch, against the definitions' cases.
-- Rests on binary64's Encode, ProductModel and SumCases, which have the cases.
use Rattle.std.proofs.Common.{◌≡◌, ℕ, ◌+◌, ◌-◌, ◌*◌, ◌%◌, ◌^◌, ◌<◌, ◌≤◌, Bool, true, false, cond, not, eqb, leb, sym, refl, ap, ◌∙◌, ap₂, inl, inr, le_of_eq, eq-zero-or-pos, mul-pos, arith, pow_pos, eq-eqb, ne_eqb}
use lib.Bits.{bit_or, or_shifted, or_zero_r}
use lib.Count.{count_leading_zeros}
use Rattle.binary64.specs.Number.{sign, expo, frac, magnitude, signed}
use Rattle.binary64.specs.Rounding.{mag_bits}
use Rattle.binary64.specs.Sum.{sum}
use Rattle.binary64.specs.inner.Steps.{jam, encoded, aligned}
use Rattle.binary64.proofs.Cases.{lt_or_ge, if_le, if_not_le, if_eq, if_not_eq, if_some, if_none, by_eq}
use Rattle.binary64.proofs.Jam.{jam_pos}
use Rattle.binary64.proofs.Encode.{encoded_lt}
use Rattle.binary64.proofs.ProductModel.{product_zero_l, product_zero_r, product_tiny, product_encoded}
use Rattle.binary64.proofs.SumCases.{zeros_like, zeros_unlike, like_signs, differ, cancelled, unlike_signs, aligned_none}

-- ---- the product's bits 62..0: Z is the jammed product of the significands, w the sum of both E less 1015, modulo 2^64
pub product_selected : (a b w : ℕ) → w < 2 ^ 64 → (w + 1015) % 2 ^ 64 ≡ expo a + expo b → (Z : ℕ) → Z ≡ jam 51 ((2 ^ 52 + frac a) * (2 ^ 52 + frac b))
    → cond (not (eqb (expo a) 0)) (cond (not (eqb (expo b) 0)) (cond (leb 1015 (expo a + expo b)) (cond (eqb Z 0) 0 (encoded Z w)) 0) 0) 0
    ≡ mag_bits 1126 (magnitude a * magnitude b)
product_selected a b w hw h Z hZ =
    by_eq (λ (t : Bool). cond (not t) (cond (not (eqb (expo b) 0)) (cond (leb 1015 (expo a + expo b)) (cond (eqb Z 0) 0 (encoded Z w)) 0) 0) 0 ≡ M) (expo a) 0 (λ e. sym (product_zero_l a b e))
    (λ na. by_eq (λ (t : Bool). cond (not t) (cond (leb 1015 (expo a + expo b)) (cond (eqb Z 0) 0 (encoded Z w)) 0) 0 ≡ M) (expo b) 0 (λ e. sym (product_zero_r a b e))
    (λ nb. elim (lt_or_ge (expo a + expo b) 1015) [
      | inl l ↦ if_not_le 1015 (expo a + expo b) _ 0 l ∙ sym (product_tiny a b na nb l)
      | inr l ↦
          let we : w ≡ expo a + expo b - 1015 = omega arith in
          if_le 1015 (expo a + expo b) _ 0 l ∙ if_not_eq Z 0 0 _ (λ e. nonzero e) ∙ ap₂ encoded hZ we ∙ sym (product_encoded a b na nb l)
    ]))
  where
    M : ℕ
    M = mag_bits 1126 (magnitude a * magnitude b)

    nonzero : Z ≡ 0 → ⊥
    nonzero e = let p = jam_pos 51 ((2 ^ 52 + frac a) * (2 ^ 52 + frac b)) (mul-pos (omega arith) (omega arith)) in omega arith

-- ---- signs left in place, compared
pub same_sign : (s t x y : ℕ) → x ≡ s * 2 ^ 63 → y ≡ t * 2 ^ 63 → eqb x y ≡ eqb s t
same_sign s t x y h k = by_eq (λ (b : Bool). eqb x y ≡ b) s t (λ e. eq-eqb x y (omega arith)) (λ n. ne_eqb x y (λ e. n (omega arith)))

-- ---- the sum of operands in order: `larger` and `smaller` are the aligned significands, zero for a zero, Z their sum or difference
module _ (a b : ℕ) (le : b % 2 ^ 63 ≤ a % 2 ^ 63) where
  abbrev pub larger : ℕ
  larger = cond (not (eqb (expo a) 0)) ((2 ^ 52 + frac a) * 2 ^ 10) 0

  abbrev pub smaller : ℕ
  smaller = aligned (expo a - expo b) b

  -- the smaller of two zeros is one too
  no_smaller : expo a ≡ 0 → smaller ≡ 0
  no_smaller h = aligned_none (expo a - expo b) b (omega arith)

  pub in_order : (smaller ≤ larger) × (larger < 2 ^ 63)
  in_order =
      by_eq (λ (t : Bool). (smaller ≤ cond (not t) ((2 ^ 52 + frac a) * 2 ^ 10) 0) × (cond (not t) ((2 ^ 52 + frac a) * 2 ^ 10) 0 < 2 ^ 63)) (expo a) 0
      (λ e. (le_of_eq (no_smaller e), pow_pos 63)) (λ n. ((differ a b le n).fits, omega arith))

  -- the sign and the bits of what is left, like or unlike
  abbrev put : ℕ → Bool → ℕ
  put Z like = bit_or (cond like (sign a * 2 ^ 63) (cond (not (eqb Z 0)) (sign a * 2 ^ 63) 0)) (cond (eqb Z 0) 0 (encoded Z (expo a)))

  put_none : (Z : ℕ) (like : Bool) → Z ≡ 0 → put Z like ≡ cond like (sign a * 2 ^ 63) 0
  put_none Z like e =
      ap₂ bit_or (ap (cond like (sign a * 2 ^ 63)) (if_none Z (sign a * 2 ^ 63) 0 e)) (if_eq Z 0 0 (encoded Z (expo a)) e) ∙ or_zero_r (cond like (sign a * 2 ^ 63) 0)

  put_some : (Z : ℕ) (like : Bool) → (Z ≡ 0 → ⊥) → put Z like ≡ signed (sign a) (encoded Z (expo a))
  put_some Z like n =
      ap₂ bit_or (ap (cond like (sign a * 2 ^ 63)) (if_some Z (sign a * 2 ^ 63) 0 n) ∙ either like) (if_not_eq Z 0 0 (encoded Z (expo a)) n)
      ∙ or_shifted (sign a) 63 (encoded Z (expo a)) (encoded_lt (count_leading_zeros 64 Z) Z (expo a))
    where
      either : (like : Bool) → cond like (sign a * 2 ^ 63) (sign a * 2 ^ 63) ≡ sign a * 2 ^ 63
      either true = refl
      either false = refl

  pub sum_selected : put (cond (eqb (sign a) (sign b)) (larger + smaller) (larger - smaller)) (eqb (sign a) (sign b)) ≡ sum a b
  sum_selected =
      by_eq (λ (t : Bool). put (cond t (larger + smaller) (larger - smaller)) t ≡ sum a b) (sign a) (sign b)
      (λ like. by_eq (λ (t : Bool). put (cond (not t) ((2 ^ 52 + frac a) * 2 ^ 10) 0 + smaller) true ≡ sum a b) (expo a) 0
      (λ e. put_none (0 + smaller) true (omega (arith, no_smaller e)) ∙ sym (zeros_like a b le e like))
      (λ n. put_some ((2 ^ 52 + frac a) * 2 ^ 10 + smaller) true (λ z. omega arith) ∙ sym (like_signs a b le n like)))
      (λ unlike. by_eq (λ (t : Bool). put (cond (not t) ((2 ^ 52 + frac a) * 2 ^ 10) 0 - smaller) false ≡ sum a b) (expo a) 0
      (λ e. put_none (0 - smaller) false (omega arith) ∙ sym (zeros_unlike a b le e unlike))
      (λ n. elim (eq-zero-or-pos ((2 ^ 52 + frac a) * 2 ^ 10 - smaller)) [
        | inl z ↦ put_none ((2 ^ 52 + frac a) * 2 ^ 10 - smaller) false z ∙ sym (cancelled a b le n unlike z)
        | inr p ↦ put_some ((2 ^ 52 + frac a) * 2 ^ 10 - smaller) false (λ z. omega arith) ∙ sym (unlike_signs a b le n unlike p)
      ]))

  -- over the code's own words: x and y the aligned significands, s and t the signs in place
  pub ordered_selected : (e x y s t z k r v : ℕ) → e ≡ expo a → x ≡ larger → y ≡ smaller → s ≡ sign a * 2 ^ 63 → t ≡ sign b * 2 ^ 63
      → z ≡ cond (eqb s t) (x + y) (x - y) → k ≡ cond (not (eqb z 0)) s 0 → r ≡ cond (eqb s t) s k → v ≡ cond (eqb z 0) 0 (encoded z e) → bit_or r v ≡ sum a b
  ordered_selected e x y s t z k r v he hx hy hs ht hz hk hr hv =
      let like : eqb s t ≡ eqb (sign a) (sign b) = same_sign (sign a) (sign b) s t hs ht in
      let Z = cond (eqb (sign a) (sign b)) (larger + smaller) (larger - smaller) in
      let z_z : z ≡ Z = hz ∙ ap (λ (b : Bool). cond b (x + y) (x - y)) like ∙ ap₂ (λ (x y : ℕ). cond (eqb (sign a) (sign b)) (x + y) (x - y)) hx hy in
      let k_k : k ≡ cond (not (eqb Z 0)) (sign a * 2 ^ 63) 0 = hk ∙ ap₂ (λ (z s : ℕ). cond (not (eqb z 0)) s 0) z_z hs in
      ap₂ bit_or (hr ∙ ap (λ (b : Bool). cond b s k) like ∙ ap₂ (cond (eqb (sign a) (sign b))) hs k_k) (hv ∙ ap₂ (λ (z e : ℕ). cond (eqb z 0) 0 (encoded z e)) z_z he)
      ∙ sum_selected
