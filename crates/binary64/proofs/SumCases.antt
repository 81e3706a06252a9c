-- The sum of two words, case by case as the plain code and the plans go: two zeros; like signs; unlike signs with or without cancellation.
-- The operands are ordered by their bits 62..0, a first. Rests on SumModel.
use mathlib.Core.Path.{◌≡◌, refl, sym, ap, ap₂, ◌∙◌, subst}
use mathlib.Core.Logic.{◌⊎◌, inl, inr}
use Prim.Native.Nat.{ℕ, zero, suc, ◌+◌, ◌-◌, ◌*◌, ◌%◌, ◌^◌, ◌≤◌, ◌<◌, zero-le}
use native.Mathlib.Nat.{le_trans, le_of_eq, le_of_lt, mul_assoc, mul-le-mul_right, mul-le-mul_left, zero-mul, mul-pos, add_comm, add-zero, sub-zero, suc-sub-suc, mod-lt, eq-or-lt_of_le, eq-zero-or-pos}
use native.Mathlib.Omega.{arith}
use lib.Pow.{pow_pos, pow-add}
use Rattle.binary64.specs.Number.{sign, expo, frac, magnitude_of, magnitude, signed}
use Rattle.binary64.specs.Rounding.{mag_bits}
use Rattle.binary64.specs.Sum.{sum_of, sum}
use Rattle.binary64.specs.inner.Steps.{jam, encoded, aligned_of, aligned}
use Rattle.binary64.proofs.Words.{magnitude_zero}
use Rattle.binary64.proofs.Cases.{lt_or_ge, if_lt, if_not_lt, if_eq, if_not_eq}
use Rattle.binary64.proofs.Jam.{jam_le, jam_zero, jam_pos}
use Rattle.binary64.proofs.Round.{bits_zero}
use Rattle.binary64.proofs.Encode.{Stands, stands_bits}
use Rattle.binary64.proofs.SumModel.{add_stands, sub_stands, sub_jam, sub_exact, aligned_le, alone_stands}

-- ---- the definition's cases
pub sum_like : (s t A B : ℕ) → s ≡ t → sum_of s t A B ≡ signed s (mag_bits 52 (A + B))
unfolding sum_of
sum_like s t A B h = if_eq s t _ _ h

module _ (s t A B : ℕ) (ne : s ≡ t → ⊥) where
  pub sum_greater : B < A → sum_of s t A B ≡ signed s (mag_bits 52 (A - B))
  unfolding sum_of
  sum_greater h = if_not_eq s t _ _ ne ∙ if_lt B A _ _ h

  pub sum_less : A < B → sum_of s t A B ≡ signed t (mag_bits 52 (B - A))
  unfolding sum_of
  sum_less h = if_not_eq s t _ _ ne ∙ if_not_lt B A _ _ (le_of_lt h) ∙ if_lt A B _ _ h

  pub sum_equal : A ≡ B → sum_of s t A B ≡ 0
  unfolding sum_of
  sum_equal h = if_not_eq s t _ _ ne ∙ if_not_lt B A _ _ (le_of_eq h) ∙ if_not_lt A B _ _ (le_of_eq (sym h))

-- the order of the operands does not matter
pub sum_of_comm : (s t A B : ℕ) → sum_of s t A B ≡ sum_of t s B A
sum_of_comm s t A B =
    elim (lt_or_ge s t) [
      | inl l ↦ unlike (λ e. absurd (omega arith))
      | inr l ↦
          elim (eq-or-lt_of_le l) [
            | inl e ↦ sum_like s t A B (sym e) ∙ ap₂ (λ (x y : ℕ). signed x (mag_bits 52 y)) (sym e) (add_comm A B) ∙ sym (sum_like t s B A e)
            | inr g ↦ unlike (λ e. absurd (omega arith))
          ]
    ]
  where
    unlike : (s ≡ t → ⊥) → sum_of s t A B ≡ sum_of t s B A
    unlike ne =
        let ne' : t ≡ s → ⊥ = λ e. ne (sym e) in
        elim (lt_or_ge A B) [
          | inl l ↦ sum_less s t A B ne l ∙ sym (sum_greater t s B A ne' l)
          | inr l ↦
              elim (eq-or-lt_of_le l) [
                | inl e ↦ sum_equal s t A B ne (sym e) ∙ sym (sum_equal t s B A ne' e)
                | inr g ↦ sum_greater s t A B ne g ∙ sym (sum_less t s B A ne' g)
              ]
        ]

pub sum_comm : (a b : ℕ) → sum a b ≡ sum b a
unfolding sum
sum_comm a b = sum_of_comm (sign a) (sign b) (magnitude a) (magnitude b)

-- ---- over the fields: E and F of the larger, D and G of the smaller
pub record Ordered (E F D G : ℕ) : Type 0 where
  pub f : F < 2 ^ 52
  pub g : G < 2 ^ 52
  pub le : D ≤ E
  pub same : D ≡ E → G ≤ F

pub ordered : (a b : ℕ) → b % 2 ^ 63 ≤ a % 2 ^ 63 → Ordered (expo a) (frac a) (expo b) (frac b)
ordered a b h = record { f = mod-lt a (pow_pos 52); g = mod-lt b (pow_pos 52); le = omega arith; same = λ e. omega arith }

-- the smaller significand is below the larger's place
below : (F G d : ℕ) → F < 2 ^ 52 → G < 2 ^ 52 → (d ≡ 0 → G ≤ F) → 2 ^ 52 + G ≤ (2 ^ 52 + F) * 2 ^ d
below F G zero f g s = let l = s refl in omega arith
below F G (suc d) f g s =
    let p : 2 ≤ 2 ^ suc d = omega (arith, pow_pos d) in
    omega (arith, mul-le-mul_left (2 ^ 52 + F) p)

pub aligned_lt : (d E G : ℕ) → G < 2 ^ 52 → aligned_of d E G ≤ 2 ^ 63
aligned_lt d zero G h = zero-le
aligned_lt d (suc y) G h =
    let o : 1 ≤ 2 ^ d = pow_pos d in
    let m : (2 ^ 52 + G) * 2 ^ 9 * 1 ≤ (2 ^ 52 + G) * 2 ^ 9 * 2 ^ d = mul-le-mul_left ((2 ^ 52 + G) * 2 ^ 9) o in
    le_trans (jam_le d ((2 ^ 52 + G) * 2 ^ 9) ((2 ^ 52 + G) * 2 ^ 9) (omega arith)) (omega arith)

pub added : (e F D G : ℕ) → Ordered (suc e) F D G → mag_bits 52 (magnitude_of (suc e) F + magnitude_of D G) ≡ encoded ((2 ^ 52 + F) * 2 ^ 10 + aligned_of (suc e - D) D G) (suc e)
added e F zero G o =
    let f = o.f in
    ap (mag_bits 52) (add-zero ((2 ^ 52 + F) * 2 ^ e))
    ∙ stands_bits 52 ((2 ^ 52 + F) * 2 ^ e) ((2 ^ 52 + F) * 2 ^ 10) (suc e) (omega arith) (omega arith) (alone_stands (2 ^ 52 + F) e (omega arith))
    ∙ ap (λ (z : ℕ). encoded z (suc e)) (sym (add-zero ((2 ^ 52 + F) * 2 ^ 10)))
added e F (suc y) G o =
    let f = o.f in
    let g = o.g in
    let le = o.le in
    let dy : e - y + y ≡ e = omega arith in
    let X = 2 ^ 52 + F in
    let Y = 2 ^ 52 + G in
    let ord : Y ≤ X * 2 ^ (e - y) = below F G (e - y) f g (λ z. o.same (omega arith)) in
    let S : Stands 52 (X * 2 ^ (e - y + y) + Y * 2 ^ y) (X * 2 ^ 10 + jam (e - y) (Y * 2 ^ 9)) (suc (e - y + y)) = add_stands X Y (e - y) y (omega arith) (omega arith) ord in
    let S' : Stands 52 (X * 2 ^ e + Y * 2 ^ y) (X * 2 ^ 10 + jam (e - y) (Y * 2 ^ 9)) (suc e) = subst (λ (u : ℕ). Stands 52 (X * 2 ^ u + Y * 2 ^ y) (X * 2 ^ 10 + jam (e - y) (Y * 2 ^ 9)) (suc u)) dy S in
    let al : jam (e - y) (Y * 2 ^ 9) ≤ X * 2 ^ 10 = aligned_le X Y (e - y) y (omega arith) (omega arith) ord in
    stands_bits 52 (X * 2 ^ e + Y * 2 ^ y) (X * 2 ^ 10 + jam (e - y) (Y * 2 ^ 9)) (suc e) (omega arith) (omega arith) S'
    ∙ ap (λ (z : ℕ). encoded (X * 2 ^ 10 + jam z (Y * 2 ^ 9)) (suc e)) (sym (suc-sub-suc e y))

-- The difference of the aligned significands, W - U, for magnitudes A and B: never below zero; zero exactly where the magnitudes are equal.
pub record Parts (W U A B e : ℕ) : Type 0 where
  pub fits : U ≤ W
  pub none : W - U ≡ 0 → A ≡ B
  pub some : 0 < W - U → B < A
  pub bits : 0 < W - U → mag_bits 52 (A - B) ≡ encoded (W - U) e

abbrev pub Subtracted : ℕ → ℕ → ℕ → ℕ → Type 0
Subtracted e F D G = Parts ((2 ^ 52 + F) * 2 ^ 10) (aligned_of (suc e - D) D G) (magnitude_of (suc e) F) (magnitude_of D G) (suc e)

parts : (W U A B e : ℕ) → U ≤ W → (w : ℕ) → ((W - U ≡ 0) × (w ≡ 0) × (A ≡ B)) ⊎ ((0 < W - U) × (0 < w) × (B < A))
    → (0 < w → mag_bits 52 (A - B) ≡ encoded (W - U) e) → Parts W U A B e
parts W U A B e f w (inl h) k =
    record { fits = f; none = λ z. h.2; some = λ z. absurd (omega (arith, h.0)); bits = λ z. absurd (omega (arith, h.0)) }
parts W U A B e f w (inr h) k = record { fits = f; none = λ z. absurd (omega (arith, h.0)); some = λ z. h.2; bits = λ z. k h.1 }

-- from the difference w of the significands, A - B = w · 2^y and Z = jam d (w · 2^9)
difference : (A B w p Z d : ℕ) → 0 < p → B ≤ A → w * p ≡ A - B → jam d (w * 2 ^ 9) ≡ Z → ((Z ≡ 0) × (w ≡ 0) × (A ≡ B)) ⊎ ((0 < Z) × (0 < w) × (B < A))
difference A B w p Z d hp o e z =
    elim (eq-zero-or-pos w) [
      | inl w0 ↦
          let m : A - B ≡ 0 = sym e ∙ ap (λ (x : ℕ). x * p) w0 ∙ zero-mul p in
          inl (sym z ∙ ap (λ (x : ℕ). jam d (x * 2 ^ 9)) w0 ∙ jam_zero d, w0, omega arith)
      | inr wp ↦
          let m : 0 < w * p = mul-pos wp hp in
          inr (subst (λ (x : ℕ). 0 < x) z (jam_pos d (w * 2 ^ 9) (mul-pos wp (pow_pos 9))), wp, omega arith)
    ]

pub subtracted : (e F D G : ℕ) → Ordered (suc e) F D G → Subtracted e F D G
subtracted e F zero G o =
    let f = o.f in
    let X = 2 ^ 52 + F in
    let p : 0 < X * 2 ^ e = mul-pos (omega arith) (pow_pos e) in
    let z : X * 2 ^ 10 - 0 ≡ X * 2 ^ 10 = sub-zero (X * 2 ^ 10) in
    record {
      fits = zero-le;
      none = λ h. absurd (omega arith);
      some = λ h. p;
      bits = λ h.
          ap (mag_bits 52) (sub-zero (X * 2 ^ e))
          ∙ stands_bits 52 (X * 2 ^ e) (X * 2 ^ 10) (suc e) (omega arith) (omega arith) (alone_stands X e (omega arith))
          ∙ ap (λ (x : ℕ). encoded x (suc e)) (sym z);
    }
subtracted e F (suc y) G o =
    let f = o.f in
    let g = o.g in
    let le = o.le in
    let dy : e - y + y ≡ e = omega arith in
    let X = 2 ^ 52 + F in
    let Y = 2 ^ 52 + G in
    let lx : 2 ^ 52 ≤ X = omega arith in
    let hy : Y < 2 ^ 53 = omega arith in
    let ord : Y ≤ X * 2 ^ (e - y) = below F G (e - y) f g (λ z. o.same (omega arith)) in
    let al : jam (e - y) (Y * 2 ^ 9) ≤ X * 2 ^ 10 = aligned_le X Y (e - y) y lx hy ord in
    let sj : jam (e - y) ((X * 2 ^ (e - y) - Y) * 2 ^ 9) ≡ X * 2 ^ 10 - jam (e - y) (Y * 2 ^ 9) = sub_jam X Y (e - y) y lx hy ord in
    let se : (X * 2 ^ (e - y) - Y) * 2 ^ y ≡ X * 2 ^ e - Y * 2 ^ y = subst (λ (u : ℕ). (X * 2 ^ (e - y) - Y) * 2 ^ y ≡ X * 2 ^ u - Y * 2 ^ y) dy (sub_exact X Y (e - y) y lx hy ord) in
    let order : Y * 2 ^ y ≤ X * 2 ^ e =
    le_trans (mul-le-mul_right (2 ^ y) ord) (le_of_eq (mul_assoc X (2 ^ (e - y)) (2 ^ y) ∙ ap (λ (u : ℕ). X * u) (sym (pow-add 2 (e - y) y) ∙ ap (λ (u : ℕ). 2 ^ u) dy))) in
    let d : suc e - suc y ≡ e - y = suc-sub-suc e y in
    let case : ((X * 2 ^ 10 - jam (e - y) (Y * 2 ^ 9) ≡ 0) × (X * 2 ^ (e - y) - Y ≡ 0) × (X * 2 ^ e ≡ Y * 2 ^ y)) ⊎ ((0 < X * 2 ^ 10 - jam (e - y) (Y * 2 ^ 9)) × (0 < X * 2 ^ (e - y) - Y) × (Y * 2 ^ y < X * 2 ^ e)) =
    difference (X * 2 ^ e) (Y * 2 ^ y) (X * 2 ^ (e - y) - Y) (2 ^ y) (X * 2 ^ 10 - jam (e - y) (Y * 2 ^ 9)) (e - y) (pow_pos y) order se sj in
    subst (λ (u : ℕ). Parts (X * 2 ^ 10) (jam u (Y * 2 ^ 9)) (X * 2 ^ e) (Y * 2 ^ y) (suc e)) (sym d)
    (parts (X * 2 ^ 10) (jam (e - y) (Y * 2 ^ 9)) (X * 2 ^ e) (Y * 2 ^ y) (suc e) al (X * 2 ^ (e - y) - Y) case
    (λ pos.
    let S : Stands 52 (X * 2 ^ (e - y + y) - Y * 2 ^ y) (X * 2 ^ 10 - jam (e - y) (Y * 2 ^ 9)) (suc (e - y + y)) = sub_stands X Y (e - y) y lx hy ord pos in
    let S' : Stands 52 (X * 2 ^ e - Y * 2 ^ y) (X * 2 ^ 10 - jam (e - y) (Y * 2 ^ 9)) (suc e) = subst (λ (u : ℕ). Stands 52 (X * 2 ^ u - Y * 2 ^ y) (X * 2 ^ 10 - jam (e - y) (Y * 2 ^ 9)) (suc u)) dy S in
    stands_bits 52 (X * 2 ^ e - Y * 2 ^ y) (X * 2 ^ 10 - jam (e - y) (Y * 2 ^ 9)) (suc e) (omega arith) (omega arith) S'))

-- ---- over the operands, ordered by their bits 62..0
module _ (a b : ℕ) (le : b % 2 ^ 63 ≤ a % 2 ^ 63) where
  zeros : expo a ≡ 0 → (magnitude a ≡ 0) × (magnitude b ≡ 0)
  zeros h = (magnitude_zero a h, magnitude_zero b (omega arith))

  pub zeros_like : expo a ≡ 0 → sign a ≡ sign b → sum a b ≡ sign a * 2 ^ 63
  unfolding sum
  zeros_like h s =
      let z = zeros h in
      sum_like (sign a) (sign b) (magnitude a) (magnitude b) s ∙ ap (λ (x : ℕ). sign a * 2 ^ 63 + x) (ap₂ (λ (x y : ℕ). mag_bits 52 (x + y)) z.0 z.1 ∙ bits_zero 52)
      ∙ add-zero (sign a * 2 ^ 63)

  pub zeros_unlike : expo a ≡ 0 → (sign a ≡ sign b → ⊥) → sum a b ≡ 0
  unfolding sum
  zeros_unlike h ne = let z = zeros h in sum_equal (sign a) (sign b) (magnitude a) (magnitude b) ne (z.0 ∙ sym z.1)

  -- the fields of the larger, which is not zero
  module _ (n : expo a ≡ 0 → ⊥) where
    pub like_signs : sign a ≡ sign b → sum a b ≡ signed (sign a) (encoded ((2 ^ 52 + frac a) * 2 ^ 10 + aligned (expo a - expo b) b) (expo a))
    unfolding sum magnitude aligned
    like_signs s = sum_like (sign a) (sign b) (magnitude a) (magnitude b) s ∙ ap (λ (x : ℕ). sign a * 2 ^ 63 + x) (go (expo a) n (ordered a b le))
      where
        go : (E : ℕ) → (E ≡ 0 → ⊥) → Ordered E (frac a) (expo b) (frac b)
            → mag_bits 52 (magnitude_of E (frac a) + magnitude_of (expo b) (frac b)) ≡ encoded ((2 ^ 52 + frac a) * 2 ^ 10 + aligned_of (E - expo b) (expo b) (frac b)) E
        go zero n o = absurd (n refl)
        go (suc e) n o = added e (frac a) (expo b) (frac b) o

    pub differ : Parts ((2 ^ 52 + frac a) * 2 ^ 10) (aligned (expo a - expo b) b) (magnitude a) (magnitude b) (expo a)
    unfolding magnitude aligned
    differ = go (expo a) n (ordered a b le)
      where
        go : (E : ℕ) → (E ≡ 0 → ⊥) → Ordered E (frac a) (expo b) (frac b)
            → Parts ((2 ^ 52 + frac a) * 2 ^ 10) (aligned_of (E - expo b) (expo b) (frac b)) (magnitude_of E (frac a)) (magnitude_of (expo b) (frac b)) E
        go zero n o = absurd (n refl)
        go (suc e) n o = subtracted e (frac a) (expo b) (frac b) o

    pub cancelled : (sign a ≡ sign b → ⊥) → (2 ^ 52 + frac a) * 2 ^ 10 - aligned (expo a - expo b) b ≡ 0 → sum a b ≡ 0
    unfolding sum
    cancelled ne z = sum_equal (sign a) (sign b) (magnitude a) (magnitude b) ne (differ.none z)

    pub unlike_signs : (sign a ≡ sign b → ⊥) → 0 < (2 ^ 52 + frac a) * 2 ^ 10 - aligned (expo a - expo b) b
        → sum a b ≡ signed (sign a) (encoded ((2 ^ 52 + frac a) * 2 ^ 10 - aligned (expo a - expo b) b) (expo a))
    unfolding sum
    unlike_signs ne p = sum_greater (sign a) (sign b) (magnitude a) (magnitude b) ne (differ.some p) ∙ ap (λ (x : ℕ). sign a * 2 ^ 63 + x) (differ.bits p)

-- an operand that is not zero is aligned by its significand
pub aligned_some : (d b : ℕ) → (expo b ≡ 0 → ⊥) → aligned d b ≡ jam d ((2 ^ 52 + frac b) * 2 ^ 9)
unfolding aligned
aligned_some d b n = go (expo b) n
  where
    go : (E : ℕ) → (E ≡ 0 → ⊥) → aligned_of d E (frac b) ≡ jam d ((2 ^ 52 + frac b) * 2 ^ 9)
    go zero n = absurd (n refl)
    go (suc e) n = refl

pub aligned_none : (d b : ℕ) → expo b ≡ 0 → aligned d b ≡ 0
unfolding aligned
aligned_none d b h = ap (λ (E : ℕ). aligned_of d E (frac b)) h
