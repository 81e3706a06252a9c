-- Product and sum are IEEE 754's wherever both apply: the two theorems of specs/Ieee.
-- The library reads zero and normal operands as document 01 does, its `mul` and `add` hand the exact result to `round`, and `round` has the bits of `mag_bits` (IeeeRound).
use mathlib.Core.Path.{◌≡◌, refl, sym, ap, ap₂, ◌∙◌, subst}
use mathlib.Core.Logic.{◌⊎◌, inl, inr}
use mathlib.Core.Bool.{Bool, true, false, cond, ◌&&◌, beq}
use Prim.Native.Nat.{ℕ, zero, suc, ◌+◌, ◌-◌, ◌*◌, ◌/◌, ◌%◌, ◌^◌, ◌≤◌, ◌<◌}
use native.Mathlib.Nat.{le_trans, le_of_eq, le_of_lt, lt_of_mul-lt-mul_right, mul-lt-mul_of_pos_right, mul_assoc, mul_comm, mul-one, mul_right_comm, mul-mul-mul_comm, mul-pos, mul-sub, add-mul, div-eq_of_lt, eq-or-lt_of_le}
use native.Mathlib.Omega.{arith}
use borrow.Author.Tests.{lt-ltb, le-ltb, le-leb, lt-leb, ne_eqb}
use lib.Dec.{T, ltb, leb, eqb, lt→ltb, ltb→lt}
use lib.Pow.{pow_pos}
use lib.Ieee.{Float, nan, inf, fin, Format, binary64, prec, low, up, down, odd, round, mul, add, unlike, hid, ones, top, to_bits, of_bits, of_fields}
use lib.Ieee as I
use lib.Ieee.Exact.{HasValue, odd_sign}
use lib.Ieee.Fits.{down_pos}
use lib.Ieee.Scale.{round_same}
use Rattle.bits.specs.Ops.{xor_w}
use Rattle.binary64.specs.Number.{sign, expo, frac, magnitude_of, magnitude, signed}
use Rattle.binary64.specs.Rounding.{mag_bits}
use Rattle.binary64.specs.Product.{product}
use Rattle.binary64.specs.Sum.{sum_of, sum}
use Rattle.binary64.specs.Ieee.{ZeroOrNormal, ZeroOrLarge, ProductIsIeee, SumIsIeee}
use Rattle.binary64.proofs.Cases.{lt_or_ge}
use Rattle.binary64.proofs.Round.{bits_zero}
use Rattle.binary64.proofs.SumCases.{sum_like, sum_greater, sum_less, sum_equal}
use Rattle.binary64.proofs.IeeeRound.{round_mag_bits}

-- ---- reading an operand
pub negative : ℕ → Bool
negative a = leb (top binary64) a

fields_value : (s : Bool) (E F : ℕ) → ((E ≡ 0) × (F ≡ 0)) ⊎ ((1 ≤ E) × (E ≤ 2046)) → HasValue (of_fields binary64 s E F) s (magnitude_of E F) (2 ^ low binary64)
unfolding of_fields
fields_value s zero F (inl h) = subst (λ (z : ℕ). HasValue (odd (prec binary64) s z 0 (low binary64)) s 0 (2 ^ low binary64)) (sym h.1) (odd_sign (prec binary64) s 0 0 (low binary64))
fields_value s zero F (inr h) = absurd (omega (arith, h.0))
fields_value s (suc e) F (inl h) = absurd (omega (arith, h.0))
fields_value s (suc e) F (inr h) =
    let n : eqb (suc e) (ones binary64) ≡ false = ne_eqb (suc e) 2047 (λ q. absurd (omega (arith, h.1, q))) in
    subst (λ (b : Bool). HasValue (cond b (cond (eqb F 0) (inf s) nan) (odd (prec binary64) s (hid binary64 + F) e (low binary64))) s ((2 ^ 52 + F) * 2 ^ e) (2 ^ low binary64)) (sym n)
    (odd_sign (prec binary64) s (hid binary64 + F) e (low binary64))

pub value : (a : ℕ) → ZeroOrNormal a → HasValue (of_bits binary64 a) (negative a) (magnitude a) (2 ^ low binary64)
unfolding of_bits magnitude negative
value a h =
    subst (λ (E : ℕ). HasValue (of_fields binary64 (leb (top binary64) a) E (frac a)) (leb (top binary64) a) (magnitude_of (expo a) (frac a)) (2 ^ low binary64)) (sym (field a))
    (fields_value (leb (top binary64) a) (expo a) (frac a) h)
  where
    field : (a : ℕ) → a % 2 ^ 63 / 2 ^ 52 ≡ expo a
    field a = omega arith

-- the sign as a Bool and as a number
unfoldable pub bit : Bool → ℕ
bit b = cond b 1 0

pub negative_is : (a : ℕ) → a < 2 ^ 64 → sign a ≡ bit (negative a)
unfolding negative bit
negative_is a h =
    elim (lt_or_ge a (2 ^ 63)) [
      | inl l ↦ div-eq_of_lt l ∙ sym (ap (λ (b : Bool). cond b 1 0) (lt-leb (2 ^ 63) a l))
      | inr l ↦
          let s : sign a ≡ 1 = omega arith in
          s ∙ sym (ap (λ (b : Bool). cond b 1 0) (le-leb (2 ^ 63) a l))
    ]

top_is : (s : Bool) → cond s (top binary64) 0 ≡ bit s * 2 ^ 63
unfolding bit
top_is true = refl
top_is false = refl

-- ---- the exact product
mul_value : (f : Format) (x y : Float) (s t : Bool) (a c b d : ℕ) → 0 < c → 0 < d → HasValue x s a c → HasValue y t b d → mul f x y ≡ round f (unlike s t) (a * b) (c * d)
unfolding mul
mul_value f nan y s t a c b d C D h k = absurd h
mul_value f (inf u) y s t a c b d C D h k = absurd h
mul_value f (fin u m e) nan s t a c b d C D h k = absurd k
mul_value f (fin u m e) (inf v) s t a c b d C D h k = absurd k
mul_value f (fin u m e) (fin v n g) s t a c b d C D h k =
    ap₂ (λ (i j : Bool). round f (unlike i j) (m * up e * (n * up g)) (down e * down g)) h.0 k.0
    ∙ round_same f (unlike s t) (m * up e * (n * up g)) (down e * down g) (a * b) (c * d) (mul-pos (down_pos e) (down_pos g)) (mul-pos C D)
    (mul-mul-mul_comm (m * up e) (n * up g) c d ∙ ap₂ (λ (i j : ℕ). i * j) h.1 k.1 ∙ mul-mul-mul_comm a (down e) b (down g))

xor_bits : (s t : Bool) → xor_w (bit s) (bit t) ≡ bit (unlike s t)
unfolding xor_w bit
xor_bits true true = refl
xor_bits true false = refl
xor_bits false true = refl
xor_bits false false = refl

pub product_is_ieee : ProductIsIeee
unfolding product
product_is_ieee a b ha hb za zb big =
    let s = negative a in
    let t = negative b in
    let M = magnitude a * magnitude b in
    ap (λ (x : ℕ). signed x (mag_bits 1126 M)) (ap₂ xor_w (negative_is a ha) (negative_is b hb) ∙ xor_bits s t)
    ∙ ap (λ (x : ℕ). x + mag_bits 1126 M) (sym (top_is (unlike s t)))
    ∙ sym
    (ap (to_bits binary64)
    (mul_value binary64 (of_bits binary64 a) (of_bits binary64 b) s t (magnitude a) (2 ^ low binary64) (magnitude b) (2 ^ low binary64) (pow_pos 1074) (pow_pos 1074) (value a za) (value b zb))
    ∙ round_mag_bits (unlike s t) 1074 M big)

-- ---- the exact sum: `sum` over any common denominator
test_same : (x y : Bool) → (T x → T y) → (T y → T x) → x ≡ y
test_same true true f g = refl
test_same true false f g = absurd (f tt)
test_same false true f g = absurd (g tt)
test_same false false f g = refl

scaled_lt : (a b c a' b' c' : ℕ) → 0 < c' → a * c' ≡ a' * c → b * c' ≡ b' * c → a < b → a' < b'
scaled_lt a b c a' b' c' C' ea eb h =
    lt_of_mul-lt-mul_right c (le_trans (le_of_eq (ap suc (sym ea))) (le_trans (mul-lt-mul_of_pos_right h C') (le_of_eq eb)))

ltb_same : (a b c a' b' c' : ℕ) → 0 < c → 0 < c' → a * c' ≡ a' * c → b * c' ≡ b' * c → ltb a b ≡ ltb a' b'
ltb_same a b c a' b' c' C C' ea eb =
    test_same (ltb a b) (ltb a' b') (λ t. lt→ltb a' b' (scaled_lt a b c a' b' c' C' ea eb (ltb→lt a b t)))
    (λ t. lt→ltb a b (scaled_lt a' b' c' a b c C (sym ea) (sym eb) (ltb→lt a' b' t)))

diff : (a b c a' b' c' : ℕ) → a * c' ≡ a' * c → b * c' ≡ b' * c → (a - b) * c' ≡ (a' - b') * c
diff a b c a' b' c' ea eb =
    mul_comm (a - b) c' ∙ mul-sub c' a b ∙ ap₂ (λ (x y : ℕ). x - y) (mul_comm c' a ∙ ea ∙ mul_comm a' c) (mul_comm c' b ∙ eb ∙ mul_comm b' c)
    ∙ sym (mul-sub c a' b') ∙ mul_comm c (a' - b')

sum_is : (f : Format) (s t : Bool) (a b c : ℕ)
    → I.sum f s a t b c ≡ cond (beq s t) (round f s (a + b) c) (cond (ltb a b) (round f t (b - a) c) (round f (s && ltb b a) (a - b) c))
unfolding I.sum
sum_is f s t a b c = refl

sum_same : (f : Format) (s t : Bool) (a b c a' b' c' : ℕ) → 0 < c → 0 < c' → a * c' ≡ a' * c → b * c' ≡ b' * c → I.sum f s a t b c ≡ I.sum f s a' t b' c'
sum_same f s t a b c a' b' c' C C' ea eb =
    sum_is f s t a b c
    ∙ ap₂ (λ (x y : Bool). cond (beq s t) (round f s (a + b) c) (cond x (round f t (b - a) c) (round f (s && y) (a - b) c))) (ltb_same a b c a' b' c' C C' ea eb) (ltb_same b a c b' a' c' C C' eb ea)
    ∙ ap₂ (λ (x y : Float). cond (beq s t) x (cond (ltb a' b') y (round f (s && ltb b' a') (a - b) c)))
    (round_same f s (a + b) c (a' + b') c' C C' (add-mul a b c' ∙ ap₂ (λ (x y : ℕ). x + y) ea eb ∙ sym (add-mul a' b' c)))
    (round_same f t (b - a) c (b' - a') c' C C' (diff b a c b' a' c' eb ea))
    ∙ ap (λ (x : Float). cond (beq s t) (round f s (a' + b') c') (cond (ltb a' b') (round f t (b' - a') c') x)) (round_same f (s && ltb b' a') (a - b) c (a' - b') c' C C' (diff a b c a' b' c' ea eb))
    ∙ sym (sum_is f s t a' b' c')

add_value : (f : Format) (x y : Float) (s t : Bool) (a b c : ℕ) → 0 < c → HasValue x s a c → HasValue y t b c → add f x y ≡ I.sum f s a t b c
unfolding add
add_value f nan y s t a b c C h k = absurd h
add_value f (inf u) y s t a b c C h k = absurd h
add_value f (fin u m e) nan s t a b c C h k = absurd k
add_value f (fin u m e) (inf w) s t a b c C h k = absurd k
add_value f (fin u m e) (fin w n g) s t a b c C h k =
    ap₂ (λ (i j : Bool). I.sum f i (m * up e * down g) j (n * up g * down e) (down e * down g)) h.0 k.0
    ∙ sum_same f s t (m * up e * down g) (n * up g * down e) (down e * down g) a b c (mul-pos (down_pos e) (down_pos g)) C
    (mul_right_comm (m * up e) (down g) c ∙ ap (λ (z : ℕ). z * down g) h.1 ∙ mul_assoc a (down e) (down g))
    (mul_right_comm (n * up g) (down e) c ∙ ap (λ (z : ℕ). z * down e) k.1 ∙ mul_assoc b (down g) (down e) ∙ ap (λ (z : ℕ). b * z) (mul_comm (down g) (down e)))

-- M units of 2^-low
pub round_52 : (s : Bool) (M : ℕ) → ZeroOrLarge 52 M → to_bits binary64 (round binary64 s M (2 ^ low binary64)) ≡ signed (bit s) (mag_bits 52 M)
round_52 s M h =
    ap (λ (d : ℕ). to_bits binary64 (round binary64 s M d)) (sym (mul-one (2 ^ low binary64))) ∙ round_mag_bits s 0 M h ∙ ap (λ (x : ℕ). x + mag_bits 52 M) (top_is s)

-- the library's cases, in document 01's terms
abbrev rounded : Bool → ℕ → Float
rounded s M = round binary64 s M (2 ^ low binary64)

abbrev theirs : Bool → Bool → ℕ → ℕ → ℕ
theirs s t A B = to_bits binary64 (I.sum binary64 s A t B (2 ^ low binary64))

module _ (s t : Bool) (A B : ℕ) where
  opened : theirs s t A B
      ≡ to_bits binary64 (cond (beq s t) (rounded s (A + B)) (cond (ltb A B) (rounded t (B - A)) (rounded (s && ltb B A) (A - B))))
  opened = ap (to_bits binary64) (sum_is binary64 s t A B (2 ^ low binary64))

  like : beq s t ≡ true → bit s ≡ bit t → ZeroOrLarge 52 (A + B) → theirs s t A B ≡ sum_of (bit s) (bit t) A B
  like e q h =
      opened
      ∙ ap (λ (b : Bool). to_bits binary64 (cond b (rounded s (A + B)) (cond (ltb A B) (rounded t (B - A)) (rounded (s && ltb B A) (A - B))))) e
      ∙ round_52 s (A + B) h ∙ sym (sum_like (bit s) (bit t) A B q)

  module _ (e : beq s t ≡ false) (ne : bit s ≡ bit t → ⊥) (h : ZeroOrLarge 52 ((A - B) + (B - A))) where
    apart : theirs s t A B
        ≡ to_bits binary64 (cond (ltb A B) (rounded t (B - A)) (rounded (s && ltb B A) (A - B)))
    apart =
        opened
        ∙ ap (λ (b : Bool). to_bits binary64 (cond b (rounded s (A + B)) (cond (ltb A B) (rounded t (B - A)) (rounded (s && ltb B A) (A - B))))) e

    less : A < B → theirs s t A B ≡ sum_of (bit s) (bit t) A B
    less l =
        let z : (A - B) + (B - A) ≡ B - A = omega arith in
        apart
        ∙ ap (λ (b : Bool). to_bits binary64 (cond b (rounded t (B - A)) (rounded (s && ltb B A) (A - B)))) (lt-ltb A B l)
        ∙ round_52 t (B - A) (subst (ZeroOrLarge 52) z h) ∙ sym (sum_less (bit s) (bit t) A B ne l)

    greater : B < A → theirs s t A B ≡ sum_of (bit s) (bit t) A B
    greater l =
        let z : (A - B) + (B - A) ≡ A - B = omega arith in
        apart
        ∙ ap (λ (b : Bool). to_bits binary64 (cond b (rounded t (B - A)) (rounded (s && ltb B A) (A - B)))) (le-ltb A B (le_of_lt l))
        ∙ ap (λ (b : Bool). to_bits binary64 (rounded b (A - B))) (ap (λ (b : Bool). s && b) (lt-ltb B A l) ∙ and_true s)
        ∙ round_52 s (A - B) (subst (ZeroOrLarge 52) z h) ∙ sym (sum_greater (bit s) (bit t) A B ne l)
      where
        and_true : (b : Bool) → (b && true) ≡ b
        and_true true = refl
        and_true false = refl

    equal : A ≡ B → theirs s t A B ≡ sum_of (bit s) (bit t) A B
    unfolding bit
    equal q =
        let z : A - B ≡ 0 = omega arith in
        apart
        ∙ ap (λ (b : Bool). to_bits binary64 (cond b (rounded t (B - A)) (rounded (s && ltb B A) (A - B)))) (le-ltb A B (le_of_eq (sym q)))
        ∙ ap (λ (b : Bool). to_bits binary64 (rounded b (A - B))) (ap (λ (b : Bool). s && b) (le-ltb B A (le_of_eq q)) ∙ and_false s)
        ∙ round_52 false (A - B) (inl z)
        ∙ ap (signed (bit false)) (ap (mag_bits 52) z ∙ bits_zero 52)
        ∙ sym (sum_equal (bit s) (bit t) A B ne q)
      where
        and_false : (b : Bool) → (b && false) ≡ false
        and_false true = refl
        and_false false = refl

    unlike_signs : theirs s t A B ≡ sum_of (bit s) (bit t) A B
    unlike_signs =
        elim (lt_or_ge A B) [
          | inl l ↦ less l
          | inr l ↦ elim (eq-or-lt_of_le l) [ inl q ↦ equal (sym q) | inr g ↦ greater g ]
        ]

sum_bits : (s t : Bool) (A B : ℕ) → ZeroOrLarge 52 (cond (eqb (bit s) (bit t)) (A + B) ((A - B) + (B - A))) → theirs s t A B ≡ sum_of (bit s) (bit t) A B
unfolding bit
sum_bits true true A B h = like true true A B refl refl h
sum_bits false false A B h = like false false A B refl refl h
sum_bits true false A B h = unlike_signs true false A B refl (λ e. absurd (omega arith)) h
sum_bits false true A B h = unlike_signs false true A B refl (λ e. absurd (omega arith)) h

pub sum_is_ieee : SumIsIeee
unfolding sum
sum_is_ieee a b ha hb za zb big =
    let s = negative a in
    let t = negative b in
    let A = magnitude a in
    let B = magnitude b in
    ap₂ (λ (x y : ℕ). sum_of x y A B) (negative_is a ha) (negative_is b hb)
    ∙ sym
    (ap (to_bits binary64) (add_value binary64 (of_bits binary64 a) (of_bits binary64 b) s t A B (2 ^ low binary64) (pow_pos 1074) (value a za) (value b zb))
    ∙ sum_bits s t A B (subst (λ (m : ℕ). ZeroOrLarge 52 m) (ap₂ (λ (x y : ℕ). cond (eqb x y) (A + B) ((A - B) + (B - A))) (negative_is a ha) (negative_is b hb)) big))
