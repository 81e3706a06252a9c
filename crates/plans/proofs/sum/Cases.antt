-- The sum's plan against `sum`, for a and b in the order of their exponents: z and its sign are those of the two operands in the order of their magnitudes, whose cases binary64's SumCases has. Where
-- the exponents are equal and b has the larger significand, the two change places; where b is a zero or too far below a, a is the sum whatever was lost of b. Rests on Told, Around, Near and Closing.
use mathlib.Core.Path.{◌≡◌, sym, ap, ap₂, ◌∙◌, subst}
use mathlib.Core.Logic.{◌⊎◌, inl, inr}
use Prim.Native.Nat.{ℕ, ◌+◌, ◌-◌, ◌*◌, ◌/◌, ◌%◌, ◌^◌, ◌≤◌, ◌<◌, min}
use native.Mathlib.Nat.{mod-lt, add-zero, add_comm, add_assoc, eq-zero-or-pos, add-mod, mod-eq_of_lt, one-mul, zero-mul, pos_of_ne-zero}
use native.Mathlib.Omega.{arith}
use lib.Pow.{pow_pos}
use Rattle.bits.specs.Ops.{xor_w, shr_w}
use Rattle.bits.proofs.Xor.{xor_zero_l, xor_self}
use Rattle.bits.proofs.Bound.{xor_lt}
use Rattle.bits.proofs.Parity.{xor_shifted}
use Rattle.bits.proofs.Places.{shr_is}
use Rattle.binary64.specs.Number.{sign, expo, frac, signed}
use Rattle.binary64.specs.Sum.{sum}
use Rattle.binary64.specs.inner.Steps.{aligned, encoded_at, encoded}
use Rattle.binary64.proofs.Cases.{lt_or_ge}
use Rattle.binary64.proofs.Words.{sign_cases}
use Rattle.binary64.proofs.Jam.{jam_is}
use Rattle.binary64.proofs.SumCases.{sum_comm, zeros_like, zeros_unlike, like_signs, differ, cancelled, unlike_signs, aligned_lt, aligned_none, aligned_some}
use Rattle.plans.proofs.Lanes.{is_zero, not_zero}
use Rattle.plans.proofs.sum.Run.{Aligned, Summed, summed_w, turned_w, around_w, around_sign, finish_w, added_w}
use Rattle.plans.proofs.sum.Shift.{significand10_is}
use Rattle.plans.proofs.sum.Closing.{closing_some, closing_none}
use Rattle.plans.proofs.sum.Ridden.{lost}
use Rattle.plans.proofs.sum.Around.{Around, around_like, around_more, around_less}
use Rattle.plans.proofs.sum.Near.{one_zero, near_sum, near_difference}
use Rattle.plans.proofs.sum.Align.{AlignedTo}
use Rattle.plans.proofs.sum.Told.{told, level}

-- the larger significand in its place
abbrev ten : ℕ → ℕ
ten a = (2 ^ 52 + frac a) * 2 ^ 10

ten_lo : (a : ℕ) → 2 ^ 62 ≤ ten a
ten_lo a = omega arith

ten_hi : (a : ℕ) → ten a < 2 ^ 63
ten_hi a = omega arith

-- and the smaller one's, at the same exponent
aligned_same : (b : ℕ) → (expo b ≡ 0 → ⊥) → aligned 0 b ≡ ten b
aligned_same b n = aligned_some 0 b n ∙ jam_is 0 ((2 ^ 52 + frac b) * 2 ^ 9) ∙ whole ((2 ^ 52 + frac b) * 2 ^ 9) ∙ omega arith
  where
    whole : (W : ℕ) → 2 * (W / 1) + min (W % 1) 1 ≡ 2 * W
    whole W = omega arith

-- ---- the signs
same : {x y : ℕ} → x ≡ y → (x + y) % 2 ≡ 0
same {x} {y} e = omega arith

module _ {a b : ℕ} (ha : a < 2 ^ 64) (hb : b < 2 ^ 64) where
  other : (sign a ≡ sign b → ⊥) → (sign a + sign b) % 2 ≡ 1
  other n = go (sign_cases a ha) (sign_cases b hb)
    where
      go : (sign a ≡ 0) ⊎ (sign a ≡ 1) → (sign b ≡ 0) ⊎ (sign b ≡ 1) → (sign a + sign b) % 2 ≡ 1
      go (inl s) (inl t) = absurd (n (s ∙ sym t))
      go (inl s) (inr t) = ap₂ (λ (x y : ℕ). (x + y) % 2) s t
      go (inr s) (inl t) = ap₂ (λ (x y : ℕ). (x + y) % 2) s t
      go (inr s) (inr t) = absurd (n (s ∙ sym t))

turned : (s t : ℕ) → (s ≡ 0) ⊎ (s ≡ 1) → (t ≡ 0) ⊎ (t ≡ 1) → (s ≡ t → ⊥) → xor_w s 1 ≡ t
turned s t (inl p) (inl q) n = absurd (n (p ∙ sym q))
turned s t (inl p) (inr q) n = ap (λ (x : ℕ). xor_w x 1) p ∙ xor_zero_l 1 ∙ sym q
turned s t (inr p) (inl q) n = ap (λ (x : ℕ). xor_w x 1) p ∙ xor_self 1 ∙ sym q
turned s t (inr p) (inr q) n = absurd (n (p ∙ sym q))

-- ---- the operands in the order of their exponents
module _ (a b : ℕ) (r : Aligned) (ha : a < 2 ^ 64) (hb : b < 2 ^ 64) (ord : expo b ≤ expo a) (t : AlignedTo a b r) where
  abbrev A : ℕ
  A = ten a

  abbrev B : ℕ
  B = r.value

  abbrev K : ℕ
  K = r.kept

  abbrev xy : ℕ
  xy = xor_w a b

  -- by the definition
  abbrev D : ℕ
  D = aligned (expo a - expo b) b

  xy_lt : xy < 2 ^ 64
  xy_lt = xor_lt 64 a b ha hb

  A_hi : A < 2 ^ 63
  A_hi = ten_hi a

  D_le : D ≤ 2 ^ 63
  unfolding aligned
  D_le = aligned_lt (expo a - expo b) (expo b) (frac b) (mod-lt b (pow_pos 52))

  B_le : B ≤ 2 ^ 63
  B_le = let h = D_le in elim (told a b r ord t) [ inl e ↦ omega arith | inr f ↦ let z = f.none in omega arith ]

  B_even : B % 2 ≡ 0
  B_even =
      elim (eq-zero-or-pos (expo b)) [
        | inl e ↦ let v = t.unused (inr e) in omega arith
        | inr p ↦ elim (lt_or_ge (expo a - expo b) 64) [ inl l ↦ let v = t.used l p in twice r.value _ v | inr l ↦ let v = t.unused (inl l) in omega arith ]
      ]
    where
      twice : (x y : ℕ) → x ≡ 2 * y → x % 2 ≡ 0
      twice x y e = omega arith

  A_whole : A % 2 ^ 10 ≡ 0
  A_whole = omega arith

  differs : xy / 2 ^ 63 ≡ (sign a + sign b) % 2
  differs =
      let h = xy_lt in
      let l : xy / 2 ^ 63 < 2 = omega arith in
      sym (mod-eq_of_lt l) ∙ ap (λ (x : ℕ). x % 2) (sym (shr_is xy 63)) ∙ xor_shifted a b 63 ∙ sym (add-mod (sign a) (sign b) 2)

  -- what the plan leaves
  abbrev sums : Summed
  sums = summed_w A (turned_w B xy) K (shr_w xy 63)

  abbrev left : ℕ
  left = finish_w a xy (around_sign a (shr_w xy 63) sums) (around_w A (turned_w B xy) (shr_w xy 63) sums)

  left_is : (z s : ℕ) → Around a A B K xy z s → left ≡ finish_w a xy s z
  left_is z s q = ap₂ (finish_w a xy) q.sign q.value

  like : xy / 2 ^ 63 ≡ 0 → left ≡ finish_w a xy (sign a) (A + (B + lost K))
  like e = left_is (A + B + lost K) (sign a) (around_like a A B K xy A_hi A_whole B_le t.kept_lt B_even e) ∙ ap (finish_w a xy (sign a)) (add_assoc A B (lost K))

  more : xy / 2 ^ 63 ≡ 1 → B < A → left ≡ finish_w a xy (sign a) (A - (B + lost K))
  more e l = left_is (A - B - lost K) (sign a) (around_more a A B K xy A_hi A_whole B_le t.kept_lt e l) ∙ ap (finish_w a xy (sign a)) (taken A B (lost K))
    where
      taken : (x y z : ℕ) → x - y - z ≡ x - (y + z)
      taken x y z = omega arith

  less : xy / 2 ^ 63 ≡ 1 → A ≤ B → lost K ≡ 0 → left ≡ finish_w a xy (xor_w (sign a) 1) (B - A)
  less e l z = left_is (B - A) (xor_w (sign a) 1) (around_less a A B K xy A_hi A_whole B_le t.kept_lt e l z)

  -- b is larger only at the same exponent, with a larger fraction
  module _ (l : a % 2 ^ 63 < b % 2 ^ 63) where
    expo_same : expo b ≡ expo a
    expo_same = omega arith

    frac_less : frac a < frac b
    frac_less = let e = expo_same in omega arith

    D_same : (expo a ≡ 0 → ⊥) → D ≡ ten b
    D_same n = let e : expo a - expo b ≡ 0 = omega (arith, expo_same) in ap (λ (d : ℕ). aligned d b) e ∙ aligned_same b (λ e. n (sym expo_same ∙ e))

    A_same : (expo a ≡ 0 → ⊥) → aligned (expo b - expo a) a ≡ A
    A_same n = let e : expo b - expo a ≡ 0 = omega (arith, expo_same) in ap (λ (d : ℕ). aligned d a) e ∙ aligned_same a n

  -- ---- both are zeros
  module _ (e : expo a ≡ 0) where
    eb : expo b ≡ 0
    eb = omega arith

    -- nothing comes of b
    none : (B ≡ 0) × (lost K ≡ 0)
    none =
        elim (told a b r ord t) [
          | inl q ↦ let z : D ≡ 0 = aligned_none (expo a - expo b) b eb in (omega arith, omega arith)
          | inr f ↦ let h = f.high in absurd (omega arith)
        ]

    nothing : encoded A (expo a) ≡ 0
    unfolding encoded_at
    nothing = ap₂ (λ (x y : ℕ). encoded_at x A y) (one_zero A (ten_lo a) (ten_hi a)) e

    some_A : (s : ℕ) → s < 2 → finish_w a xy s A ≡ s % 2 * (1 - xy / 2 ^ 63) * 2 ^ 63
    some_A s h =
        let lo = ten_lo a in
        let hi = ten_hi a in
        closing_some a xy s A ha xy_lt (omega arith) (omega arith) (omega arith)
        ∙ ap₂ (λ (x y : ℕ). s % 2 * (1 - is_zero x * (xy / 2 ^ 63)) * 2 ^ 63 + y) e nothing ∙ tidy (s % 2) (xy / 2 ^ 63)
      where
        tidy : (s x : ℕ) → s * (1 - 1 * x) * 2 ^ 63 + 0 ≡ s * (1 - x) * 2 ^ 63
        tidy s x = ap (λ (y : ℕ). s * (1 - y) * 2 ^ 63 + 0) (one-mul x) ∙ add-zero (s * (1 - x) * 2 ^ 63)

    zeros_agree : sign a ≡ sign b → left ≡ sum a b
    zeros_agree s =
        let d : xy / 2 ^ 63 ≡ 0 = differs ∙ same s in
        let n = none in
        let z : A + (B + lost K) ≡ A = omega (arith, n.0, n.1) in
        like d ∙ ap (finish_w a xy (sign a)) z
        ∙ some_A (sign a) (omega arith) ∙ ap (λ (x : ℕ). sign a % 2 * (1 - x) * 2 ^ 63) d ∙ ap (λ (x : ℕ). x * 2 ^ 63) (low (sign a) (omega arith))
        ∙ sym (elim (lt_or_ge (a % 2 ^ 63) (b % 2 ^ 63)) [
          | inl l ↦ sum_comm a b ∙ zeros_like b a (omega arith) eb (sym s) ∙ ap (λ (x : ℕ). x * 2 ^ 63) (sym s)
          | inr l ↦ zeros_like a b l e s
        ])
      where
        low : (x : ℕ) → x < 2 → x % 2 * (1 - 0) ≡ x
        low x h = omega arith

    zeros_differ : (sign a ≡ sign b → ⊥) → left ≡ sum a b
    zeros_differ u =
        let d : xy / 2 ^ 63 ≡ 1 = differs ∙ other ha hb u in
        let lo = ten_lo a in
        let n = none in
        let m : B < A = omega (arith, n.0) in
        let z : A - (B + lost K) ≡ A = omega (arith, n.0, n.1) in
        more d m ∙ ap (finish_w a xy (sign a)) z
        ∙ some_A (sign a) (omega arith) ∙ ap (λ (x : ℕ). sign a % 2 * (1 - x) * 2 ^ 63) d ∙ gone (sign a % 2)
        ∙ sym (elim (lt_or_ge (a % 2 ^ 63) (b % 2 ^ 63)) [
          | inl l ↦ sum_comm a b ∙ zeros_unlike b a (omega arith) eb (λ s. u (sym s))
          | inr l ↦ zeros_unlike a b l e u
        ])
      where
        gone : (x : ℕ) → x * (1 - 1) * 2 ^ 63 ≡ 0
        gone x = omega arith

  -- ---- the larger is not zero: the sign is z's
  module _ (n : expo a ≡ 0 → ⊥) where
    some_z : (s z : ℕ) → s < 2 → 0 < z → z < 2 ^ 64 → finish_w a xy s z ≡ signed s (encoded z (expo a))
    some_z s z h p l =
        closing_some a xy s z ha xy_lt (omega arith) p l
        ∙ ap (λ (x : ℕ). s % 2 * (1 - x * (xy / 2 ^ 63)) * 2 ^ 63 + encoded z (expo a)) (not_zero (expo a) (pos_of_ne-zero n))
        ∙ ap (λ (x : ℕ). x * 2 ^ 63 + encoded z (expo a)) (low s (xy / 2 ^ 63) h)
      where
        low : (x y : ℕ) → x < 2 → x % 2 * (1 - 0 * y) ≡ x
        low x y h = ap (λ (u : ℕ). x % 2 * (1 - u)) (zero-mul y) ∙ omega arith

    -- what is added or taken comes to the definition's
    added_same : encoded (A + (B + lost K)) (expo a) ≡ encoded (A + D) (expo a)
    added_same =
        elim (told a b r ord t) [
          | inl q ↦ ap (λ (x : ℕ). encoded (A + x) (expo a)) q
          | inr f ↦
              let z = f.none in
              let s = f.sticky in
              near_sum (2 ^ 52 + frac a) (expo a) (omega arith) (omega arith) f.high (B + lost K) (omega arith)
              ∙ sym (near_sum (2 ^ 52 + frac a) (expo a) (omega arith) (omega arith) f.high D f.defined)
        ]

    taken_same : encoded (A - (B + lost K)) (expo a) ≡ encoded (A - D) (expo a)
    taken_same =
        elim (told a b r ord t) [
          | inl q ↦ ap (λ (x : ℕ). encoded (A - x) (expo a)) q
          | inr f ↦
              let z = f.none in
              let s = f.sticky in
              near_difference (2 ^ 52 + frac a) (expo a) (omega arith) (omega arith) f.high (B + lost K) (omega arith)
              ∙ sym (near_difference (2 ^ 52 + frac a) (expo a) (omega arith) (omega arith) f.high D f.defined)
        ]

    agree : sign a ≡ sign b → left ≡ sum a b
    agree s =
        let e : xy / 2 ^ 63 ≡ 0 = differs ∙ same s in
        let lo = ten_lo a in
        let hi = A_hi in
        let k = B_le in
        like e ∙ some_z (sign a) (A + (B + lost K)) (omega arith) (omega arith) (omega arith) ∙ ap (signed (sign a)) added_same
        ∙ sym (elim (lt_or_ge (a % 2 ^ 63) (b % 2 ^ 63)) [
          | inl l ↦
              sum_comm a b ∙ like_signs b a (omega arith) (λ e. n (sym (expo_same l) ∙ e)) (sym s)
              ∙ ap₂ (λ (x y : ℕ). signed x (encoded (ten b + y) (expo b))) (sym s) (A_same l n)
              ∙ ap₂ (λ (x y : ℕ). signed (sign a) (encoded x y)) (add_comm (ten b) A ∙ ap (λ (x : ℕ). A + x) (sym (D_same l n))) (expo_same l)
          | inr l ↦ like_signs a b l n s
        ])

    module _ (u : sign a ≡ sign b → ⊥) where
      e₁ : xy / 2 ^ 63 ≡ 1
      e₁ = differs ∙ other ha hb u

      -- A and B are even, so that A - B is above the sticky bit
      rest : B < A → 0 < A - (B + lost K)
      rest m = let v = B_even in let w = A_whole in above A B (lost K) m (omega arith) v (omega arith)
        where
          above : (x y z : ℕ) → y < x → x % 2 ≡ 0 → y % 2 ≡ 0 → z ≤ 1 → 0 < x - (y + z)
          above x y z m p q h = omega arith

      -- and the definition's is below A too
      D_less : B < A → D < A
      D_less m =
          elim (told a b r ord t) [ inl q ↦ by_total A (B + lost K) D (rest m) q | inr f ↦ by_one A D (ten_lo a) f.defined ]
        where
          by_total : (x y z : ℕ) → 0 < x - y → y ≡ z → z < x
          by_total x y z h e = omega arith

          by_one : (x z : ℕ) → 2 ^ 62 ≤ x → z ≤ 1 → z < x
          by_one x z h l = omega arith

      greater : B < A → left ≡ sum a b
      greater m =
          more e₁ m ∙ some_z (sign a) (A - (B + lost K)) (omega arith) (rest m) (word A (B + lost K) A_hi) ∙ ap (signed (sign a)) taken_same
          ∙ sym (elim (lt_or_ge (a % 2 ^ 63) (b % 2 ^ 63)) [
            | inl l ↦ absurd (apart D A (ten b) (D_same l n) (D_less m) (larger l))
            | inr l ↦ unlike_signs a b l n u (some A D (D_less m))
          ])
        where
          word : (x y : ℕ) → x < 2 ^ 63 → x - y < 2 ^ 64
          word x y h = omega arith

          some : (x y : ℕ) → y < x → 0 < x - y
          some x y h = omega arith

          apart : (x y z : ℕ) → x ≡ z → x < y → y < z → ⊥
          apart x y z e h l = omega arith

          larger : a % 2 ^ 63 < b % 2 ^ 63 → A < ten b
          larger l = let f = frac_less l in omega arith

      not_greater : A ≤ B → left ≡ sum a b
      not_greater m =
          let k = B_le in
          let lo = ten_lo a in
          let z : lost K ≡ 0 = level a b r ord t (omega arith) in
          let q : B ≡ D = elim (told a b r ord t) [ inl q ↦ omega arith | inr f ↦ let w = f.none in absurd (omega arith) ] in
          less e₁ m z
          ∙ elim (lt_or_ge (a % 2 ^ 63) (b % 2 ^ 63)) [
            | inl l ↦
                let e : B ≡ ten b = q ∙ D_same l n in
                let f = frac_less l in
                ap (λ (s : ℕ). finish_w a xy s (B - A)) (turned (sign a) (sign b) (sign_cases a ha) (sign_cases b hb) u)
                ∙ some_z (sign b) (B - A) (omega arith) (omega arith) (omega arith)
                ∙ ap₂ (λ (x y : ℕ). signed (sign b) (encoded x y)) (ap₂ (λ (x y : ℕ). x - y) e (sym (A_same l n))) (sym (expo_same l))
                ∙ sym (unlike_signs b a (omega arith) (λ c. n (sym (expo_same l) ∙ c)) (λ s. u (sym s)) (subst (λ (x : ℕ). 0 < ten b - x) (sym (A_same l n)) (omega arith))) ∙ sum_comm b a
            | inr l ↦
                let f : D ≤ A = (differ a b l n).fits in
                let w : B - A ≡ 0 = omega arith in
                ap (finish_w a xy (xor_w (sign a) 1)) w ∙ closing_none a xy (xor_w (sign a) 1) ha xy_lt (xor_lt 64 (sign a) 1 (omega arith) (omega arith)) n
                ∙ sym (cancelled a b l n u (omega arith))
          ]

  all : left ≡ sum a b
  all =
      elim (eq-zero-or-pos ((sign a + sign b) % 2)) [
        | inl z ↦
            let s : sign a ≡ sign b = alike z in
            elim (eq-zero-or-pos (expo a)) [ inl e ↦ zeros_agree e s | inr p ↦ agree (λ e. absurd (omega arith)) s ]
        | inr p ↦
            let s : sign a ≡ sign b → ⊥ = λ e. absurd (let m = same e in omega arith) in
            elim (eq-zero-or-pos (expo a)) [
              | inl e ↦ zeros_differ e s
              | inr q ↦ elim (lt_or_ge B A) [ inl m ↦ greater (λ e. absurd (omega arith)) s m | inr m ↦ not_greater (λ e. absurd (omega arith)) s m ]
            ]
      ]
    where
      alike : (sign a + sign b) % 2 ≡ 0 → sign a ≡ sign b
      alike z = let h = ha in let l = hb in omega arith

-- the plan's words for a, B and xy
pub ordered_sum : (a b : ℕ) (r : Aligned) → a < 2 ^ 64 → b < 2 ^ 64 → expo b ≤ expo a → AlignedTo a b r → added_w a r (xor_w a b) ≡ sum a b
ordered_sum a b r ha hb ord t =
    let xy : ℕ = xor_w a b in
    let C : ℕ = turned_w r.value xy in
    let u : ℕ = shr_w xy 63 in
    ap (λ (A : ℕ). finish_w a xy (around_sign a u (summed_w A C r.kept u)) (around_w A C u (summed_w A C r.kept u))) (significand10_is a) ∙ all a b r ha hb ord t
