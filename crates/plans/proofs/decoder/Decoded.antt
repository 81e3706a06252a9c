-- The decoder as a whole: the word for r and the tests of c, which ride beside it through three ANDs, are what each is alone; the masks follow for every E.
-- Rests on Words and Riding; what is left after them is computed again, for each E from 960 to 1087, and for each c.
use mathlib.Core.Path.{◌≡◌, refl, sym, ap, ◌∙◌, subst}
use mathlib.Core.Logic.{inl, inr}
use mathlib.Core.Bool.{Bool, ◌&&◌, cond}
use Prim.Native.Nat.{ℕ, ◌+◌, ◌-◌, ◌/◌, ◌%◌, ◌^◌, ◌≤◌, ◌<◌}
use native.Mathlib.Omega.{arith}
use lib.Dec.{T, ltb, leb, eqb, eqb→eq}
use Rattle.bits.specs.Ops.{xor_w, and_w, not_w, shl_w, shr_w, spread_w}
use Rattle.bits.proofs.Xor.{and_zero}
use Rattle.word.proofs.Ranges.{both}
use Rattle.binary64.specs.Number.{expo}
use Rattle.binary64.proofs.Cases.{lt_or_ge, if_lt, if_not_lt, if_le, if_not_le, if_not_eq}
use Rattle.plans.proofs.Fields.{field}
use Rattle.plans.proofs.Tests.{every, each}
use Rattle.plans.proofs.Riding.{beside, rode, riders, carrier, riders_are, carrier_is}
use Rattle.plans.proofs.decoder.Words.{folded, lit2, lit1, lit0, for_high, for_low, pair_a, pair_b, tests_a, tests_b, top_tests, place_of, tests_of, WordsOf, words_of, TestsOf, tests_of_is}

-- ---- what the steps compute
-- places from 12 up by bit 1 of the tests, places 0 and 1 by bit 0
unfoldable pub chosen_by : ℕ → ℕ
chosen_by p = let b : ℕ = shr_w (shl_w p 63) 63 in xor_w (xor_w (shl_w (spread_w (shr_w p 1)) 12) b) (shl_w b 1)

-- what the steps before the last AND leave, for any last one: the word for r, the places that the tests choose, and the word that the tests of c's low bits ride beside
unfoldable pub decoded_by : (ℕ → ℕ → ℕ → ℕ) → ℕ → ℕ → ℕ
unfolding chosen_by
decoded_by last r c =
    let w₁ : ℕ = rode (lit2 r) (lit1 r) (pair_a c) (pair_b c) in
    let q : ℕ = riders w₁ in
    let w₂ : ℕ = rode (carrier w₁) (lit0 r) (tests_a c q) (tests_b c q) in
    let a : ℕ = carrier w₂ in
    let w₃ : ℕ = rode (for_high a) (for_low a) (riders w₂) (top_tests c) in
    last (carrier w₃) (chosen_by (riders w₃)) (beside (for_high a) (riders w₂))

unfoldable pub decoded_word : ℕ → ℕ → ℕ
unfolding decoded_by
decoded_word r c = decoded_by (λ p t l. and_w p t) r c

-- whether E = 1023 and whether E = 1022, from the decoded word
unfoldable pub is_one : ℕ → ℕ
is_one h = shr_w (shl_w h 63) 63

unfoldable pub is_half : ℕ → ℕ
is_half h = shr_w (shl_w h 62) 63

unfoldable pub one_place_of : ℕ → ℕ
unfolding is_one
one_place_of h = xor_w (shr_w h 13) (shl_w (is_one h) 51)

unfoldable pub fold : ℕ → ℕ
fold w = folded 32 (folded 16 (folded 8 (folded 4 (folded 2 (folded 1 w)))))

unfoldable pub mask_w : ℕ → ℕ
unfolding fold
mask_w p = fold (shl_w p 0)

unfoldable pub mask_u : ℕ → ℕ → ℕ
mask_u c o = shr_w (spread_w (xor_w (not_w (shr_w c 4)) o)) 1

-- ---- riders and carriers apart
-- the places for h and the tests of c's low bits, each alone
abbrev pub high_alone : ℕ → ℕ
high_alone r = for_high (and_w (and_w (lit2 r) (lit1 r)) (lit0 r))

abbrev pub low_tests : ℕ → ℕ
low_tests c = let q : ℕ = and_w (pair_a c) (pair_b c) in and_w (tests_a c q) (tests_b c q)

module _ (r c : ℕ) (W : WordsOf r) (C : TestsOf c) where
  pub decoded_apart : (last : ℕ → ℕ → ℕ → ℕ) → decoded_by last r c ≡ last (place_of r) (chosen_by (tests_of c)) (beside (high_alone r) (low_tests c))
  unfolding decoded_by
  decoded_apart last =
      let q : ℕ = and_w (pair_a c) (pair_b c) in
      let a : ℕ = and_w (lit2 r) (lit1 r) in
      let b : ℕ = and_w a (lit0 r) in
      let q₂ : ℕ = and_w (tests_a c q) (tests_b c q) in
      let r₁ : riders (rode (lit2 r) (lit1 r) (pair_a c) (pair_b c)) ≡ q = riders_are (lit2 r) (lit1 r) (pair_a c) (pair_b c) W.free2 W.free1 C.a_lt C.b_lt in
      let c₁ : carrier (rode (lit2 r) (lit1 r) (pair_a c) (pair_b c)) ≡ a = carrier_is (lit2 r) (lit1 r) (pair_a c) (pair_b c) W.free2 W.free1 C.a_lt C.b_lt in
      let r₂ : riders (rode a (lit0 r) (tests_a c q) (tests_b c q)) ≡ q₂ = riders_are a (lit0 r) (tests_a c q) (tests_b c q) W.free_pair W.free0 C.tests_a_lt C.tests_b_lt in
      let c₂ : carrier (rode a (lit0 r) (tests_a c q) (tests_b c q)) ≡ b = carrier_is a (lit0 r) (tests_a c q) (tests_b c q) W.free_pair W.free0 C.tests_a_lt C.tests_b_lt in
      let r₃ : riders (rode (for_high b) (for_low b) q₂ (top_tests c)) ≡ tests_of c = riders_are (for_high b) (for_low b) q₂ (top_tests c) W.free_high W.free_low C.tests_lt C.top_lt ∙ C.tests in
      let c₃ : carrier (rode (for_high b) (for_low b) q₂ (top_tests c)) ≡ place_of r = carrier_is (for_high b) (for_low b) q₂ (top_tests c) W.free_high W.free_low C.tests_lt C.top_lt ∙ W.place in
      rw (r₁, c₁, r₂, c₂, r₃, c₃) refl

-- ---- for every E
abbrev pub place_at : ℕ → ℕ
place_at E = cond (leb 1023 E) (cond (ltb E 1075) (2 ^ (1074 - E)) 0) 0

abbrev mask_at : ℕ → ℕ
mask_at E = cond (ltb E 1023) 0 (2 ^ (1075 - E) - 1)

abbrev below_at : ℕ → ℕ
below_at E = cond (ltb E 1023) (2 ^ 63 - 1) 0

abbrev half_at : ℕ → ℕ
half_at E = cond (eqb E 1022) 1 0

abbrev fits : ℕ → ℕ → Bool
fits E h = (eqb (one_place_of h) (place_at E) && (eqb (mask_w (one_place_of h)) (mask_at E) && (eqb (mask_u (E / 64) (is_one h)) (below_at E) && eqb (is_half h) (half_at E))))

abbrev near : ℕ → Bool
near i = let E : ℕ = 960 + i in fits E (and_w (place_of (E % 64)) (chosen_by (tests_of (E / 64))))

near_tested : T (every 128 near)
unfolding xor_w and_w not_w shl_w shr_w spread_w chosen_by one_place_of is_one is_half mask_w fold mask_u
near_tested = tt

-- elsewhere no test of c holds, nothing is decoded, and only U looks at c
nothing : (one_place_of 0 ≡ 0) × (mask_w 0 ≡ 0) × (is_one 0 ≡ 0) × (is_half 0 ≡ 0) × (chosen_by 0 ≡ 0)
unfolding xor_w and_w not_w shl_w shr_w spread_w chosen_by one_place_of is_one is_half mask_w fold
nothing = (refl, refl, refl, refl, refl)

far_tested : T (every 32 (λ c. eqb (mask_u c 0) (cond (ltb c 16) (2 ^ 63 - 1) 0)))
unfolding xor_w not_w shr_w spread_w mask_u
far_tested = tt

-- what the decoder leaves: the place, W, U, and whether E = 1022
pub record ExponentMasks (E p W U h : ℕ) : Type 0 where
  pub below : E < 1023 → (p ≡ 0) × (W ≡ 0) × (U ≡ 2 ^ 63 - 1)
  pub between : 1023 ≤ E → E < 1075 → (p ≡ 2 ^ (1074 - E)) × (W ≡ 2 ^ (1075 - E) - 1) × (U ≡ 0)
  pub large : 1075 ≤ E → (p ≡ 0) × (W ≡ 0) × (U ≡ 0)
  pub half : h ≡ half_at E

module _ (E p W U h : ℕ) (pe : p ≡ place_at E) (we : W ≡ mask_at E) (ue : U ≡ below_at E) (he : h ≡ half_at E) where
  by_ranges : ExponentMasks E p W U h
  by_ranges = record {
    below = λ l. (pe ∙ if_not_le 1023 E _ 0 l, we ∙ if_lt E 1023 0 _ l, ue ∙ if_lt E 1023 _ 0 l);
    between = λ g l. (pe ∙ if_le 1023 E _ 0 g ∙ if_lt E 1075 _ 0 l, we ∙ if_not_lt E 1023 0 _ g, ue ∙ if_not_lt E 1023 _ 0 g);
    large = λ g.
        let o : 1023 ≤ E = omega arith in
        let k : 1075 - E ≡ 0 = omega arith in
        (pe ∙ if_le 1023 E _ 0 o ∙ if_not_lt E 1075 _ 0 g, we ∙ if_not_lt E 1023 0 _ o ∙ ap (λ (k : ℕ). 2 ^ k - 1) k, ue ∙ if_not_lt E 1023 _ 0 o);
    half = he;
  }

module _ (E : ℕ) (h_e : E < 2048) where
  abbrev word : ℕ
  word = decoded_word (E % 64) (E / 64)

  word_is : word ≡ and_w (place_of (E % 64)) (chosen_by (tests_of (E / 64)))
  unfolding decoded_word
  word_is = decoded_apart (E % 64) (E / 64) (words_of (E % 64) (omega arith)) (tests_of_is (E / 64) (omega arith)) (λ p t l. and_w p t)

  abbrev Left : ℕ → Type 0
  Left h = ExponentMasks E (one_place_of h) (mask_w (one_place_of h)) (mask_u (E / 64) (is_one h)) (is_half h)

  within : 960 ≤ E → E < 1088 → Left word
  within g l =
      let i : 960 + (E - 960) ≡ E = omega arith in
      let h : ℕ = and_w (place_of (E % 64)) (chosen_by (tests_of (E / 64))) in
      let t = subst (λ (e : ℕ). T (fits e (and_w (place_of (e % 64)) (chosen_by (tests_of (e / 64)))))) i (each 128 near near_tested (E - 960) (omega arith)) in
      let t₁ = both (eqb (one_place_of h) (place_at E)) _ t in
      let t₂ = both (eqb (mask_w (one_place_of h)) (mask_at E)) _ t₁.1 in
      let t₃ = both (eqb (mask_u (E / 64) (is_one h)) (below_at E)) _ t₂.1 in
      subst Left (sym word_is)
      (by_ranges E (one_place_of h) (mask_w (one_place_of h)) (mask_u (E / 64) (is_one h)) (is_half h) (eqb→eq _ _ t₁.0) (eqb→eq _ _ t₂.0) (eqb→eq _ _ t₃.0) (eqb→eq _ _ t₃.1))

  far : (tests_of (E / 64) ≡ 0) → cond (ltb (E / 64) 16) (2 ^ 63 - 1) 0 ≡ below_at E → place_at E ≡ 0 → mask_at E ≡ 0 → (E ≡ 1022 → ⊥) → Left word
  far none u p m n =
      let w : word ≡ 0 = word_is ∙ ap (λ (t : ℕ). and_w (place_of (E % 64)) (chosen_by t)) none ∙ ap (and_w (place_of (E % 64))) nothing.4 ∙ and_zero (place_of (E % 64)) in
      let o = nothing.0 in
      subst Left (sym w)
      (by_ranges E (one_place_of 0) (mask_w (one_place_of 0)) (mask_u (E / 64) (is_one 0)) (is_half 0)
      (o ∙ sym p) (ap mask_w o ∙ nothing.1 ∙ sym m)
      (ap (mask_u (E / 64)) nothing.2 ∙ eqb→eq _ _ (each 32 (λ c. eqb (mask_u c 0) (cond (ltb c 16) (2 ^ 63 - 1) 0)) far_tested (E / 64) (omega arith)) ∙ u)
      (nothing.3 ∙ sym (if_not_eq E 1022 1 0 n)))

  no_test : (E / 64 ≡ 15 → ⊥) → (E / 64 ≡ 16 → ⊥) → tests_of (E / 64) ≡ 0
  no_test a b = if_not_eq (E / 64) 15 1 _ a ∙ if_not_eq (E / 64) 16 2 0 b

  pub exponent_decoded : Left word
  exponent_decoded =
      elim (lt_or_ge E 960) [
        | inl l ↦
            far (no_test (λ e. omega arith) (λ e. omega arith))
            (if_lt (E / 64) 16 _ 0 (omega arith) ∙ sym (if_lt E 1023 _ 0 (omega arith)))
            (if_not_le 1023 E _ 0 (omega arith)) (if_lt E 1023 0 _ (omega arith)) (λ e. omega arith)
        | inr g ↦ elim (lt_or_ge E 1088) [
          | inl l ↦ within g l
          | inr g₁ ↦
              let k : 1075 - E ≡ 0 = omega arith in
              far (no_test (λ e. omega arith) (λ e. omega arith))
              (if_not_lt (E / 64) 16 _ 0 (omega arith) ∙ sym (if_not_lt E 1023 _ 0 (omega arith)))
              (if_le 1023 E _ 0 (omega arith) ∙ if_not_lt E 1075 _ 0 (omega arith)) (if_not_lt E 1023 0 _ (omega arith) ∙ ap (λ (k : ℕ). 2 ^ k - 1) k) (λ e. omega arith)
        ]
      ]

-- ---- over the operand
-- r and c, as the steps take them
abbrev pub low_part : ℕ → ℕ
low_part x = shr_w (shl_w x 6) 58

abbrev pub high_part : ℕ → ℕ
high_part x = shr_w (shl_w x 1) 59

-- the decoded word of an operand, and its U
unfoldable pub decoded_of : ℕ → ℕ
decoded_of x = decoded_word (low_part x) (high_part x)

unfoldable pub below_of : ℕ → ℕ
below_of x = mask_u (high_part x) (is_one (decoded_of x))

pub low_part_is : (x : ℕ) → low_part x ≡ expo x % 64
low_part_is x = field x 6 52 6 (omega arith) ∙ omega arith

pub high_part_is : (x : ℕ) → high_part x ≡ expo x / 64
high_part_is x = field x 1 58 5 (omega arith) ∙ omega arith

pub decoded : (x : ℕ) → x < 2 ^ 64 → ExponentMasks (expo x) (one_place_of (decoded_of x)) (mask_w (one_place_of (decoded_of x))) (below_of x) (is_half (decoded_of x))
unfolding decoded_of below_of
decoded x hx = rw (low_part_is x, high_part_is x) (exponent_decoded (expo x) (omega arith))
