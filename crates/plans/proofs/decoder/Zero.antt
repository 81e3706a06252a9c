-- The decoder with a test for E = 0, which rides in its last AND: what it leaves for every operand. Rests on Decoded and Riding; what the test is made of is computed for
-- each r and each c.
use mathlib.Core.Path.{◌≡◌, sym, ap, ap₂, ◌∙◌}
use mathlib.Core.Bool.{Bool, ◌&&◌, cond}
use Prim.Native.Nat.{ℕ, ◌+◌, ◌*◌, ◌/◌, ◌%◌, ◌^◌, ◌<◌}
use native.Mathlib.Omega.{arith}
use lib.Dec.{T, eqb, eqb→eq}
use Rattle.bits.specs.Ops.{xor_w, and_w, not_w, shl_w, shr_w, spread_w}
use Rattle.bits.proofs.Places.{shr_is}
use Rattle.word.proofs.Ranges.{both}
use Rattle.binary64.specs.Number.{expo}
use Rattle.binary64.proofs.Cases.{by_eq, if_eq, if_not_eq}
use Rattle.plans.proofs.Fields.{field, low_bits}
use Rattle.plans.proofs.Tests.{every, each}
use Rattle.plans.proofs.Riding.{beside, rode, riders, carrier, Free, beside_is, rode_lt, riders_are, carrier_is, carrier_parts}
use Rattle.plans.proofs.decoder.Words.{is_free, is_free_is, pair_a, pair_b, tests_a, tests_b, place_of, tests_of, WordsOf, words_of, TestsOf, tests_of_is}
use Rattle.plans.proofs.decoder.Decoded.{chosen_by, decoded_by, decoded_word, is_one, is_half, one_place_of, mask_w, mask_u, high_alone, low_tests, decoded_apart, ExponentMasks, low_part, high_part, low_part_is, high_part_is, decoded_of, below_of, decoded}

-- ---- what the steps compute
-- p the word for r, t the places that the tests choose, l the word that the tests of c's low bits ride beside
abbrev pub marked : ℕ → ℕ → ℕ → ℕ
marked p t l = rode p t (shr_w p 63) (xor_w (shr_w t 63) (shr_w (shl_w l 53) 63))

unfoldable pub marked_of : ℕ → ℕ
marked_of x = decoded_by marked (low_part x) (high_part x)

-- ---- computed: whether r = 0, and whether c = 0
abbrev none : ℕ → ℕ
none n = cond (eqb n 0) 1 0

abbrev r_test : ℕ → Bool
r_test r = is_free (place_of r) && eqb (shr_w (place_of r) 63) (none r)

r_tested : T (every 64 r_test)
unfolding shr_w
r_tested = tt

r_none : (r : ℕ) → r < 64 → Free (place_of r) × (shr_w (place_of r) 63 ≡ none r)
r_none r h = let t = both (is_free (place_of r)) _ (each 64 r_test r_tested r h) in (is_free_is (place_of r) t.0, eqb→eq _ _ t.1)

abbrev c_test : ℕ → Bool
c_test c = is_free (chosen_by (tests_of c)) && eqb (xor_w (shr_w (chosen_by (tests_of c)) 63) (low_tests c / 2 % 2)) (none c)

c_tested : T (every 32 c_test)
unfolding xor_w and_w not_w shl_w shr_w spread_w chosen_by pair_a pair_b tests_a tests_b
c_tested = tt

c_none : (c : ℕ) → c < 32 → Free (chosen_by (tests_of c)) × (xor_w (shr_w (chosen_by (tests_of c)) 63) (low_tests c / 2 % 2) ≡ none c)
c_none c h = let t = both (is_free (chosen_by (tests_of c))) _ (each 32 c_test c_tested c h) in (is_free_is (chosen_by (tests_of c)) t.0, eqb→eq _ _ t.1)

-- ---- the riders of the last AND
-- the tests of c's low bits, in places 9 to 11: whether they are all 0 is the second
second : (h l : ℕ) → Free h → l < 8 → shr_w (shl_w (beside h l) 53) 63 ≡ l / 2 % 2
second h l f b = field (beside h l) 53 10 1 (omega arith) ∙ ap (λ (w : ℕ). w / 2 ^ 10 % 2 ^ 1) (beside_is h f l b) ∙ middle (h / 2 ^ 12) l (h % 2 ^ 9) (omega arith) b
  where
    middle : (t l w : ℕ) → w < 2 ^ 9 → l < 8 → (t * 2 ^ 12 + (l * 2 ^ 9 + w)) / 2 ^ 10 % 2 ^ 1 ≡ l / 2 % 2
    middle t l w h k = omega arith

none_lt : (n : ℕ) → none n < 8
none_lt n = by_eq (λ (b : Bool). cond b 1 0 < 8) n 0 (λ e. omega arith) (λ e. omega arith)

both_none : (E : ℕ) → and_w (none (E % 64)) (none (E / 64)) ≡ none E
unfolding and_w
both_none E =
    by_eq (λ (b : Bool). and_w (cond b 1 0) (none (E / 64)) ≡ none E) (E % 64) 0
    (λ r. by_eq (λ (b : Bool). and_w 1 (cond b 1 0) ≡ none E) (E / 64) 0 (λ c. sym (if_eq E 0 1 0 (omega arith))) (λ c. sym (if_not_eq E 0 1 0 (λ e. c (omega arith)))))
    (λ r. by_eq (λ (b : Bool). and_w 0 (cond b 1 0) ≡ none E) (E / 64) 0 (λ c. sym (if_not_eq E 0 1 0 (λ e. r (omega arith)))) (λ c. sym (if_not_eq E 0 1 0 (λ e. r (omega arith)))))

-- ---- for every E: the decoded word, and whether E = 0 beside it
record Marked (E w : ℕ) : Type 0 where
  word : w < 2 ^ 64
  carried : carrier w ≡ decoded_word (E % 64) (E / 64)
  zero : riders w ≡ none E

module _ (E : ℕ) (h_e : E < 2048) where
  abbrev r : ℕ
  r = E % 64

  abbrev c : ℕ
  c = E / 64

  abbrev p : ℕ
  p = place_of r

  abbrev t : ℕ
  t = chosen_by (tests_of c)

  W : WordsOf r
  W = words_of r (omega arith)

  C : TestsOf c
  C = tests_of_is c (omega arith)

  marked_is : decoded_by marked r c ≡ rode p t (none r) (none c)
  marked_is =
      decoded_apart r c W C marked
      ∙ ap₂ (rode p t) (r_none r (omega arith)).1 (ap (xor_w (shr_w t 63)) (second (high_alone r) (low_tests c) W.free_high C.tests_lt) ∙ (c_none c (omega arith)).1)

  decoded_marked : Marked E (decoded_by marked r c)
  unfolding decoded_word
  decoded_marked =
      let fp = (r_none r (omega arith)).0 in
      let ft = (c_none c (omega arith)).0 in
      rw marked_is
      (record {
        word = rode_lt p t (none r) (none c) fp ft (none_lt r) (none_lt c);
        carried = carrier_is p t (none r) (none c) fp ft (none_lt r) (none_lt c) ∙ sym (decoded_apart r c W C (λ p t l. and_w p t));
        zero = riders_are p t (none r) (none c) fp ft (none_lt r) (none_lt c) ∙ both_none E;
      })

-- ---- places 9 to 11 are not looked at
module _ (w : ℕ) (h : w < 2 ^ 64) where
  one_carried : is_one w ≡ is_one (carrier w)
  unfolding is_one
  one_carried = low_bits w 63 1 (omega arith) ∙ sym (low_bits (carrier w) 63 1 (omega arith) ∙ ap (λ (v : ℕ). v % 2 ^ 1) (carrier_parts w h) ∙ lowest w)
    where
      lowest : (w : ℕ) → (w / 2 ^ 12 * 2 ^ 12 + w % 2 ^ 9) % 2 ^ 1 ≡ w % 2 ^ 1
      lowest w = omega arith

  place_carried : one_place_of w ≡ one_place_of (carrier w)
  unfolding one_place_of
  place_carried = ap₂ (λ (a b : ℕ). xor_w a (shl_w b 51)) (shr_is w 13 ∙ sym (shr_is (carrier w) 13 ∙ ap (λ (v : ℕ). v / 2 ^ 13) (carrier_parts w h) ∙ upper w)) one_carried
    where
      upper : (w : ℕ) → (w / 2 ^ 12 * 2 ^ 12 + w % 2 ^ 9) / 2 ^ 13 ≡ w / 2 ^ 13
      upper w = omega arith

-- ---- over the operand
pub record WithZero (x w : ℕ) : Type 0 where
  pub masks : ExponentMasks (expo x) (one_place_of w) (mask_w (one_place_of w)) (mask_u (high_part x) (is_one w)) (is_half (decoded_of x))
  pub zero : riders w ≡ none (expo x)

pub decoded_with_zero : (x : ℕ) → x < 2 ^ 64 → WithZero x (marked_of x)
unfolding marked_of decoded_of below_of
decoded_with_zero x hx =
    let w : ℕ = decoded_by marked (low_part x) (high_part x) in
    let b : Marked (expo x) w = rw (low_part_is x, high_part_is x) (decoded_marked (expo x) (omega arith)) in
    let e : carrier w ≡ decoded_word (low_part x) (high_part x) = b.carried ∙ sym (ap₂ decoded_word (low_part_is x) (high_part_is x)) in
    let o : one_place_of w ≡ one_place_of (decoded_word (low_part x) (high_part x)) = place_carried w b.word ∙ ap one_place_of e in
    let i : is_one w ≡ is_one (decoded_word (low_part x) (high_part x)) = one_carried w b.word ∙ ap is_one e in
    record { masks = rw (o, i) (decoded x hx); zero = b.zero }
