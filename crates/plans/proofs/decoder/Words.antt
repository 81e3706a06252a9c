-- The decoder's words, as functions of r = E mod 64 and c = E / 64, and what is computed of them: for every r the word for r alone, for every c the tests of c
-- alone. Nothing is argued here: every fact is a test over all r, or over all c.
-- Rests on Tests and Riding.
use mathlib.Core.Path.{◌≡◌}
use mathlib.Core.Bool.{Bool, ◌&&◌, cond}
use Prim.Native.Nat.{ℕ, ◌-◌, ◌/◌, ◌%◌, ◌^◌, ◌<◌}
use lib.Dec.{T, ltb, eqb, ltb→lt, eqb→eq}
use Rattle.bits.specs.Ops.{xor_w, and_w, not_w, shl_w, shr_w, spread_w}
use Rattle.word.proofs.Ranges.{both}
use Rattle.plans.proofs.Tests.{every, each}
use Rattle.plans.proofs.Riding.{Free}

-- ---- the literals
-- place p is bit 5 of p, then bit 4, ..
unfoldable pub pattern5 : ℕ
pattern5 = shl_w (not_w 0) 32

-- each step of a fold, and of a pattern from the one before
abbrev pub folded : ℕ → ℕ → ℕ
folded s c = xor_w c (shr_w c s)

unfoldable pub pattern2 : ℕ
unfolding pattern5
pattern2 = folded 4 (folded 8 (folded 16 pattern5))

-- what `high_literal` and `low_literal` of specs/Decoder make of the spread bits t and u with the patterns c and d
abbrev pub high_of : ℕ → ℕ → ℕ
high_of t c = xor_w (shl_w (shr_w (xor_w t c) 12) 12) (shl_w (shr_w t 63) 8)

abbrev pub literal : ℕ → ℕ → ℕ → ℕ → ℕ
literal t c u d = xor_w (high_of (spread_w t) c) (shr_w (xor_w (spread_w u) d) 56)

unfoldable pub lit2 : ℕ → ℕ
unfolding pattern5 pattern2
lit2 r = literal (shr_w r 5) pattern5 (shr_w r 2) pattern2

unfoldable pub lit1 : ℕ → ℕ
unfolding pattern5 pattern2
lit1 r = literal (shr_w r 4) (folded 16 pattern5) (shr_w r 1) (folded 2 pattern2)

unfoldable pub lit0 : ℕ → ℕ
unfolding pattern5 pattern2
lit0 r = literal (shr_w r 3) (folded 8 (folded 16 pattern5)) (shr_w r 0) (folded 1 (folded 2 pattern2))

-- ---- the places for h and for l
unfoldable pub for_high : ℕ → ℕ
for_high a = let b : ℕ = shr_w (shl_w a 55) 63 in xor_w (xor_w (shl_w (shr_w a 12) 12) b) (shl_w b 1)

abbrev pub doubled : ℕ → ℕ → ℕ
doubled s w = xor_w w (shl_w w s)

unfoldable pub for_low : ℕ → ℕ
for_low a = let l : ℕ = doubled 32 (doubled 16 (doubled 8 (shr_w (shl_w a 56) 56))) in xor_w (shl_w (shr_w l 12) 12) (shr_w (shl_w l 62) 62)

-- ---- the tests of c
unfoldable pub pair_a : ℕ → ℕ
pair_a c = shr_w (shl_w c 62) 62

unfoldable pub pair_b : ℕ → ℕ
pair_b c = shr_w (shl_w c 60) 62

-- q: which pairs are both 1
unfoldable pub no_pair : ℕ → ℕ → ℕ
unfolding pair_a pair_b
no_pair c q = not_w (xor_w (xor_w (pair_a c) (pair_b c)) q)

unfoldable pub tests_a : ℕ → ℕ → ℕ
unfolding no_pair
tests_a c q = xor_w (shr_w (shl_w q 63) 63) (shr_w (shl_w (no_pair c q) 63) 62)

unfoldable pub tests_b : ℕ → ℕ → ℕ
unfolding no_pair
tests_b c q = xor_w (shr_w q 1) (shr_w (shl_w (shr_w (no_pair c q) 1) 63) 62)

unfoldable pub top_tests : ℕ → ℕ
top_tests c = let e : ℕ = shr_w c 4 in xor_w (xor_w e (shl_w e 1)) 1

-- ---- each chain alone
abbrev pub alone : ℕ → ℕ
alone r = let a : ℕ = and_w (and_w (lit2 r) (lit1 r)) (lit0 r) in and_w (for_high a) (for_low a)

abbrev pub tests_alone : ℕ → ℕ
tests_alone c = let q : ℕ = and_w (pair_a c) (pair_b c) in and_w (and_w (tests_a c q) (tests_b c q)) (top_tests c)

-- what they are
abbrev pub place_of : ℕ → ℕ
place_of r = cond (ltb r 52) (2 ^ (63 - r)) (cond (eqb r 63) 1 (cond (eqb r 62) 2 0))

abbrev pub tests_of : ℕ → ℕ
tests_of c = cond (eqb c 15) 1 (cond (eqb c 16) 2 0)

-- ---- computed
abbrev pub is_free : ℕ → Bool
is_free x = ltb x (2 ^ 64) && eqb (x / 2 ^ 9 % 8) 0

pub is_free_is : (x : ℕ) → T (is_free x) → Free x
is_free_is x h = let b = both (ltb x (2 ^ 64)) (eqb (x / 2 ^ 9 % 8) 0) h in record { word = ltb→lt x (2 ^ 64) b.0; free = eqb→eq (x / 2 ^ 9 % 8) 0 b.1 }

abbrev words_test : ℕ → Bool
words_test r =
    let a : ℕ = and_w (lit2 r) (lit1 r) in
    let b : ℕ = and_w a (lit0 r) in
    let x : ℕ = for_high b in
    let y : ℕ = for_low b in
    (is_free (lit2 r) && (is_free (lit1 r) && (is_free (lit0 r) && (is_free a && (is_free x && (is_free y && eqb (and_w x y) (place_of r)))))))

words_tested : T (every 64 words_test)
unfolding xor_w and_w not_w shl_w shr_w spread_w lit2 lit1 lit0 for_high for_low
words_tested = tt

abbrev tests_test : ℕ → Bool
tests_test c =
    let q : ℕ = and_w (pair_a c) (pair_b c) in
    let s : ℕ = and_w (tests_a c q) (tests_b c q) in
    (ltb (pair_a c) 8 && (ltb (pair_b c) 8 && (ltb (tests_a c q) 8 && (ltb (tests_b c q) 8 && (ltb s 8 && (ltb (top_tests c) 8 && eqb (and_w s (top_tests c)) (tests_of c)))))))

tests_tested : T (every 32 tests_test)
unfolding xor_w and_w not_w shl_w shr_w spread_w pair_a pair_b tests_a tests_b top_tests
tests_tested = tt

pub record WordsOf (r : ℕ) : Type 0 where
  pub free2 : Free (lit2 r)
  pub free1 : Free (lit1 r)
  pub free0 : Free (lit0 r)
  pub free_pair : Free (and_w (lit2 r) (lit1 r))
  pub free_high : Free (for_high (and_w (and_w (lit2 r) (lit1 r)) (lit0 r)))
  pub free_low : Free (for_low (and_w (and_w (lit2 r) (lit1 r)) (lit0 r)))
  pub place : alone r ≡ place_of r

pub words_of : (r : ℕ) → r < 64 → WordsOf r
words_of r h =
    let a : ℕ = and_w (lit2 r) (lit1 r) in
    let b : ℕ = and_w a (lit0 r) in
    let t₁ = both (is_free (lit2 r)) _ (each 64 words_test words_tested r h) in
    let t₂ = both (is_free (lit1 r)) _ t₁.1 in
    let t₃ = both (is_free (lit0 r)) _ t₂.1 in
    let t₄ = both (is_free a) _ t₃.1 in
    let t₅ = both (is_free (for_high b)) _ t₄.1 in
    let t₆ = both (is_free (for_low b)) _ t₅.1 in
    record {
      free2 = is_free_is (lit2 r) t₁.0;
      free1 = is_free_is (lit1 r) t₂.0;
      free0 = is_free_is (lit0 r) t₃.0;
      free_pair = is_free_is a t₄.0;
      free_high = is_free_is (for_high b) t₅.0;
      free_low = is_free_is (for_low b) t₆.0;
      place = eqb→eq (alone r) (place_of r) t₆.1;
    }

pub record TestsOf (c : ℕ) : Type 0 where
  pub a_lt : pair_a c < 8
  pub b_lt : pair_b c < 8
  pub tests_a_lt : tests_a c (and_w (pair_a c) (pair_b c)) < 8
  pub tests_b_lt : tests_b c (and_w (pair_a c) (pair_b c)) < 8
  pub tests_lt : and_w (tests_a c (and_w (pair_a c) (pair_b c))) (tests_b c (and_w (pair_a c) (pair_b c))) < 8
  pub top_lt : top_tests c < 8
  pub tests : tests_alone c ≡ tests_of c

pub tests_of_is : (c : ℕ) → c < 32 → TestsOf c
tests_of_is c h =
    let q : ℕ = and_w (pair_a c) (pair_b c) in
    let t₁ = both (ltb (pair_a c) 8) _ (each 32 tests_test tests_tested c h) in
    let t₂ = both (ltb (pair_b c) 8) _ t₁.1 in
    let t₃ = both (ltb (tests_a c q) 8) _ t₂.1 in
    let t₄ = both (ltb (tests_b c q) 8) _ t₃.1 in
    let t₅ = both (ltb (and_w (tests_a c q) (tests_b c q)) 8) _ t₄.1 in
    let t₆ = both (ltb (top_tests c) 8) _ t₅.1 in
    record {
      a_lt = ltb→lt (pair_a c) 8 t₁.0;
      b_lt = ltb→lt (pair_b c) 8 t₂.0;
      tests_a_lt = ltb→lt (tests_a c q) 8 t₃.0;
      tests_b_lt = ltb→lt (tests_b c q) 8 t₄.0;
      tests_lt = ltb→lt (and_w (tests_a c q) (tests_b c q)) 8 t₅.0;
      top_lt = ltb→lt (top_tests c) 8 t₆.0;
      tests = eqb→eq (tests_alone c) (tests_of c) t₆.1;
    }
