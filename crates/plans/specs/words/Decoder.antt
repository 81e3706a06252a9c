-- The decoder of the exponent that floor, truncation and nearest share: from E one place, 2^(1074−E) for 1023 ≤ E ≤ 1074, and from it the mask W of the bits to drop,
-- by four ANDs and no ADD. E is 64c + r, r is 8h + l. Two decoders of 3 bits, for h and for l, give a word with one place for r; tests of c ride in places that
-- these leave free.
-- Nothing here has to be believed: what the plans compute is proved.
-- Registers: 0 the operand, 22 r, 23 c; 9, 10, 11 the literals, in which a place is 1 where a bit of r and the same bit of the place differ (and place 8 the
-- bit itself, for r from 56 on), until tests are put beside them; 12 a pattern; 13 the decoded word; 4 and 5 the tests of c. At the end 8 is
-- the place, 6 W, 7 U; before that 6 and 7, and always 3, 14, 19 and 20, hold words on the way. With the test for E = 0, 21 has it.
use Rattle.std.specs.Prelude.{List, [], ◌∷◌, ◌++◌, ℕ}
use Rattle.word.specs.declared.step.Step.{Step}
use Rattle.word.specs.declared.step.Step.TheVariants.{Const, Xor, And, Not, Shl, Shr, Spread}
use Rattle.plans.specs.words.Segments.{fold_down}

-- r = E mod 64 and c = E / 64
unfoldable pub exponent_parts : List Step
exponent_parts = Shl 22 0 6 ∷ Shr 22 22 58 ∷ Shl 23 0 1 ∷ Shr 23 23 59 ∷ []

-- register 12: the word whose place p is bit 5 of p; then bit 4, 3, .. of p, by shifts of 16, 8, ..
unfoldable pub first_pattern : List Step
first_pattern = Const 12 0 ∷ Not 12 12 ∷ Shl 12 12 32 ∷ []

unfoldable pub next_pattern : ℕ → List Step
next_pattern s = Shr 3 12 s ∷ Xor 12 12 3 ∷ []

-- bit k of r compared with the pattern in places 12 to 63 of b, for h, and the bit itself in place 8
unfoldable pub high_literal : ℕ → ℕ → List Step
high_literal b k = Shr 3 22 k ∷ Spread 3 3 ∷ Xor b 3 12 ∷ Shr b b 12 ∷ Shl b b 12 ∷ Shr 3 3 63 ∷ Shl 3 3 8 ∷ Xor b b 3 ∷ []

-- bit k of r compared with the pattern in places 0 to 7 of b, for l
unfoldable pub low_literal : ℕ → ℕ → List Step
low_literal b k = Shr 3 22 k ∷ Spread 3 3 ∷ Xor 3 3 12 ∷ Shr 3 3 56 ∷ Xor b b 3 ∷ []

unfoldable pub literals : List Step
unfolding first_pattern next_pattern high_literal low_literal
literals =
    first_pattern ++ (high_literal 11 5 ++ (next_pattern 16 ++ (high_literal 10 4 ++ (next_pattern 8 ++ (high_literal 9 3 ++
    (next_pattern 4 ++ (low_literal 11 2 ++ (next_pattern 2 ++ (low_literal 10 1 ++ (next_pattern 1 ++ low_literal 9 0))))))))))

-- register 13: x AND y, and m: m AND n, which ride in places 9 to 11 of x and y, where these are 0, and of register 13
unfoldable pub ride : ℕ → ℕ → ℕ → ℕ → List Step
ride x y m n = Shl m m 9 ∷ Xor x x m ∷ Shl n n 9 ∷ Xor y y n ∷ And 13 x y ∷ Shl m 13 52 ∷ Shr m m 61 ∷ []

-- places 9 to 11 of register 13 cleared
unfoldable pub take_off : List Step
take_off = Shl 3 13 55 ∷ Shr 3 3 55 ∷ Shr 13 13 12 ∷ Shl 13 13 12 ∷ Xor 13 13 3 ∷ []

unfoldable pub riding : ℕ → ℕ → ℕ → ℕ → List Step
unfolding ride take_off
riding x y m n = ride x y m n ++ take_off

-- register 4: bits 0 and 1 of c, register 5: bits 2 and 3, for an AND, after which register 4 says whether bits 0 and 2 are both 1, and whether bits 1 and 3
-- are; register 6: whether they differ
unfoldable pub bit_pairs : List Step
bit_pairs = Shl 4 23 62 ∷ Shr 4 4 62 ∷ Shl 5 23 60 ∷ Shr 5 5 62 ∷ Xor 6 4 5 ∷ []

-- registers 4 and 5: of bits 0 and 2, and of bits 1 and 3, whether both are 1, and whether both are 0, for an AND, after which register 4 says whether bits 0 to 3 of c are all 1, and
-- whether they are all 0
unfoldable pub pairs_of_pairs : List Step
pairs_of_pairs =
    Xor 6 6 4 ∷ Not 6 6 ∷ Shl 7 6 63 ∷ Shr 7 7 62 ∷ Shr 6 6 1 ∷ Shl 6 6 63 ∷ Shr 6 6 62 ∷ Shr 5 4 1 ∷ Xor 5 5 6 ∷
    Shl 4 4 63 ∷ Shr 4 4 63 ∷ Xor 4 4 7 ∷ []

-- registers 19 and 20: the places for h, and those for l eight times over, for an AND that leaves place 63 − r, from 12 up, with place 0 for r = 63 and place 1 for
-- r = 62; register 5: the opposite of bit 4 of c in place 0 and the bit in place 1, for the tests: c = 15 and c = 16
unfoldable pub high_and_low : List Step
high_and_low =
    Shl 14 13 56 ∷ Shr 14 14 56 ∷ Shl 3 14 8 ∷ Xor 14 14 3 ∷ Shl 3 14 16 ∷ Xor 14 14 3 ∷ Shl 3 14 32 ∷ Xor 14 14 3 ∷
    Shr 19 13 12 ∷ Shl 19 19 12 ∷ Shl 3 13 55 ∷ Shr 3 3 63 ∷ Xor 19 19 3 ∷ Shl 3 3 1 ∷ Xor 19 19 3 ∷
    Shr 20 14 12 ∷ Shl 20 20 12 ∷ Shl 3 14 62 ∷ Shr 3 3 62 ∷ Xor 20 20 3 ∷
    Shr 5 23 4 ∷ Shl 3 5 1 ∷ Xor 5 5 3 ∷ Const 3 1 ∷ Xor 5 5 3 ∷ []

-- register 5: the places from 12 up where c = 16, places 0 and 1 where c = 15, for an AND that leaves in register 13 the places that E decides
unfoldable pub by_tests : List Step
by_tests = Shr 5 4 1 ∷ Spread 5 5 ∷ Shl 5 5 12 ∷ Shl 4 4 63 ∷ Shr 4 4 63 ∷ Xor 5 5 4 ∷ Shl 4 4 1 ∷ Xor 5 5 4 ∷ []

-- register 3: whether E = 1023; register 8: 2^(1074−E) for 1023 ≤ E ≤ 1074, else 0
unfoldable pub one_place : List Step
one_place = Shl 3 13 63 ∷ Shr 3 3 63 ∷ Shl 4 3 51 ∷ Shr 8 13 13 ∷ Xor 8 8 4 ∷ []

-- U: 63 ones for E < 1023, else none; W: the 1075 − E low bits for 1023 ≤ E ≤ 1074, else none
unfoldable pub masks : List Step
unfolding fold_down
masks = Shr 7 23 4 ∷ Not 7 7 ∷ Xor 7 7 3 ∷ Spread 7 7 ∷ Shr 7 7 1 ∷ Shl 6 8 0 ∷ fold_down 6

-- up to the last AND
unfoldable pub decoded_parts : List Step
unfolding exponent_parts literals riding bit_pairs pairs_of_pairs high_and_low by_tests
decoded_parts =
    exponent_parts ++ (literals ++ (bit_pairs ++ (riding 11 10 4 5 ++ (pairs_of_pairs ++ (riding 13 9 4 5 ++ (high_and_low ++ (riding 19 20 4 5 ++ by_tests)))))))

unfoldable pub decoder : List Step
unfolding decoded_parts one_place masks
decoder = decoded_parts ++ (And 13 13 5 ∷ (one_place ++ masks))

-- register 21: whether r = 0; register 14: whether c = 0, from whether bits 0 to 3 of c are all 0, which rides in register 19, and whether c = 16, in register 5
unfoldable pub zero_bits : List Step
zero_bits = Shr 21 13 63 ∷ Shl 3 19 53 ∷ Shr 3 3 63 ∷ Shr 14 5 63 ∷ Xor 14 14 3 ∷ []

-- the decoder with register 21: whether E = 0, which rides in the last AND
unfoldable pub decoder_with_zero : List Step
unfolding decoded_parts zero_bits ride one_place masks
decoder_with_zero = decoded_parts ++ (zero_bits ++ (ride 13 5 21 14 ++ (one_place ++ masks)))
