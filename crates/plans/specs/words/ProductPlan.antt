-- The product's plan: document 01, "Each built-in plan is .. at most 2,048 words, .., with operands in registers 0 and 1 and the result in 2. Its words are the
-- team's choice". What is to be believed of it is only what is proved: it computes `product`. It is no constant table, by document 02, No. 3: a head, a row for each bit of F_y, made from the
-- number of that bit (ProductRows has the words so), and a tail.
-- p = m_x · m_y, q = p - 1. At place i row i adds n_x = 2^53 - 1 - m_x, or 2^53 + m_x, which is 2 m_x + 1 more, where bit i of y is set. With n_x and n_y in
-- the head, and m_x at place 52 and m_x + 2^52 at place 53 in the tail, all sum up to 2p - 1 + 2^106 = 2q + 1 + 2^106, so that none has to add a 1 alone; the
-- 2^106 is the 1 in U. b is 1 where p has its top bit at 105, else 0; l1 and l0 are bits 52 and 51 of q, h is bit 53;
-- A is 1 where the bits below l0 are all ones, so that p has zeros there. U is E_x + E_y + 1 + b, where U - 1024 is the exponent before rounding.
-- Where one AND does two things in different places of a word, the one is said to ride beside the other.
-- Registers: 0 x, 1 y, 2 the result, 3 m_x, 4 its complement n_x, 5 and 6 a sum S + C in carry-save form, 7 the low bits `low`, 10 an addend,
-- 11 the number 1; then 12 the high half R with the exponents, 13 its carries G, 14 its run N, 8 the tests Z; 16 and 18 hold bits, 8, 9, 15 and 17 intermediate
-- words, and so do 3 to 6 and 10 once S + C is summed. A significand m is 2^52 + F, for E = 0 too.
use Rattle.std.specs.Prelude.{List, [], ◌∷◌, ◌++◌, map, ℕ, zero, suc}
use Rattle.word.specs.declared.step.Step.{Step}
use Rattle.word.specs.declared.step.Step.TheVariants.{Const, Xor, And, Not, Shl, Shr, Spread}
use Rattle.word.specs.Encoding.{word_of}
use Rattle.plans.specs.words.Segments.{zero_tests}
use Rattle.plans.specs.words.CarryRun.{add_with_run}

-- m_x = 2^52 + F_x; n_x = 2^52 - 1 - F_x; S = n_x, C = n_y; low = 0
unfoldable pub product_head : List Step
product_head =
    Const 11 1 ∷ Shl 17 11 52 ∷ Shl 3 0 12 ∷ Shr 3 3 12 ∷ Xor 3 3 17 ∷ Not 4 0 ∷ Shl 4 4 12 ∷ Shr 4 4 12 ∷ Not 6 1 ∷ Shl 6 6 12 ∷ Shr 6 6 12
    ∷ Shl 5 4 0 ∷ Const 7 0 ∷ []

-- register a is added to S + C, the sum's lowest bit goes to the top of low, and S + C is the rest, halved
unfoldable pub carry_row : ℕ → List Step
carry_row a = Xor 8 5 6 ∷ Xor 9 5 a ∷ And 9 8 9 ∷ Xor 6 5 9 ∷ Xor 5 8 a ∷ Shr 7 7 1 ∷ Shl 9 5 63 ∷ Xor 7 7 9 ∷ Shr 5 5 1 ∷ []

-- row i adds n_x, or its 54-bit complement where bit i of y is set
unfoldable pub product_row : ℕ → List Step
product_row i = Shr 10 1 i ∷ Spread 10 10 ∷ Shr 10 10 10 ∷ Xor 10 10 4 ∷ carry_row 10

-- a row for each bit of F_y
abbrev pub row_count : ℕ
row_count = 52

-- rows 0 to n - 1
unfoldable pub product_rows : ℕ → List Step
product_rows zero = []
product_rows (suc n) = product_rows n ++ product_row n

-- the last two additions are of other words, so that they stand in the tail. The second adds F_x and 2^53; the exponents ride along from bit 53 of S and C on
unfoldable pub with_exponents : List Step
with_exponents =
    Shl 17 0 1 ∷ Shr 17 17 53 ∷ Shl 17 17 53 ∷ Xor 5 5 17 ∷ Shl 17 1 1 ∷ Shr 17 17 53 ∷ Shl 17 17 53 ∷ Xor 6 6 17 ∷ Shl 10 0 12 ∷ Shr 10 10 12
    ∷ Shl 17 11 53 ∷ Xor 10 10 17 ∷ []

-- the first of the two adds m_x, then the second; S + C = (E_x + E_y + 1) · 2^52 + (q >> 53) and low = (q mod 2^53) · 2^11 + 2^10
unfoldable pub last_rows : List Step
unfolding carry_row with_exponents
last_rows = carry_row 3 ++ (with_exponents ++ carry_row 10)

-- R = S + C modulo 2^64 = U · 2^52 + .., with its carries and its run
unfoldable pub high_half : List Step
unfolding add_with_run
high_half = add_with_run 5 6 12 13 14 15 17 8 9 ++ (Shl 17 13 1 ∷ Xor 12 12 17 ∷ [])

-- register 16: l1, h and bit 11 of U; 18: l0, b and bit 10 of U; bit 0 of register 10: 1 - b
unfoldable pub bit_factors : List Step
bit_factors =
    Shr 16 7 63 ∷ Shl 17 12 63 ∷ Shr 17 17 62 ∷ Xor 16 16 17 ∷ Shr 17 12 63 ∷ Shl 17 17 2 ∷ Xor 16 16 17
    ∷ Shl 18 7 1 ∷ Shr 18 18 63 ∷ Xor 10 0 1 ∷ Xor 10 10 12 ∷ Shr 10 10 52 ∷ Not 17 10 ∷ Shl 17 17 63 ∷ Shr 17 17 62 ∷ Xor 18 18 17
    ∷ Shl 17 12 1 ∷ Shr 17 17 63 ∷ Shl 17 17 2 ∷ Xor 18 18 17 ∷ []

-- the bits of q below l0, with ones below them, brought from 64 places to 32 by AND; beside it, from place 32 on, registers 16 AND 18, which go to register 3: l1 l0, h b and bits 10 and 11 of U
unfoldable pub fold32 : List Step
fold32 =
    Shr 8 7 11 ∷ Not 8 8 ∷ Shl 8 8 13 ∷ Not 8 8 ∷ Shr 9 8 32 ∷ Shl 8 8 32 ∷ Shr 8 8 32 ∷ Shl 17 16 32 ∷ Xor 8 8 17 ∷ Shl 17 18 32 ∷ Xor 9 9 17
    ∷ And 8 8 9 ∷ Shr 3 8 32 ∷ []

-- registers 5: l0 (1 - l1) and l1 (1 - l0), 15: h b and b; register 4: l1 l0; register 6: l1 (1 - l0)
unfoldable pub bit_factors_again : List Step
bit_factors_again =
    Shl 4 3 63 ∷ Shr 4 4 63 ∷ Shl 5 18 63 ∷ Shr 5 5 63 ∷ Xor 5 5 4 ∷ Shl 6 16 63 ∷ Shr 6 6 63 ∷ Xor 6 6 4 ∷ Shl 15 6 1 ∷ Xor 5 5 15
    ∷ Shl 15 3 62 ∷ Shr 15 15 63 ∷ Shl 9 18 62 ∷ Shr 9 9 63 ∷ Shl 9 9 1 ∷ Xor 15 15 9 ∷ []

-- from 32 places to 16, and inverted, so that 0 means all ones; beside it registers 5 AND 15, which go to register 5: l0 (1 - l1) h b and l1 (1 - l0) b
unfoldable pub fold16 : List Step
fold16 =
    Shl 8 8 32 ∷ Shr 8 8 32 ∷ Shr 9 8 16 ∷ Shl 17 5 32 ∷ Xor 8 8 17 ∷ Shl 17 15 32 ∷ Xor 9 9 17 ∷ And 8 8 9 ∷ Shr 5 8 32 ∷ Not 8 8 ∷ Shl 8 8 48 ∷ Shr 8 8 48 ∷ []

-- four tests in lanes of 16 bits: bit 0 of Z is A, 16 [E_x = 0], 32 [E_y = 0], 48 [U is 1024 or 3071], where the bits of U ^ 1024 are all the same
unfoldable pub tests : List Step
unfolding zero_tests
tests =
    Shl 17 0 1 ∷ Shr 17 17 53 ∷ Shl 17 17 16 ∷ Xor 8 8 17 ∷ Shl 17 1 1 ∷ Shr 17 17 53 ∷ Shl 17 17 32 ∷ Xor 8 8 17
    ∷ Shr 17 12 52 ∷ Const 9 1024 ∷ Xor 17 17 9 ∷ Shr 9 17 1 ∷ Xor 17 17 9 ∷ Shl 17 17 53 ∷ Xor 8 8 17 ∷ zero_tests 8 17

-- register 9: A W, A l1 (1 - l0), [E_x ≠ 0 and E_y ≠ 0], [U = 3071], where W = b l0 (1 - l1) h + (1 - b) l1 (1 - l0); register 4: V = l1 l0 + b l1 (1 - l0)
unfoldable pub bit_products : List Step
bit_products =
    Shl 9 8 63 ∷ Shr 9 9 63 ∷ Shl 17 9 1 ∷ Xor 9 9 17 ∷ Not 15 8 ∷ Shl 17 15 47 ∷ Shr 17 17 63 ∷ Shl 17 17 2 ∷ Xor 9 9 17
    ∷ Shl 17 8 15 ∷ Shr 17 17 63 ∷ Shl 17 17 3 ∷ Xor 9 9 17 ∷ Shl 18 15 31 ∷ Shr 18 18 63 ∷ Shl 18 18 2 ∷ Shr 15 5 1 ∷ Xor 4 4 15
    ∷ Xor 15 15 6 ∷ Shl 17 5 63 ∷ Shr 17 17 63 ∷ Xor 15 15 17 ∷ Shl 17 6 1 ∷ Xor 15 15 17 ∷ Xor 15 15 18 ∷ Shr 17 12 63 ∷ Shl 17 17 3 ∷ Xor 15 15 17
    ∷ And 9 9 15 ∷ []

-- register 15: R + c, c = V + A W the carry of rounding; register 5: the last bit kept where b = 0
unfoldable pub round_steps : List Step
round_steps =
    Xor 4 4 9 ∷ Shr 5 9 1 ∷ Shr 17 7 63 ∷ Xor 5 5 17 ∷ Shr 17 7 62 ∷ Xor 5 5 17 ∷ Shl 5 5 63 ∷ Shr 5 5 63
    ∷ Spread 4 4 ∷ Shl 6 14 1 ∷ Not 6 6 ∷ And 6 6 4 ∷ Xor 15 12 6 ∷ []

-- register 16: [1025 ≤ U ≤ 3070] and [3071 ≤ U]; register 18: [E_x ≠ 0 and E_y ≠ 0] twice
unfoldable pub ranges : List Step
ranges =
    Shr 16 12 63 ∷ Shr 17 12 62 ∷ Xor 16 16 17 ∷ Shr 17 8 48 ∷ Xor 16 16 17 ∷ Shl 16 16 63 ∷ Shr 16 16 63
    ∷ Shr 18 3 2 ∷ Shr 17 9 3 ∷ Xor 18 18 17 ∷ Shr 17 13 63 ∷ Xor 18 18 17 ∷ Shl 18 18 1 ∷ Xor 16 16 18
    ∷ Shl 18 9 61 ∷ Shr 18 18 63 ∷ Shl 17 18 1 ∷ Xor 18 18 17 ∷ []

-- the fraction moves up one place where b = 0; beside it, from place 52 on, registers 16 AND 18, which go to register 6
unfoldable pub normalise : List Step
normalise =
    Shl 6 15 1 ∷ Xor 6 6 5 ∷ Xor 6 6 15 ∷ Shl 6 6 12 ∷ Shr 6 6 12 ∷ Spread 10 10 ∷ Shr 10 10 12 ∷ Shl 16 16 52 ∷ Xor 6 6 16 ∷ Shl 18 18 52 ∷ Xor 10 10 18
    ∷ And 6 6 10 ∷ Shl 17 6 12 ∷ Shr 17 17 12 ∷ Xor 15 15 17 ∷ Shr 6 6 52 ∷ []

-- 1024 off the exponent; E = 2047 and F = 0, or zero, by register 6; the sign
unfoldable pub choose : List Step
choose =
    Shl 17 11 62 ∷ Xor 15 15 17 ∷ Spread 17 6 ∷ Shr 17 17 1 ∷ And 2 15 17 ∷ Shr 6 6 1 ∷ Spread 6 6 ∷ Shr 6 6 53 ∷ Shl 6 6 52 ∷ Xor 2 2 6
    ∷ Xor 17 0 1 ∷ Shr 17 17 63 ∷ Shl 17 17 63 ∷ Xor 2 2 17 ∷ []

-- from the high half to the result
unfoldable pub product_end : List Step
unfolding high_half bit_factors fold32 bit_factors_again fold16 tests bit_products round_steps ranges normalise choose
product_end = high_half ++ (bit_factors ++ (fold32 ++ (bit_factors_again ++ (fold16 ++ (tests ++ (bit_products ++ (round_steps ++ (ranges ++ (normalise ++ choose)))))))))

unfoldable pub product_tail : List Step
product_tail = last_rows ++ product_end

unfoldable pub product_steps : List Step
product_steps = product_head ++ (product_rows row_count ++ product_tail)

-- the words
unfoldable pub product_plan : List ℕ
product_plan = map word_of product_steps
