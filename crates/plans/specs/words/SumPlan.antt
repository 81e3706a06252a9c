-- The sum's plan: document 01, "Each built-in plan is a constant table of at most 2,048 words, .., with operands in registers 0 and 1 and the result in 2. Its words are the
-- team's choice". What is to be believed of it is only what is proved: it computes `sum`.
-- a is the operand with the larger exponent, x where the exponents are equal, and b the other; d = E_a - E_b. A significand m is 2^52 + F, for E = 0 too. The sticky bit st,
-- whether w = m_b · 2^9 loses a bit when it is shifted right by d mod 64, stays out of the addition until its last step. Where d ≥ 64 or b is a zero, b is left out, and st may
-- be either: A + 1 and A - 1 are rounded to A.
-- Registers: 0 x, 1 y, 2 the result, 3 x XOR y, 4 the difference d, 5 a mask, 6 and 7 the operands a and b, 8 a's significand A, 9 b's significand w, 10 and 11 carries and run of
-- the exponents' comparison, then 10 the bits w has lost, 14 tests and then st, 15 st where the signs differ, 16 the aligned operand B; then 9, 10 and 11 the exclusive-or H, the
-- carries G and the run N of A and B, and once more of NOT E_a and the count, 17 z = |A ± (B + st)|, 23 its sign, 18 its leading zeros as ones (th, a thermometer code), 19 their count less 1, 20 and 22 the folded th, 24 E_a, then whether E
-- ≤ 0, 25 tests that ride beside carries, 26 whether the sign is dropped; at the end 9 the packed result, 17 its run, 18 what decides on rounding, 21, which first is the number
-- 1, the first bit dropped. Where one AND does two things in different places of a word, the one is said to ride beside the other. 12 and 13 hold intermediate words, and so do others where they hold nothing of these.
use Rattle.std.specs.Prelude.{List, [], ◌∷◌, ◌++◌, map, ℕ, ◌-◌, ◌/◌, ◌^◌}
use Rattle.word.specs.declared.step.Step.{Step}
use Rattle.word.specs.declared.step.Step.TheVariants.{Const, Xor, And, Not, Shl, Shr, Spread}
use Rattle.word.specs.Encoding.{word_of}
use Rattle.plans.specs.words.Segments.{spread_bit, stage_right}
use Rattle.plans.specs.words.CarryRun.{paired_step}
use Rattle.plans.specs.words.RunOfOnes.{run_stage}

-- carries and run in the 16 top places, registers 10 and 11, over twice k places, with one AND; beside it, in the places 16 to 47, register 25 AND itself shifted right by 8 / k
unfoldable pub carry_with_lanes : ℕ → List Step
carry_with_lanes k =
    Not 12 11 ∷ Shr 12 12 48 ∷ Shl 5 12 48 ∷ Xor 12 12 5 ∷ Shl 13 10 k ∷ Shl 5 11 k ∷ Shr 5 5 48 ∷ Xor 13 13 5
    ∷ Shl 5 25 16 ∷ Xor 12 12 5 ∷ Shr 5 25 (8 / k) ∷ Shl 5 5 16 ∷ Xor 13 13 5 ∷ And 12 12 13
    ∷ Shr 13 12 48 ∷ Shl 13 13 48 ∷ Xor 10 10 13 ∷ Shl 13 12 48 ∷ Xor 11 11 13 ∷ Shl 25 12 16 ∷ Shr 25 25 32 ∷ []

-- E_y + NOT E_x in the 16 top places: register 4 their exclusive-or, 10 the carries, 11 the run; beside them two tests. Bits of register 25: 0 [E_x = 0], 16 [E_y = 0]
unfoldable pub compare_steps : List Step
unfolding carry_with_lanes
compare_steps =
    Shl 12 1 1 ∷ Shr 12 12 53 ∷ Shl 13 0 1 ∷ Shr 13 13 53 ∷ Shl 25 12 16 ∷ Xor 25 25 13 ∷ Not 25 25 ∷ Shl 25 25 32 ∷ Shr 25 25 32 ∷ Shl 12 12 48 ∷ Not 13 13 ∷ Shl 13 13 48
    ∷ Xor 4 12 13 ∷ And 10 12 13 ∷ Not 11 4 ∷ Shr 11 11 48 ∷ Shl 11 11 48 ∷ (carry_with_lanes 1 ++ (carry_with_lanes 2 ++ (carry_with_lanes 4 ++ carry_with_lanes 8)))

-- register 5: all ones where E_x ≥ E_y; register 4: |E_x - E_y|, or one less where y's is the larger; a and b
unfoldable pub order_steps : List Step
order_steps =
    Shr 5 10 63 ∷ Not 5 5 ∷ Spread 5 5 ∷ Shl 12 10 1 ∷ Xor 4 4 12 ∷ Shr 4 4 48 ∷ Xor 4 4 5 ∷ Shl 4 4 53 ∷ Shr 4 4 53
    ∷ Xor 3 0 1 ∷ And 12 3 5 ∷ Xor 6 1 12 ∷ Xor 7 0 12 ∷ []

-- A = m_a · 2^10, w = m_b · 2^9
unfoldable pub significand_steps : List Step
significand_steps =
    Const 21 1 ∷ Shl 8 6 12 ∷ Shr 8 8 2 ∷ Shl 12 21 62 ∷ Xor 8 8 12 ∷ Shl 9 7 12 ∷ Shr 9 9 3 ∷ Shl 12 21 61 ∷ Xor 9 9 12 ∷ []

-- w is shifted right by d mod 2, which is bit 52 of x XOR y; beside it, in the places 0 to 7, 62 and 63 that w leaves free, one is added to register 4 where y's exponent is the larger, by the run
unfoldable pub exact_steps : List Step
exact_steps =
    Not 5 5 ∷ Shr 13 11 48 ∷ Not 13 13 ∷ Shl 12 13 56 ∷ Shr 12 12 56 ∷ Shr 13 13 8 ∷ Shl 13 13 62 ∷ Xor 12 12 13 ∷ Shr 13 9 1 ∷ Xor 13 13 9 ∷ Xor 12 12 13
    ∷ Shr 13 3 52 ∷ Spread 13 13 ∷ Shr 13 13 10 ∷ Shl 13 13 8 ∷ Shr 14 5 56 ∷ Xor 13 13 14 ∷ Shr 14 5 62 ∷ Shl 14 14 62 ∷ Xor 13 13 14 ∷ And 12 12 13
    ∷ Shl 13 12 56 ∷ Shr 13 13 56 ∷ Shr 14 12 62 ∷ Shl 14 14 8 ∷ Xor 13 13 14 ∷ Shl 13 13 1 ∷ Xor 4 4 13 ∷ Shr 13 5 63 ∷ Xor 4 4 13
    ∷ Shl 12 12 2 ∷ Shr 12 12 10 ∷ Shl 12 12 8 ∷ Xor 9 9 12 ∷ []

-- w is shifted right by 2^j places where bit j of d is set; register 12: w ^ (w >> 2^j) there, else 0
unfoldable pub shift_right : ℕ → List Step
unfolding spread_bit stage_right
shift_right j = spread_bit 5 4 j ++ stage_right 9 12 5 (2 ^ j)

-- register 12 ^ (register 12 >> s)
unfoldable pub refold : ℕ → List Step
refold s = Shr 13 12 s ∷ Xor 12 12 13 ∷ []

-- register 14, eight bits, all ones where d < 64 and no exponent is 0
unfoldable pub used_steps : List Step
used_steps =
    Shr 14 4 6 ∷ Shl 13 25 63 ∷ Shr 13 13 58 ∷ Xor 14 14 13 ∷ Shr 13 25 16 ∷ Shl 13 13 63 ∷ Shr 13 13 57 ∷ Xor 14 14 13 ∷ Not 14 14 ∷ Shl 14 14 56 ∷ Shr 14 14 56 ∷ []

-- by bit 1 of d; beside it, in the places 0 to 5 that w leaves free, register 14's low four bits AND its high four. Then by bit 2: nothing is lost
unfoldable pub small_shifts : List Step
unfolding shift_right
small_shifts =
    Shr 5 4 1 ∷ Spread 5 5 ∷ Shr 5 5 6 ∷ Shl 5 5 6 ∷ Shr 12 9 2 ∷ Xor 12 12 9 ∷ Shr 13 14 4 ∷ Xor 5 5 13 ∷ Shl 13 14 60 ∷ Shr 13 13 60 ∷ Xor 12 12 13 ∷ And 12 12 5
    ∷ Shl 14 12 58 ∷ Shr 14 14 58 ∷ Xor 12 12 14 ∷ Xor 9 9 12 ∷ shift_right 2

-- by bits 3, 4 and 5: the s bits that a shift by s loses go to the places from s on of register 10
unfoldable pub large_shifts : List Step
unfolding shift_right refold
large_shifts =
    shift_right 3 ++ (refold 8 ++ (refold 16 ++ (refold 32 ++ (Shl 12 12 56 ∷ Shr 10 12 48 ∷ (shift_right 4 ++ (refold 16 ++ (refold 32
    ++ (Shl 12 12 48 ∷ Shr 12 12 32 ∷ Xor 10 10 12 ∷ (shift_right 5 ++ (refold 32 ++ (Shl 12 12 32 ∷ Xor 10 10 12 ∷ [])))))))))))

-- the bits lost, inverted, brought to 16 bits in register 10; beside it, from place 32 on, register 14 AND itself shifted right by 2, and then by 1
unfoldable pub lost_steps : List Step
lost_steps =
    Not 10 10 ∷ Shr 12 10 32 ∷ Shl 10 10 32 ∷ Shr 10 10 32 ∷ Shr 13 14 2 ∷ Shl 13 13 32 ∷ Xor 12 12 13 ∷ Shl 13 14 32 ∷ Xor 10 10 13 ∷ And 10 10 12 ∷ Shr 14 10 32 ∷ Shl 10 10 32 ∷ Shr 10 10 32
    ∷ Shr 12 10 16 ∷ Shr 13 14 1 ∷ Shl 13 13 32 ∷ Xor 12 12 13 ∷ Shl 13 14 32 ∷ Xor 10 10 13 ∷ And 10 10 12 ∷ []

-- B = 2 w, w as shifted, where d < 64 and no exponent is 0, else 0; register 14: the 16 bits, all ones where nothing was lost
unfoldable pub align_steps : List Step
align_steps = Shr 12 10 32 ∷ Spread 12 12 ∷ Shl 16 9 1 ∷ And 16 16 12 ∷ Shl 14 10 48 ∷ Shr 14 14 48 ∷ []

-- carries and run over twice k places; beside the carries' AND, in the places 0 to 9 that A leaves free, registers r and s, whose AND goes to o
unfoldable pub carry_with_bits : ℕ → ℕ → ℕ → ℕ → List Step
carry_with_bits k r s o =
    Not 4 11 ∷ Shl 12 10 k ∷ Shr 13 4 10 ∷ Shl 13 13 10 ∷ Xor 13 13 r ∷ Xor 12 12 s ∷ And 12 12 13 ∷ Shl o 12 54 ∷ Shr o o 54 ∷ Xor 12 12 o ∷ Xor 10 10 12
    ∷ Shl 17 11 k ∷ And 17 4 17 ∷ Xor 11 11 17 ∷ []

-- A + B, or A + NOT B where the signs differ: carries and run; beside them register 14: the sticky bit, 15: that where the signs differ
unfoldable pub add_steps : List Step
unfolding carry_with_bits paired_step
add_steps =
    Shr 15 3 63 ∷ Spread 13 15 ∷ Xor 16 16 13 ∷ Xor 9 8 16 ∷ And 10 8 16 ∷ Not 11 9
    ∷ Shr 5 14 8 ∷ Shl 14 14 56 ∷ Shr 14 14 56 ∷ (carry_with_bits 1 14 5 14 ++ (Shr 5 14 4 ∷ (carry_with_bits 2 14 5 14 ++ (Shr 5 14 2 ∷ (carry_with_bits 4 14 5 14 ++ (Shr 5 14 1 ∷ (carry_with_bits 8 14 5 14
    ++ (Const 5 1 ∷ Xor 14 14 5 ∷ (carry_with_bits 16 14 15 15 ++ paired_step 32 32 10 11 12 13 5)))))))))

-- z = A + B + st, or |A - B - st|, st the sticky bit: the carry out c of A + NOT B tells whether A > B, and is added by the run, unless st is set; where A ≤ B the sum is the complement of B - A.
-- Register 23: z's sign
unfoldable pub end_around : List Step
end_around =
    Shr 13 10 63 ∷ Xor 12 13 15 ∷ Spread 12 12 ∷ Shl 5 11 1 ∷ Not 5 5 ∷ And 5 5 12 ∷ Shl 12 10 1 ∷ Xor 17 9 12 ∷ Xor 17 17 5 ∷ Shr 12 3 63 ∷ Xor 12 12 13
    ∷ Shr 23 6 63 ∷ Xor 23 23 12 ∷ Spread 12 12 ∷ Xor 17 17 12 ∷ Xor 14 14 15 ∷ Xor 17 17 14 ∷ []

-- th = th OR (th >> s)
unfoldable pub smear_stage : ℕ → List Step
smear_stage s = Shr 12 18 s ∷ And 13 18 12 ∷ Xor 12 12 13 ∷ Xor 18 18 12 ∷ []

-- th: ones at z's leading zeros
unfoldable pub smear_steps : List Step
unfolding smear_stage
smear_steps =
    Shl 18 17 0
    ∷ (smear_stage 1 ++ (smear_stage 2 ++ (smear_stage 4 ++ (smear_stage 8 ++ (smear_stage 16 ++ (smear_stage 32 ++ (Not 18 18 ∷ [])))))))

-- bit k of the count of leading zeros is bit 0 of th folded over 2^k; z is shifted left by 2^k where it is set. Twice th, folded so, has the bits of the count less 1
unfoldable pub shift_left : ℕ → List Step
shift_left k =
    Shr 12 22 (2 ^ k) ∷ Xor 22 22 12 ∷ Spread 5 22 ∷ Shl 12 17 (2 ^ k) ∷ Xor 12 12 17 ∷ And 12 12 5 ∷ Xor 17 17 12
    ∷ Shr 12 20 (2 ^ k) ∷ Xor 20 20 12 ∷ Shl 12 20 63 ∷ Shr 12 12 (63 - k) ∷ Xor 19 19 12 ∷ []

-- z brought to its top bit; register 19: the count of leading zeros less 1, 2^16 - 1 for none, 2^11 more for z = 0
unfoldable pub normalise_steps : List Step
unfolding shift_left
normalise_steps =
    Shl 19 18 63 ∷ Shr 19 19 52 ∷ Not 12 18 ∷ Shr 12 12 63 ∷ Spread 12 12 ∷ Shr 12 12 48 ∷ Xor 19 19 12 ∷ Shl 22 18 0 ∷ Shl 20 18 1
    ∷ (shift_left 5 ++ (shift_left 4 ++ (shift_left 3 ++ (shift_left 2 ++ (shift_left 1 ++ shift_left 0)))))

-- NOT E_a and the count less 1 in the 16 top places: registers 9, 10 and 11; beside the AND, in place 0, whether z has one leading zero and E_a is odd; register 4: whether it has none, or that
unfoldable pub exponent_start : List Step
exponent_start =
    Shl 24 6 1 ∷ Shr 24 24 53 ∷ Not 12 24 ∷ Shl 12 12 48 ∷ Shl 13 19 48 ∷ Xor 9 12 13 ∷ Not 11 9 ∷ Shr 11 11 48 ∷ Shl 11 11 48
    ∷ Shl 5 18 1 ∷ Xor 5 5 18 ∷ Shr 5 5 63 ∷ Xor 12 12 5 ∷ Shl 5 24 63 ∷ Shr 5 5 63 ∷ Xor 13 13 5 ∷ And 10 12 13
    ∷ Shl 4 10 63 ∷ Shr 4 4 63 ∷ Shr 10 10 48 ∷ Shl 10 10 48 ∷ Not 12 18 ∷ Shr 12 12 63 ∷ Xor 4 4 12 ∷ []

-- register 25, two lanes of 16 bits, inverted: (E_a / 2) XOR 1023 with the opposite of register 4; E_a with whether the signs agree
unfoldable pub result_lanes : List Step
result_lanes =
    Shr 25 24 1 ∷ Const 12 1023 ∷ Xor 25 25 12 ∷ Const 12 1 ∷ Xor 12 12 4 ∷ Shl 12 12 10 ∷ Xor 25 25 12
    ∷ Not 12 3 ∷ Shr 12 12 63 ∷ Shl 12 12 11 ∷ Xor 12 12 24 ∷ Shl 12 12 16 ∷ Xor 25 25 12 ∷ Not 25 25 ∷ Shl 25 25 32 ∷ Shr 25 25 32 ∷ []

-- E = E_a + 1 - the count: register 9 it and the bits of z after the top bit, packed; bit 0 of register 24: whether E ≤ 0. Bits of register 25: 0 [E ≥ 2047], 16 [E_a = 0 and the signs differ]
unfoldable pub exponent_steps : List Step
unfolding exponent_start result_lanes carry_with_lanes
exponent_steps =
    exponent_start ++ (result_lanes ++ (carry_with_lanes 1 ++ (carry_with_lanes 2 ++ (carry_with_lanes 4 ++ (carry_with_lanes 8
    ++ (Shl 12 10 1 ∷ Xor 9 9 12 ∷ Shl 12 11 1 ∷ Xor 12 12 9 ∷ Shr 24 12 63 ∷ Not 9 9 ∷ Shr 9 9 48 ∷ Shl 9 9 52
    ∷ Shl 12 17 1 ∷ Shr 12 12 12 ∷ Xor 9 9 12 ∷ Shl 9 9 1 ∷ Shr 9 9 1 ∷ []))))))

-- one is added where the first bit dropped is set, and so is the last one kept or a later one: by the run of ones of register 9
unfoldable pub round_steps : List Step
unfolding run_stage
round_steps =
    Shr 21 17 10 ∷ Shl 12 17 54 ∷ Shr 12 12 54 ∷ Shr 13 17 11 ∷ Shl 13 13 63 ∷ Shr 13 13 53 ∷ Xor 12 12 13 ∷ Shr 26 25 16 ∷ Xor 26 26 18
    ∷ Not 3 21 ∷ Shl 3 3 63 ∷ Xor 18 12 3 ∷ Not 17 9
    ∷ (run_stage 32 ++ (run_stage 16 ++ (run_stage 8 ++ (run_stage 4 ++ (run_stage 2 ++ (run_stage 1
    ++ (Shl 3 17 1 ∷ Not 3 3 ∷ Not 18 18 ∷ Xor 18 18 21 ∷ Spread 4 18 ∷ And 3 3 4 ∷ Xor 9 9 3 ∷ [])))))))

-- nothing where E ≤ 0, E = 2047 and F = 0 where E ≥ 2047; beside it, in place 63, the sign, plus where z = 0 or both operands are zeros of unlike signs
unfoldable pub choose_steps : List Step
choose_steps =
    Shl 9 9 1 ∷ Shr 9 9 1 ∷ Shl 3 23 63 ∷ Xor 9 9 3 ∷ Xor 24 24 25 ∷ Not 24 24 ∷ Spread 24 24 ∷ Shr 24 24 1 ∷ Not 26 26 ∷ Shl 26 26 63 ∷ Xor 24 24 26
    ∷ And 2 9 24 ∷ Spread 25 25 ∷ Shr 25 25 53 ∷ Shl 25 25 52 ∷ Xor 2 2 25 ∷ []

-- the operands in order, and the smaller one aligned
unfoldable pub align_part : List Step
unfolding compare_steps order_steps significand_steps exact_steps used_steps small_shifts large_shifts lost_steps align_steps
align_part = compare_steps ++ (order_steps ++ (significand_steps ++ (exact_steps ++ (used_steps ++ (small_shifts ++ (large_shifts ++ (lost_steps ++ align_steps)))))))

-- the sum of the two, brought to its top bit
unfoldable pub normal_part : List Step
unfolding add_steps end_around smear_steps normalise_steps
normal_part = add_steps ++ (end_around ++ (smear_steps ++ normalise_steps))

-- the result
unfoldable pub result_part : List Step
unfolding exponent_steps round_steps choose_steps
result_part = exponent_steps ++ (round_steps ++ choose_steps)

-- all of them
unfoldable pub sum_steps : List Step
unfolding align_part normal_part result_part
sum_steps = align_part ++ (normal_part ++ result_part)

-- the plan's words
unfoldable pub sum_plan : List ℕ
unfolding sum_steps
sum_plan = map word_of sum_steps
