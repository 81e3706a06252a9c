-- Worked examples: document 01's own words taken apart, and plans run or turned down.
use Rattle.std.specs.Prelude.{◌≡◌, [], ◌∷◌, ◌-◌, ◌^◌, replicate, get_or, Some, None}
use Rattle.word.specs.declared.step.Step.TheVariants.{Const, Xor, Rand}
use Rattle.word.specs.Encoding.{plan_step, program_step, word_of}
use Rattle.checks.specs.Answers.{bad_at}
use Rattle.plain.specs.Machine.{run}
use Rattle.plain.specs.Call.{plain_answer, plain_cells}

pub record WordExamples : Type 0 where
  -- `sharelist`'s example: XOR 2 0 1, and its second share's word
  pub xor_word_is : plan_step 0x20080001 ≡ Some (Xor 2 0 1)
  pub second_share : word_of (Xor 34 32 33) ≡ 0x20884021
  -- the table of turn-downs: "00080001, kind 0"; "90000000" is a RAND, bad in a plan
  pub kind_zero : plan_step 0x00080001 ≡ None
  pub rand_word : program_step 0x90000000 ≡ Some (Rand 0)
  pub rand_in_plan : plan_step 0x90000000 ≡ None
  -- a constant has all 18 bits; bit 27 must be zero; a shift is below 64; register 32 is none
  pub constant : plan_step 0x1003FFFF ≡ Some (Const 0 262143)
  pub bit_27 : plan_step 0x28080001 ≡ None
  pub shift_64 : plan_step 0x50080040 ≡ None
  pub register_32 : plan_step 0x20800001 ≡ None
  -- ADD 2 0 1 wraps: 2^64 - 1 and 1 give 0
  pub wraps : get_or (run (0x80080001 ∷ []) ((2 ^ 64 - 1) ∷ (1 ∷ replicate 30 7))) 2 0 ≡ 0
  -- the first bad word's place; 31 cells are turned down, unchanged
  pub bad_place : plain_answer (0x20080001 ∷ 0x90000000 ∷ 0 ∷ []) 32 ≡ bad_at 1
  pub too_few : plain_cells (0x20080001 ∷ []) (replicate 31 5) ≡ replicate 31 5
