-- The worked examples, the turn-downs and the listing, equation by equation: one that is lost or changed fails here.
use Rattle.std.specs.Prelude.{Some, None}
use mathlib.Core.Path.{◌≡◌}
use mathlib.Core.Bool.{true, false}
use mathlib.Core.List.{List, [], ◌∷◌, ◌++◌, map}
use Prim.Native.Nat.{ℕ, ◌-◌, ◌^◌, ◌≤◌, ◌<◌}
use lib.ListN.{length, get_or, take, replicate}
use Rattle.word.specs.declared.step.Step.TheVariants.{Const, Xor, And, Not, Shl, Add, Rand}
use Rattle.word.specs.Encoding.{plan_step, program_step, word_of}
use Rattle.checks.specs.Answers.{done, refused, bad_at}
use Rattle.plain.specs.Machine.{run}
use Rattle.plain.specs.Call.{plain_answer, plain_cells}
use Rattle.plain.specs.Examples.{WordExamples}
use Rattle.masking.specs.Translation.{up_from, headed, translated}
use Rattle.masking.specs.Machine.{rands_of}
use Rattle.masking.specs.Runs.{State, standing, told, run_answer, step_answer}
use Rattle.masking.specs.Examples.{TranslationExamples}
use Rattle.translation.specs.Calls.{measure_answer}
use Rattle.add_head.specs.Conversion.{add_head_answer}
use Rattle.split_join.specs.SplitJoin.{xor_all}
use Rattle.fft_numbers.specs.Acts.{plain_shares, flipped, flipped_first}
use Rattle.fft_numbers.specs.Complex.{complex_re, complex_im}
use Rattle.fft_numbers.specs.Layer.{is_layer, pair_acts, place_of, pair_of}
use Rattle.fft_numbers.specs.Layout.{number_of, as_words}
use Rattle.fft_numbers.specs.Calls.{layer_answer, layer_words}
use Rattle.fft_numbers.specs.Examples.{ComplexExamples}
use Rattle.listing.specs.Sharelist.{listing}
use Rattle.listing.specs.Pieces.{pieces_from}
use Rattle.lubewon.specs.Claims.{Claims}
use Rattle.lubewon.specs.TurnDowns.{xor_word, TurnDowns}

module _ (h : WordExamples) where
  word_xor_word : plan_step 0x20080001 ≡ Some (Xor 2 0 1)
  word_xor_word = h.xor_word_is

  word_second_share : word_of (Xor 34 32 33) ≡ 0x20884021
  word_second_share = h.second_share

  word_kind_zero : plan_step 0x00080001 ≡ None
  word_kind_zero = h.kind_zero

  word_rand_word : program_step 0x90000000 ≡ Some (Rand 0)
  word_rand_word = h.rand_word

  word_rand_in_plan : plan_step 0x90000000 ≡ None
  word_rand_in_plan = h.rand_in_plan

  word_constant : plan_step 0x1003FFFF ≡ Some (Const 0 262143)
  word_constant = h.constant

  word_bit_27 : plan_step 0x28080001 ≡ None
  word_bit_27 = h.bit_27

  word_shift_64 : plan_step 0x50080040 ≡ None
  word_shift_64 = h.shift_64

  word_register_32 : plan_step 0x20800001 ≡ None
  word_register_32 = h.register_32

  word_wraps : get_or (run (0x80080001 ∷ []) ((2 ^ 64 - 1) ∷ (1 ∷ replicate 30 7))) 2 0 ≡ 0
  word_wraps = h.wraps

  word_bad_place : plain_answer (0x20080001 ∷ 0x90000000 ∷ 0 ∷ []) 32 ≡ bad_at 1
  word_bad_place = h.bad_place

  word_too_few : plain_cells (0x20080001 ∷ []) (replicate 31 5) ≡ replicate 31 5
  word_too_few = h.too_few

module _ (h : TranslationExamples) where
  translation_listed : headed 2 (0x20080001 ∷ []) ≡ 0xA0080000 ∷ 0x20080001 ∷ 0x20884021 ∷ []
  translation_listed = h.listed

  translation_empty : headed 8 [] ≡ 0xA0200000 ∷ []
  translation_empty = h.empty

  translation_share_0_apart : translated 2 (Const 3 700) ≡ Const 3 700 ∷ Const 35 0 ∷ []
  translation_share_0_apart = h.share_0_apart

  translation_inverted_once : translated 2 (Not 1 0) ≡ Not 1 0 ∷ Shl 33 32 0 ∷ []
  translation_inverted_once = h.inverted_once

  translation_and_alike : translated 2 (And 1 1 1)
      ≡ Shl 256 1 0 ∷ Shl 257 33 0
      ∷ Rand 272 ∷ Xor 256 256 272 ∷ Xor 257 257 272
      ∷ And 264 1 256 ∷ And 265 33 257
      ∷ Rand 272 ∷ Xor 264 264 272 ∷ And 273 1 257 ∷ Xor 272 272 273 ∷ And 273 33 256 ∷ Xor 272 272 273 ∷ Xor 265 265 272
      ∷ Shl 1 264 0 ∷ Shl 33 265 0
      ∷ Const 256 0 ∷ Const 257 0 ∷ Const 264 0 ∷ Const 265 0 ∷ Const 272 0 ∷ Const 273 0 ∷ []
  translation_and_alike = h.and_alike

  translation_add_words : length (translated 2 (Add 2 0 1)) ≡ 306
  translation_add_words = h.add_words

  translation_add_tape : rands_of (translated 2 (Add 2 0 1)) ≡ 24
  translation_add_tape = h.add_tape

module _ (h : ComplexExamples) where
  complex_real_1 : number_of 2 4 1 (up_from 0 8) ≡ 1 ∷ 5 ∷ []
  complex_real_1 = h.real_1

  complex_imaginary_1 : number_of 2 4 3 (up_from 0 8) ≡ 3 ∷ 7 ∷ []
  complex_imaginary_1 = h.imaginary_1

  complex_laid_back : as_words 2 4 (λ j. number_of 2 4 j (up_from 0 8)) ≡ up_from 0 8
  complex_laid_back = h.laid_back

  complex_places : map (place_of 2) (up_from 0 4) ≡ 0 ∷ 1 ∷ 4 ∷ 5 ∷ []
  complex_places = h.places

  complex_second_block : pair_of 8 2 (10 ∷ 11 ∷ 12 ∷ 13 ∷ []) 2 ≡ pair_acts 8 2 11 13 4
  complex_second_block = h.second_block

  complex_least : is_layer 2 1 ≡ true
  complex_least = h.least

  complex_most_near : is_layer 1024 1 ≡ true
  complex_most_near = h.most_near

  complex_most_far : is_layer 1024 512 ≡ true
  complex_most_far = h.most_far

  complex_three_numbers : is_layer 3 1 ≡ false
  complex_three_numbers = h.three_numbers

  complex_three_apart : is_layer 8 3 ≡ false
  complex_three_apart = h.three_apart

  complex_none_apart : is_layer 8 0 ≡ false
  complex_none_apart = h.none_apart

  complex_no_number : is_layer 0 0 ≡ false
  complex_no_number = h.no_number

  complex_one_number : is_layer 1 0 ≡ false
  complex_one_number = h.one_number

  complex_one_at_one : is_layer 1 1 ≡ false
  complex_one_at_one = h.one_at_one

  complex_too_many : is_layer 2048 1 ≡ false
  complex_too_many = h.too_many

  complex_all_apart : is_layer 8 8 ≡ false
  complex_all_apart = h.all_apart

  complex_re_is : complex_re 0x3FF0000000000000 0x4000000000000000 0x4008000000000000 0x4010000000000000 ≡ 0xC014000000000000
  complex_re_is = h.re

  complex_im_is : complex_im 0x3FF0000000000000 0x4000000000000000 0x4008000000000000 0x4010000000000000 ≡ 0x4024000000000000
  complex_im_is = h.im

  complex_one_pair : layer_words 2 1 (0x3FF0000000000000 ∷ 0x4008000000000000 ∷ 0 ∷ 0x4010000000000000 ∷ []) (0x3FF0000000000000 ∷ 0x4000000000000000 ∷ [])
      ≡ 0xC010000000000000 ∷ 0x4018000000000000 ∷ 0x4024000000000000 ∷ 0xC024000000000000 ∷ []
  complex_one_pair = h.one_pair

  complex_flipped_first : flipped_first (1 ∷ 2 ∷ []) ≡ 0x8000000000000001 ∷ 2 ∷ []
  complex_flipped_first = h.flipped_first_is

  complex_flipped_in_both : xor_all (flipped 1 ∷ flipped 2 ∷ []) ≡ xor_all (1 ∷ 2 ∷ [])
  complex_flipped_in_both = h.flipped_in_both

  complex_plain_factor : plain_shares 3 7 ≡ 7 ∷ 0 ∷ 0 ∷ []
  complex_plain_factor = h.plain_factor

module _ (h : TurnDowns) where
  turn_down_nine_shares : measure_answer 9 (xor_word ∷ []) ≡ refused 1
  turn_down_nine_shares = h.nine_shares

  turn_down_long_plan : measure_answer 2 (replicate 2049 xor_word) ≡ refused 2
  turn_down_long_plan = h.long_plan

  turn_down_kind_0 : measure_answer 2 (xor_word ∷ 0x00080001 ∷ []) ≡ bad_at 1
  turn_down_kind_0 = h.kind_0

  turn_down_cells_511 : run_answer (0xA0080000 ∷ xor_word ∷ []) [] (standing (replicate 511 0) 0 0) (told 2 1) ≡ refused 4
  turn_down_cells_511 = h.cells_511

  turn_down_place_3 : run_answer (0xA0080000 ∷ xor_word ∷ []) [] (standing (replicate 512 0) 3 0) (told 2 1) ≡ refused 5
  turn_down_place_3 = h.place_3

  turn_down_told_nine : run_answer [] [] (standing (replicate 511 0) 0 0) (told 9 1) ≡ refused 1
  turn_down_told_nine = h.told_nine

  turn_down_no_program : run_answer [] [] (standing (replicate 511 0) 0 0) (told 2 1) ≡ refused 8
  turn_down_no_program = h.no_program

  turn_down_no_head : run_answer (xor_word ∷ 0xA0080000 ∷ []) [] (standing (replicate 511 0) 1 0) (told 2 1) ≡ refused 8
  turn_down_no_head = h.no_head

  turn_down_other_count : run_answer (0xA00C0000 ∷ 0 ∷ []) [] (standing (replicate 511 0) 0 0) (told 2 1) ≡ refused 8
  turn_down_other_count = h.other_count

  turn_down_count_of_nine : run_answer (0xA0240000 ∷ []) [] (standing (replicate 511 0) 0 0) (told 2 1) ≡ refused 8
  turn_down_count_of_nine = h.count_of_nine

  turn_down_second_head : run_answer (0xA0080000 ∷ 0xA0080000 ∷ []) [] (standing (replicate 511 0) 0 0) (told 2 1) ≡ bad_at 1
  turn_down_second_head = h.second_head

  turn_down_too_long : (program tape : List ℕ) (st : State) (budget : ℕ) → 8257537 < length program → run_answer program tape st (told 2 budget) ≡ refused 2
  turn_down_too_long = h.too_long

  turn_down_just_head : run_answer (0xA0080000 ∷ xor_word ∷ []) [] (standing (replicate 512 0) 0 0) (told 2 1) ≡ done 1 0
  turn_down_just_head = h.just_head

  turn_down_step_of_head : step_answer 0xA0080000 [] (replicate 512 0) 0 ≡ done 1 0
  turn_down_step_of_head = h.step_of_head

  turn_down_step_of_nine : step_answer 0xA0240000 [] (replicate 512 0) 0 ≡ bad_at 0
  turn_down_step_of_nine = h.step_of_nine

  turn_down_step_on_511 : step_answer 0xA0080000 [] (replicate 511 0) 0 ≡ refused 4
  turn_down_step_on_511 = h.step_on_511

  turn_down_step_past_tape : step_answer 0xA0080000 [] (replicate 512 0) 1 ≡ refused 5
  turn_down_step_past_tape = h.step_past_tape

  turn_down_nothing_stored : add_head_answer 2 [] 1 ≡ done 1 0
  turn_down_nothing_stored = h.nothing_stored

  turn_down_head_stored : add_head_answer 2 (0xA0080000 ∷ xor_word ∷ []) 3 ≡ bad_at 0
  turn_down_head_stored = h.head_stored

  turn_down_stored_for_nine : add_head_answer 9 (0xA0080000 ∷ []) 0 ≡ refused 1
  turn_down_stored_for_nine = h.stored_for_nine

  turn_down_no_room : add_head_answer 2 (xor_word ∷ []) 1 ≡ refused 4
  turn_down_no_room = h.no_room

  turn_down_stored_too_long : (stored : List ℕ) (room : ℕ) → 8257536 < length stored → add_head_answer 2 stored room ≡ refused 2
  turn_down_stored_too_long = h.stored_too_long

  turn_down_empty_tape : step_answer 0x90000000 [] (replicate 512 0) 0 ≡ refused 6
  turn_down_empty_tape = h.empty_tape

  turn_down_layer_nine_shares : layer_answer 9 3 1 0 0 0 0 ≡ refused 1
  turn_down_layer_nine_shares = h.layer_nine_shares

  turn_down_layer_of_three : layer_answer 2 3 1 0 0 0 0 ≡ refused 7
  turn_down_layer_of_three = h.layer_of_three

  turn_down_layer_no_words : layer_answer 2 2 1 0 0 0 0 ≡ refused 4
  turn_down_layer_no_words = h.layer_no_words

module _ (C : Claims) where
  word_examples : WordExamples
  word_examples = C.word_examples

  translation_examples : TranslationExamples
  translation_examples = C.translation_examples

  complex_examples : ComplexExamples
  complex_examples = C.complex_examples

  turn_downs : TurnDowns
  turn_downs = C.turn_downs

  -- 36,288 bytes are nine for each of the 4,032 share words that a plan word gives at most, 2,049 pieces one for the first line and one for each plan word
  pieces_are_listing : (room : ℕ) → 36288 ≤ room → (input : List ℕ) → pieces_from 2049 room input 0 ≡ listing input
  pieces_are_listing = C.pieces_are_listing

  long_inputs : (input : List ℕ) → 8193 < length input → listing (take 8194 input) ≡ listing input
  long_inputs = C.long_inputs

  -- "shares 2 words 3 tape 0", "A0080000", "20080001", "20884021"
  example : listing (0x02 ∷ 0x01 ∷ 0x00 ∷ 0x08 ∷ 0x20 ∷ [])
      ≡ (115 ∷ 104 ∷ 97 ∷ 114 ∷ 101 ∷ 115 ∷ 32 ∷ 50 ∷ 32 ∷ 119 ∷ 111 ∷ 114 ∷ 100 ∷ 115 ∷ 32 ∷ 51 ∷ 32 ∷ 116 ∷ 97 ∷ 112 ∷ 101 ∷ 32 ∷ 48 ∷ 10 ∷ [])
      ++ ((65 ∷ 48 ∷ 48 ∷ 56 ∷ 48 ∷ 48 ∷ 48 ∷ 48 ∷ 10 ∷ [])
      ++ ((50 ∷ 48 ∷ 48 ∷ 56 ∷ 48 ∷ 48 ∷ 48 ∷ 49 ∷ 10 ∷ [])
      ++ (50 ∷ 48 ∷ 56 ∷ 56 ∷ 52 ∷ 48 ∷ 50 ∷ 49 ∷ 10 ∷ [])))
  example = C.example
