-- Document 01's table of turn-downs: its six examples, each at a call that takes the number; document 02's 7, of which it says "it comes right
-- after 1"; and its 8, which "comes after 2 and before 3".
use Rattle.std.specs.Prelude.{◌≡◌, List, [], ◌∷◌, ℕ, ◌<◌, length, replicate}
use Rattle.word.specs.Layout.{program_max, headed_max}
use Rattle.checks.specs.Answers.{done, refused, bad_at}
use Rattle.masking.specs.Runs.{State, standing, told, run_answer, step_answer}
use Rattle.translation.specs.Calls.{measure_answer}
use Rattle.add_head.specs.Conversion.{add_head_answer}
use Rattle.fft_numbers.specs.Calls.{layer_answer}

-- XOR 2 0 1
abbrev pub xor_word : ℕ
xor_word = 0x20080001

-- the head for two shares, and a head with a count of nine
abbrev pub head_of_two : ℕ
head_of_two = 0xA0080000

abbrev pub head_of_nine : ℕ
head_of_nine = 0xA0240000

pub record TurnDowns : Type 0 where
  -- "n = 9"
  pub nine_shares : measure_answer 9 (xor_word ∷ []) ≡ refused 1
  -- "plan of 2,049 words"
  pub long_plan : measure_answer 2 (replicate 2049 xor_word) ≡ refused 2
  -- "00080001, kind 0"
  pub kind_0 : measure_answer 2 (xor_word ∷ 0x00080001 ∷ []) ≡ bad_at 1
  -- "511 cells"
  pub cells_511 : run_answer (head_of_two ∷ xor_word ∷ []) [] (standing (replicate 511 0) 0 0) (told 2 1) ≡ refused 4
  -- "place 3 of 2 words"
  pub place_3 : run_answer (head_of_two ∷ xor_word ∷ []) [] (standing (replicate 512 0) 3 0) (told 2 1) ≡ refused 5
  -- "90000000, empty tape"
  pub empty_tape : step_answer 0x90000000 [] (replicate 512 0) 0 ≡ refused 6
  -- document 02, No. 7, on 511 cells, which is 4. A run told nine, of no program; a run told two of no program, of one whose head stands at place 1, from
  -- there, of one for three shares with a bad word, and of one whose head has a count of nine; one with a second head; and one above the limit, which is 2
  -- whatever its first word
  pub told_nine : run_answer [] [] (standing (replicate 511 0) 0 0) (told 9 1) ≡ refused 1
  pub no_program : run_answer [] [] (standing (replicate 511 0) 0 0) (told 2 1) ≡ refused 8
  pub no_head : run_answer (xor_word ∷ head_of_two ∷ []) [] (standing (replicate 511 0) 1 0) (told 2 1) ≡ refused 8
  pub other_count : run_answer (0xA00C0000 ∷ 0 ∷ []) [] (standing (replicate 511 0) 0 0) (told 2 1) ≡ refused 8
  pub count_of_nine : run_answer (head_of_nine ∷ []) [] (standing (replicate 511 0) 0 0) (told 2 1) ≡ refused 8
  pub second_head : run_answer (head_of_two ∷ head_of_two ∷ []) [] (standing (replicate 511 0) 0 0) (told 2 1) ≡ bad_at 1
  pub too_long : (program tape : List ℕ) (st : State) (budget : ℕ) → headed_max < length program → run_answer program tape st (told 2 budget) ≡ refused 2
  -- a budget of 1 at place 0 does just the head; so does one share step, which takes no head with a count of nine, and for which 4 and 5 hold
  pub just_head : run_answer (head_of_two ∷ xor_word ∷ []) [] (standing (replicate 512 0) 0 0) (told 2 1) ≡ done 1 0
  pub step_of_head : step_answer head_of_two [] (replicate 512 0) 0 ≡ done 1 0
  pub step_of_nine : step_answer head_of_nine [] (replicate 512 0) 0 ≡ bad_at 0
  pub step_on_511 : step_answer head_of_two [] (replicate 511 0) 0 ≡ refused 4
  pub step_past_tape : step_answer head_of_two [] (replicate 512 0) 1 ≡ refused 5
  -- the conversion takes the empty program, and none with a head; its 1 and 4, and 2 above the limit
  pub nothing_stored : add_head_answer 2 [] 1 ≡ done 1 0
  pub head_stored : add_head_answer 2 (head_of_two ∷ xor_word ∷ []) 3 ≡ bad_at 0
  pub stored_for_nine : add_head_answer 9 (head_of_two ∷ []) 0 ≡ refused 1
  pub no_room : add_head_answer 2 (xor_word ∷ []) 1 ≡ refused 4
  pub stored_too_long : (stored : List ℕ) (room : ℕ) → program_max < length stored → add_head_answer 2 stored room ≡ refused 2
  -- no lent words, which is 4: at n = 9, then of three numbers, then of two
  pub layer_nine_shares : layer_answer 9 3 1 0 0 0 0 ≡ refused 1
  pub layer_of_three : layer_answer 2 3 1 0 0 0 0 ≡ refused 7
  pub layer_no_words : layer_answer 2 2 1 0 0 0 0 ≡ refused 4
