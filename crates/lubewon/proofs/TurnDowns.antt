-- The examples of the turn-downs, by computing the definitions.
use mathlib.Core.Path.{refl, sym}
use Rattle.word.specs.Encoding.{row, named, put}
use Rattle.word.specs.Head.{is_head}
use Rattle.checks.specs.Answers.{plan_checked, program_checked}
use Rattle.checks_run.specs.RunCheck.{run_checked}
use Rattle.checks.proofs.Checked.{program_check}
use Rattle.checks_run.proofs.RunChecked.{run_long}
use Rattle.masking.specs.Runs.{run_rest}
use Rattle.translation.specs.Calls.{plan_for}
use Rattle.fft_numbers.specs.Layer.{is_layer}
use Rattle.fft_numbers.specs.Calls.{layer_answer}
use Rattle.lubewon.specs.TurnDowns.{TurnDowns}

pub turn_downs : TurnDowns
unfolding row named put is_head plan_checked program_checked run_checked plan_for is_layer layer_answer
turn_downs =
    record {
      nine_shares = refl;
      long_plan = refl;
      kind_0 = refl;
      cells_511 = refl;
      place_3 = refl;
      empty_tape = refl;
      told_nine = refl;
      no_program = refl;
      no_head = refl;
      other_count = refl;
      count_of_nine = refl;
      second_head = refl;
      too_long = λ program tape st budget l. run_long 2 program (run_rest program tape st budget) refl l;
      just_head = refl;
      step_of_head = refl;
      step_of_nine = refl;
      step_on_511 = refl;
      step_past_tape = refl;
      nothing_stored = refl;
      head_stored = refl;
      stored_for_nine = refl;
      no_room = refl;
      stored_too_long = λ stored room l. sym (program_check.long stored _ l refl);
      layer_nine_shares = refl;
      layer_of_three = refl;
      layer_no_words = refl;
    }
