-- The worked examples hold, by computation.
use mathlib.Core.Path.{refl}
use Rattle.bits.specs.Ops.{add_w}
use Rattle.word.specs.Encoding.{named, row, put}
use Rattle.checks.specs.Answers.{plan_checked}
use Rattle.plain.specs.Machine.{stepped}
use Rattle.plain.specs.Call.{plain_answer}
use Rattle.plain.specs.Examples.{WordExamples}

pub word_examples : WordExamples
unfolding named row put stepped add_w plan_checked plain_answer
word_examples =
    record {
      xor_word_is = refl;
      second_share = refl;
      kind_zero = refl;
      rand_word = refl;
      rand_in_plan = refl;
      constant = refl;
      bit_27 = refl;
      shift_64 = refl;
      register_32 = refl;
      wraps = refl;
      bad_place = refl;
      too_few = refl;
    }
