-- The worked examples hold, by computation.
use mathlib.Core.Path.{refl}
use lib.Ieee.{size}
use Rattle.bits.specs.Ops.{xor_w}
use Rattle.binary64.specs.Number.{magnitude}
use Rattle.binary64.specs.Rounding.{rounded_e, rounded_f, mag_bits}
use Rattle.binary64.specs.Product.{product}
use Rattle.binary64.specs.Sum.{sum_of, sum}
use Rattle.fft_numbers.specs.Layer.{is_layer}
use Rattle.fft_numbers.specs.Calls.{layer_words}
use Rattle.fft_numbers.specs.Examples.{ComplexExamples}

pub complex_examples : ComplexExamples
unfolding size xor_w magnitude rounded_e rounded_f mag_bits product sum_of sum is_layer layer_words
complex_examples =
    record {
      real_1 = refl;
      imaginary_1 = refl;
      laid_back = refl;
      places = refl;
      second_block = refl;
      least = refl;
      most_near = refl;
      most_far = refl;
      three_numbers = refl;
      three_apart = refl;
      none_apart = refl;
      no_number = refl;
      one_number = refl;
      one_at_one = refl;
      too_many = refl;
      all_apart = refl;
      re = refl;
      im = refl;
      one_pair = refl;
      flipped_first_is = refl;
      flipped_in_both = refl;
      plain_factor = refl;
    }
