-- Worked examples of document 02's No. 5: the lent words, a layer's pairs, the sizes and each reason of 7, the complex product and a layer in
-- bits, a number flipped and a plain factor.
use Rattle.std.specs.Prelude.{◌≡◌, true, false, [], ◌∷◌, map}
use Rattle.masking.specs.Translation.{up_from}
use Rattle.split_join.specs.SplitJoin.{xor_all}
use Rattle.fft_numbers.specs.Acts.{plain_shares, flipped, flipped_first}
use Rattle.fft_numbers.specs.Complex.{complex_re, complex_im}
use Rattle.fft_numbers.specs.Layer.{is_layer, pair_acts, place_of, pair_of}
use Rattle.fft_numbers.specs.Layout.{number_of, as_words}
use Rattle.fft_numbers.specs.Calls.{layer_words}

pub record ComplexExamples : Type 0 where
  -- N = 2 on 2 shares, words 0 to 7: "real part j of share i is word 2Ni + j, its imaginary part N words later"
  pub real_1 : number_of 2 4 1 (up_from 0 8) ≡ 1 ∷ 5 ∷ []
  pub imaginary_1 : number_of 2 4 3 (up_from 0 8) ≡ 3 ∷ 7 ∷ []
  pub laid_back : as_words 2 4 (λ j. number_of 2 4 j (up_from 0 8)) ≡ up_from 0 8
  -- N = 8, h = 2: pairs at places 0, 1, 4, 5; the pair at 4 has the second block's factor
  pub places : map (place_of 2) (up_from 0 4) ≡ 0 ∷ 1 ∷ 4 ∷ 5 ∷ []
  pub second_block : pair_of 8 2 (10 ∷ 11 ∷ 12 ∷ 13 ∷ []) 2 ≡ pair_acts 8 2 11 13 4
  -- sizes: the least and the most
  pub least : is_layer 2 1 ≡ true
  pub most_near : is_layer 1024 1 ≡ true
  pub most_far : is_layer 1024 512 ≡ true
  -- 7: "when N or h is not a power of two", at 3 and at 0
  pub three_numbers : is_layer 3 1 ≡ false
  pub three_apart : is_layer 8 3 ≡ false
  pub none_apart : is_layer 8 0 ≡ false
  -- "N is outside 2..1,024"
  pub no_number : is_layer 0 0 ≡ false
  pub one_number : is_layer 1 0 ≡ false
  pub one_at_one : is_layer 1 1 ≡ false
  pub too_many : is_layer 2048 1 ≡ false
  -- "or h is not below N"
  pub all_apart : is_layer 8 8 ≡ false
  -- (1 + 2i)(3 + 4i) = −5 + 10i
  pub re : complex_re 0x3FF0000000000000 0x4000000000000000 0x4008000000000000 0x4010000000000000 ≡ 0xC014000000000000
  pub im : complex_im 0x3FF0000000000000 0x4000000000000000 0x4008000000000000 0x4010000000000000 ≡ 0x4024000000000000
  -- u = 1, v = 3 + 4i, w = 1 + 2i become −4 + 10i and 6 − 10i
  pub one_pair : layer_words 2 1 (0x3FF0000000000000 ∷ 0x4008000000000000 ∷ 0 ∷ 0x4010000000000000 ∷ []) (0x3FF0000000000000 ∷ 0x4000000000000000 ∷ [])
      ≡ 0xC010000000000000 ∷ 0x4018000000000000 ∷ 0x4024000000000000 ∷ 0xC024000000000000 ∷ []
  -- "flipped in share 0", and in no other
  pub flipped_first_is : flipped_first (1 ∷ 2 ∷ []) ≡ 0x8000000000000001 ∷ 2 ∷ []
  -- flipped in share 1 as well, the number would keep its sign
  pub flipped_in_both : xor_all (flipped 1 ∷ flipped 2 ∷ []) ≡ xor_all (1 ∷ 2 ∷ [])
  -- "share 0 with zeros beside it"
  pub plain_factor : plain_shares 3 7 ≡ 7 ∷ 0 ∷ 0 ∷ []
