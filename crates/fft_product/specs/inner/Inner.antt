-- Names that inner contracts cite: nothing here has to be believed.
use Rattle.std.specs.Prelude.{List, [], ◌∷◌}
use Rattle.binary64.specs.Operations.{Product, Sum}
use Rattle.fft_numbers.specs.Acts.{Act, Flip, Call}
use Rattle.fft_numbers.specs.Complex.{slot_a, slot_b, slot_c, slot_d, slot_ac, slot_bd, slot_ad, slot_bc, slot_re, slot_im}

-- the complex product's products, and its sums
abbrev pub four_products : List Act
four_products =
    Call Product slot_ac slot_a slot_c ∷ Call Product slot_bd slot_b slot_d ∷ Call Product slot_ad slot_a slot_d ∷ Call Product slot_bc slot_b slot_c ∷ []

abbrev pub two_sums : List Act
two_sums = Flip slot_bd ∷ Call Sum slot_re slot_ac slot_bd ∷ Call Sum slot_im slot_ad slot_bc ∷ []
