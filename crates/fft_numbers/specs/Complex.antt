-- The complex product, document 02, No. 5: "real part ac − bd, imaginary part ad + bc, four products, then one sum each; a difference is a sum
-- with the second's sign bit flipped in share 0". "products in the order ac, bd, ad, bc, then the real sum, the imaginary sum".
use Rattle.std.specs.Prelude.{cond, List, [], ◌∷◌, ℕ, eqb}
use Rattle.binary64.specs.Operations.{Product, Sum}
use Rattle.binary64.specs.Product.{product}
use Rattle.binary64.specs.Sum.{sum}
use Rattle.fft_numbers.specs.Acts.{Act, Flip, Call, Slots, with, flipped}

-- the slots of the operands a + bi and c + di
abbrev pub slot_a : ℕ
slot_a = 0

abbrev pub slot_b : ℕ
slot_b = 1

abbrev pub slot_c : ℕ
slot_c = 2

abbrev pub slot_d : ℕ
slot_d = 3

-- of the four products
abbrev pub slot_ac : ℕ
slot_ac = 4

abbrev pub slot_bd : ℕ
slot_bd = 5

abbrev pub slot_ad : ℕ
slot_ad = 6

abbrev pub slot_bc : ℕ
slot_bc = 7

-- and of the result's real and imaginary part
abbrev pub slot_re : ℕ
slot_re = 8

abbrev pub slot_im : ℕ
slot_im = 9

-- of part 0, the real one, and of part 1
abbrev pub slot_of_part : ℕ → ℕ
slot_of_part j = cond (eqb j 0) slot_re slot_im

abbrev pub complex_acts : List Act
complex_acts =
    Call Product slot_ac slot_a slot_c
    ∷ Call Product slot_bd slot_b slot_d
    ∷ Call Product slot_ad slot_a slot_d
    ∷ Call Product slot_bc slot_b slot_c
    ∷ Flip slot_bd
    ∷ Call Sum slot_re slot_ac slot_bd
    ∷ Call Sum slot_im slot_ad slot_bc
    ∷ []

-- four numbers in the operands' slots, and `none` in all others
abbrev pub operands : {A : Type 0} → A → A → A → A → A → Slots A
operands none a b c d =
    record {
      held = with (with (with (with (λ k. none) slot_a a) slot_b b) slot_c c) slot_d d;
      lent = λ j. none;
    }

-- ---- on plain words: the same steps
abbrev pub complex_re : ℕ → ℕ → ℕ → ℕ → ℕ
complex_re a b c d = sum (product a c) (flipped (product b d))

abbrev pub complex_im : ℕ → ℕ → ℕ → ℕ → ℕ
complex_im a b c d = sum (product a d) (product b c)
