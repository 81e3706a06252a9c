-- One layer of the transform over N complex numbers at distance h, document 02, No. 5: "with plain factors w lent, one for each block of 2h:
-- N/(2h) real parts, then the imaginary ones. Each pair u, v, places p and p + h of a block, becomes u + w·v and u − w·v in the same places, with
-- w as a + bi." "pairs by rising place, products in the order ac, bd, ad, bc, then the real sum, the imaginary sum, u plus and u minus, each real
-- part first."
use Rattle.std.specs.Prelude.{Bool, false, ◌&&◌, ◌||◌, List, [], ◌∷◌, ◌++◌, map, ℕ, zero, suc, ◌+◌, ◌*◌, ◌/◌, ◌%◌, ◌^◌, eqb, leb, ltb, get_or}
use Rattle.masking.specs.Translation.{up_from}
use Rattle.binary64.specs.Operations.{Sum}
use Rattle.fft_numbers.specs.Acts.{Act, Put, Flip, Load, Store, Call}
use Rattle.fft_numbers.specs.Complex.{slot_a, slot_b, slot_c, slot_d, slot_re, slot_im, complex_acts}

-- ---- 7 "when N or h is not a power of two, N is outside 2..1,024 or h is not below N"

abbrev pub powers_of_two : List ℕ
powers_of_two = map (λ e. 2 ^ e) (up_from 0 11)

abbrev pub one_of : ℕ → List ℕ → Bool
one_of k [] = false
one_of k (x ∷ xs) = eqb k x || one_of k xs

-- powers of two up to 1,024: no greater N or h passes the other tests
abbrev pub is_power_of_two : ℕ → Bool
is_power_of_two k = one_of k powers_of_two

unfoldable pub is_layer : ℕ → ℕ → Bool
is_layer N h = is_power_of_two N && (is_power_of_two h && (leb 2 N && (leb N 1024 && ltb h N)))

-- ---- the acts

-- the slots of u, of u + w·v and of u − w·v
abbrev pub slot_ure : ℕ
slot_ure = 10

abbrev pub slot_uim : ℕ
slot_uim = 11

abbrev pub slot_plus_re : ℕ
slot_plus_re = 12

abbrev pub slot_plus_im : ℕ
slot_plus_im = 13

abbrev pub slot_minus_re : ℕ
slot_minus_re = 14

abbrev pub slot_minus_im : ℕ
slot_minus_im = 15

-- "w as a + bi", v as c + di; of lent numbers the real parts are 0 to N − 1, the imaginary parts N later
abbrev pub pair_taken : ℕ → ℕ → ℕ → ℕ → ℕ → List Act
pair_taken N h re im p =
    Put slot_a re
    ∷ Put slot_b im
    ∷ Load slot_c (p + h)
    ∷ Load slot_d (N + (p + h))
    ∷ Load slot_ure p
    ∷ Load slot_uim (N + p)
    ∷ []

-- "u plus and u minus, each real part first"
abbrev pub plus_minus : List Act
plus_minus =
    Call Sum slot_plus_re slot_ure slot_re
    ∷ Call Sum slot_plus_im slot_uim slot_im
    ∷ Flip slot_re
    ∷ Call Sum slot_minus_re slot_ure slot_re
    ∷ Flip slot_im
    ∷ Call Sum slot_minus_im slot_uim slot_im
    ∷ []

-- "in the same places"
abbrev pub put_back : ℕ → ℕ → ℕ → List Act
put_back N h p = Store p slot_plus_re ∷ Store (N + p) slot_plus_im ∷ Store (p + h) slot_minus_re ∷ Store (N + (p + h)) slot_minus_im ∷ []

-- the pair of u at place p, with the factor re + im·i
abbrev pub pair_acts : ℕ → ℕ → ℕ → ℕ → ℕ → List Act
pair_acts N h re im p = pair_taken N h re im p ++ (complex_acts ++ (plus_minus ++ put_back N h p))

-- pair k by rising place: of block k / h, where its u is k % h from the block's start, 2h for each block before
abbrev pub place_of : ℕ → ℕ → ℕ
place_of h k = 2 * h * (k / h) + k % h

abbrev pub block_count : ℕ → ℕ → ℕ
block_count N h = N / (2 * h)

-- pair k with the factor of its block
abbrev pub pair_of : ℕ → ℕ → List ℕ → ℕ → List Act
pair_of N h factors k = pair_acts N h (get_or factors (k / h) 0) (get_or factors (block_count N h + k / h) 0) (place_of h k)

-- the first k pairs, and all
abbrev pub first_pairs : ℕ → ℕ → List ℕ → ℕ → List Act
first_pairs N h factors zero = []
first_pairs N h factors (suc k) = first_pairs N h factors k ++ pair_of N h factors k

abbrev pub layer_acts : ℕ → ℕ → List ℕ → List Act
layer_acts N h factors = first_pairs N h factors (N / 2)
