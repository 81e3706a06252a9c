-- The lent words, document 02, No. 5: "In the lent words real part j of share i is word 2Ni + j, its imaginary part N words later; N is 1 for
-- the product." So each share has 2N numbers in a row, the real parts and then the imaginary ones: number j of share i is word 2Ni + j.
use Rattle.std.specs.Prelude.{List, map, ℕ, ◌+◌, ◌*◌, ◌/◌, ◌%◌, get_or}
use Rattle.masking.specs.Translation.{up_from, shares}
use Rattle.split_join.specs.SplitJoin.{xor_all}

-- number j, where each share has S of them: its n shares
abbrev pub number_of : ℕ → ℕ → ℕ → List ℕ → List ℕ
number_of n S j words = map (λ i. get_or words (S * i + j) 0) (shares n)

-- S numbers of n shares each, as such words
abbrev pub as_words : ℕ → ℕ → (ℕ → List ℕ) → List ℕ
as_words n S number = map (λ k. get_or (number (k % S)) (k / S) 0) (up_from 0 (S * n))

-- the S numbers joined
abbrev pub joined_words : ℕ → ℕ → List ℕ → List ℕ
joined_words n S words = map (λ j. xor_all (number_of n S j words)) (up_from 0 S)
