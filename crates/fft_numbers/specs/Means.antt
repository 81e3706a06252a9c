-- What a layer on plain words comes to in closed form. Calls' `layer_words` is defined by acts done one after another; document 02, No. 5, says
-- what each pair becomes: "Each pair u, v, places p and p + h of a block, becomes u + w·v and u − w·v in the same places, with w as a + bi."
-- And what the complex product, a pair and a layer come to on shares: from which word of the tape on each of their calls goes. That a call takes no
-- more of it than its plan foretells is `acts_are_calls` (Holds).
use Rattle.std.specs.Prelude.{◌≡◌, true, List, ◌⊎◌, ℕ, ◌+◌, ◌-◌, ◌*◌, ◌/◌, ◌^◌, ◌≤◌, ◌<◌, length, get_or, drop}
use Rattle.masking.specs.Foretold.{foretold_tape}
use Rattle.binary64.specs.Sum.{sum}
use Rattle.plans.specs.words.ProductPlan.{product_plan}
use Rattle.plans.specs.words.SumPlan.{sum_plan}
use Rattle.masked_call.specs.Shares.{result_shares}
use Rattle.fft_numbers.specs.Acts.{Slots, flipped, plain_shares, flipped_first, run_shares}
use Rattle.fft_numbers.specs.Complex.{slot_a, slot_b, slot_c, slot_d, slot_re, slot_im, complex_acts, complex_re, complex_im}
use Rattle.fft_numbers.specs.Layer.{is_layer, place_of, block_count, pair_acts}
use Rattle.fft_numbers.specs.Layout.{number_of}
use Rattle.fft_numbers.specs.Calls.{complex_shares, layer_shares, layer_words}

-- Pair k, counted by rising place: its numbers in `numbers`, and what is in `after` of them.
module _ (N h : ℕ) (numbers factors after : List ℕ) (k : ℕ) where
  -- "places p and p + h of a block"
  abbrev pub place_u : ℕ
  place_u = place_of h k

  abbrev pub place_v : ℕ
  place_v = place_u + h

  -- "Each pair u, v": the real parts, and the imaginary ones N later
  abbrev pub u_re : ℕ
  u_re = get_or numbers place_u 0

  abbrev pub u_im : ℕ
  u_im = get_or numbers (N + place_u) 0

  abbrev pub v_re : ℕ
  v_re = get_or numbers place_v 0

  abbrev pub v_im : ℕ
  v_im = get_or numbers (N + place_v) 0

  -- w: "one for each block of 2h: N/(2h) real parts, then the imaginary ones"
  abbrev pub w_re : ℕ
  w_re = get_or factors (k / h) 0

  abbrev pub w_im : ℕ
  w_im = get_or factors (block_count N h + k / h) 0

  -- w·v, "with w as a + bi"
  abbrev pub wv_re : ℕ
  wv_re = complex_re w_re w_im v_re v_im

  abbrev pub wv_im : ℕ
  wv_im = complex_im w_re w_im v_re v_im

  -- "becomes u + w·v and u − w·v in the same places"
  pub record PairBecomes : Type 0 where
    pub plus_re : get_or after place_u 0 ≡ sum u_re wv_re
    pub plus_im : get_or after (N + place_u) 0 ≡ sum u_im wv_im
    pub minus_re : get_or after place_v 0 ≡ sum u_re (flipped wv_re)
    pub minus_im : get_or after (N + place_v) 0 ≡ sum u_im (flipped wv_im)

pub record LayerMeans : Type 0 where
  pub size : (N h : ℕ) (numbers factors : List ℕ) → length (layer_words N h numbers factors) ≡ 2 * N
  -- "Each pair u, v, places p and p + h of a block, becomes u + w·v and u − w·v in the same places, with w as a + bi."
  pub pairs : (N h : ℕ) (numbers factors : List ℕ) → is_layer N h ≡ true → (k : ℕ) → k < N / 2
      → PairBecomes N h numbers factors (layer_words N h numbers factors) k
  -- "pairs by rising place"
  pub rising : (N h : ℕ) → is_layer N h ≡ true → (k k' : ℕ) → k < k' → place_of h k < place_of h k'
  -- a layer's sizes are those of the sentence, 7 "when N or h is not a power of two, N is outside 2..1,024 or h is not below N", and all of them
  pub powers : (N h : ℕ) → is_layer N h ≡ true → (a : ℕ) × (b : ℕ) × (N ≡ 2 ^ a) × (h ≡ 2 ^ b) × (2 ≤ N) × (N ≤ 1024) × (h < N)
  pub every : (a b : ℕ) → 2 ≤ 2 ^ a → 2 ^ a ≤ 1024 → 2 ^ b < 2 ^ a → is_layer (2 ^ a) (2 ^ b) ≡ true
  -- every place is u's or v's of a pair
  pub places : (N h : ℕ) → is_layer N h ≡ true → (j : ℕ) → j < N → (k : ℕ) × (k < N / 2) × ((j ≡ place_of h k) ⊎ (j ≡ place_of h k + h))

-- ---- on n shares: "The shares are those of our calls on shares, one after another on the tape"

module _ (n : ℕ) (tape : List ℕ) where
  -- tape words of a product and of a sum
  abbrev pub product_tape : ℕ
  product_tape = foretold_tape n product_plan

  abbrev pub sum_tape : ℕ
  sum_tape = foretold_tape n sum_plan

  -- a product and a sum over the tape from word t on
  abbrev pub product_from : ℕ → List ℕ → List ℕ → List ℕ
  product_from t x y = result_shares product_plan n x y (drop t tape)

  abbrev pub sum_from : ℕ → List ℕ → List ℕ → List ℕ
  sum_from t x y = result_shares sum_plan n x y (drop t tape)

  -- "products in the order ac, bd, ad, bc, then the real sum, the imaginary sum"
  abbrev pub re_from : List ℕ → List ℕ → List ℕ → List ℕ → List ℕ
  re_from a b c d = sum_from (4 * product_tape) (product_from 0 a c) (flipped_first (product_from product_tape b d))

  abbrev pub im_from : List ℕ → List ℕ → List ℕ → List ℕ → List ℕ
  im_from a b c d = sum_from (4 * product_tape + sum_tape) (product_from (2 * product_tape) a d) (product_from (3 * product_tape) b c)

  -- the pair of u at place p, with the plain factor re + im·i, from the numbers before
  module _ (N h re im p : ℕ) (before : ℕ → List ℕ) where
    -- w·v, "with w as a + bi"
    abbrev pub wv_re_shares : List ℕ
    wv_re_shares = re_from (plain_shares n re) (plain_shares n im) (before (p + h)) (before (N + (p + h)))

    abbrev pub wv_im_shares : List ℕ
    wv_im_shares = im_from (plain_shares n re) (plain_shares n im) (before (p + h)) (before (N + (p + h)))

    -- "u plus and u minus, each real part first", in the same places of the numbers after
    pub record PairOnShares (after : ℕ → List ℕ) : Type 0 where
      pub plus_re : after p ≡ sum_from (4 * product_tape + 2 * sum_tape) (before p) wv_re_shares
      pub plus_im : after (N + p) ≡ sum_from (4 * product_tape + 3 * sum_tape) (before (N + p)) wv_im_shares
      pub minus_re : after (p + h) ≡ sum_from (4 * product_tape + 4 * sum_tape) (before p) (flipped_first wv_re_shares)
      pub minus_im : after (N + (p + h)) ≡ sum_from (4 * product_tape + 5 * sum_tape) (before (N + p)) (flipped_first wv_im_shares)

  module _ (s : Slots (List ℕ)) where
    pub record ComplexComesTo : Type 0 where
      pub re : (run_shares n complex_acts tape s).held slot_re ≡ re_from (s.held slot_a) (s.held slot_b) (s.held slot_c) (s.held slot_d)
      pub im : (run_shares n complex_acts tape s).held slot_im ≡ im_from (s.held slot_a) (s.held slot_b) (s.held slot_c) (s.held slot_d)

    module _ (N h re im p : ℕ) where
      abbrev pub pair_after : Slots (List ℕ)
      pair_after = run_shares n (pair_acts N h re im p) tape s

      pub record PairComesTo : Type 0 where
        pub own : PairOnShares N h re im p s.lent pair_after.lent
        -- all other numbers are as they were
        pub others : (j : ℕ) → (j ≡ p → ⊥) → (j ≡ N + p → ⊥) → (j ≡ p + h → ⊥) → (j ≡ N + (p + h) → ⊥) → pair_after.lent j ≡ s.lent j

pub record OnSharesMeans : Type 0 where
  pub complex : (n : ℕ) (tape : List ℕ) (s : Slots (List ℕ)) → ComplexComesTo n tape s
  -- in the lent words, x as a + bi and y as c + di: "N is 1 for the product"
  pub complex_re_is : (n : ℕ) (x y tape : List ℕ)
      → number_of n 2 0 (complex_shares n x y tape) ≡ re_from n tape (number_of n 2 0 x) (number_of n 2 1 x) (number_of n 2 0 y) (number_of n 2 1 y)
  pub complex_im_is : (n : ℕ) (x y tape : List ℕ)
      → number_of n 2 1 (complex_shares n x y tape) ≡ im_from n tape (number_of n 2 0 x) (number_of n 2 1 x) (number_of n 2 0 y) (number_of n 2 1 y)
  pub complex_size : (n : ℕ) (x y tape : List ℕ) → length (complex_shares n x y tape) ≡ 2 * n
  pub pair : (n : ℕ) (tape : List ℕ) (s : Slots (List ℕ)) (N h re im p : ℕ) → 0 < h → p + h < N → PairComesTo n tape s N h re im p
  -- a whole layer, in the lent words: "pairs by rising place", "one after another on the tape". Pair k runs on its numbers as they were lent, over
  -- the tape from word k·622·n(n − 1) on, with the factor of its block. By `places` above each number is one of a pair's four.
  pub layer : (n N h : ℕ) (numbers factors tape : List ℕ) → 2 ≤ n → n ≤ 8 → is_layer N h ≡ true → (k : ℕ) → k < N / 2
      → PairOnShares n (drop (k * (622 * (n * (n - 1)))) tape) N h (get_or factors (k / h) 0) (get_or factors (block_count N h + k / h) 0) (place_of h k)
      (λ j. number_of n (2 * N) j numbers) (λ j. number_of n (2 * N) j (layer_shares n N h numbers factors tape))
  pub layer_size : (n N h : ℕ) (numbers factors tape : List ℕ) → length (layer_shares n N h numbers factors tape) ≡ 2 * N * n
