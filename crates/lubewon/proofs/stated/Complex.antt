-- The claims on complex numbers, field by field, over the definitions' own names: what is narrowed, halved or asks for more fails here. The conditions
-- that are theirs alone are made from their parts too.
use mathlib.Core.Path.{◌≡◌}
use mathlib.Core.Bool.{true}
use mathlib.Core.Logic.{◌⊎◌}
use mathlib.Core.List.{List, [], ◌∷◌, ◌++◌}
use Prim.Native.Nat.{ℕ, suc, ◌+◌, ◌-◌, ◌*◌, ◌/◌, ◌%◌, ◌^◌, ◌≤◌, ◌<◌}
use lib.ListN.{length, get_or, take, drop}
use Rattle.checks.specs.Answers.{done}
use Rattle.masking.specs.Translation.{program}
use Rattle.masking.specs.Foretold.{foretold_tape}
use Rattle.masking.specs.Runs.{Run, told}
use Rattle.masking.specs.Secrecy.{Tape, Pairing, done_after, word_after}
use Rattle.binary64.specs.Product.{product}
use Rattle.binary64.specs.Sum.{sum}
use Rattle.binary64.specs.Operations.{Operation}
use Rattle.plans.specs.BuiltIns.{plan_of}
use Rattle.plans.specs.words.ProductPlan.{product_plan}
use Rattle.plans.specs.words.SumPlan.{sum_plan}
use Rattle.masked_call.specs.Shares.{placed, result_shares, call_answer, result_after}
use Rattle.operations.specs.Masked.{Operand}
use Rattle.split_join.specs.SplitJoin.{xor_all}
use Rattle.fft_numbers.specs.Acts.{Act, Put, Flip, Load, Store, Call, Slots, flipped, run_plain, plain_shares, flipped_first, tape_for, run_shares}
use Rattle.fft_numbers.specs.Complex.{complex_acts}
use Rattle.fft_numbers.specs.Layer.{is_layer, pair_acts, layer_acts}
use Rattle.fft_numbers.specs.Layout.{number_of, joined_words}
use Rattle.fft_numbers.specs.Calls.{complex_tape, complex_start, complex_call_answer, complex_result, complex_shares, layer_tape, layer_start, layer_call_answer, layer_numbers, layer_shares, layer_words, plain_call_answer, plain_numbers}
use Rattle.fft_numbers.specs.Secrecy.{Shared, AgreeIn, PutsWords, CallHidden, StepOfCalls}
use Rattle.fft_numbers.specs.Holds.{joined_slots, AsCalled, OperandsAgree, ComplexSecret, ComplexHolds, LayerSecret, LayerHolds, Transforms}
use Rattle.fft_numbers.specs.Means.{PairBecomes, LayerMeans, PairOnShares, ComplexComesTo, PairComesTo, OnSharesMeans}
use Rattle.lubewon.specs.Claims.{Claims}
use Rattle.lubewon.proofs.stated.Conditions.{AllWords}

-- ---- conditions

-- a number's words in share i, where each share has S of them
abbrev SameWords : ℕ → ℕ → List ℕ → List ℕ → Type 0
SameWords S i x x' = (j : ℕ) → j < S → get_or x (S * i + j) 0 ≡ get_or x' (S * i + j) 0

shared : {n : ℕ} {s : Slots (List ℕ)} → ((k : ℕ) → Operand n (s.held k)) → ((j : ℕ) → Operand n (s.lent j)) → Shared n s
shared a b = record { held = a; lent = b }

module _ {n : ℕ} {s : Slots (List ℕ)} (h : Shared n s) where
  shared_held : (k : ℕ) → Operand n (s.held k)
  shared_held = h.held

  shared_lent : (j : ℕ) → Operand n (s.lent j)
  shared_lent = h.lent

agree_in : {i : ℕ} {s s' : Slots (List ℕ)} → ((k : ℕ) → get_or (s.held k) i 0 ≡ get_or (s'.held k) i 0)
    → ((j : ℕ) → get_or (s.lent j) i 0 ≡ get_or (s'.lent j) i 0) → AgreeIn i s s'
agree_in a b = record { held = a; lent = b }

module _ {i : ℕ} {s s' : Slots (List ℕ)} (h : AgreeIn i s s') where
  agree_in_held : (k : ℕ) → get_or (s.held k) i 0 ≡ get_or (s'.held k) i 0
  agree_in_held = h.held

  agree_in_lent : (j : ℕ) → get_or (s.lent j) i 0 ≡ get_or (s'.lent j) i 0
  agree_in_lent = h.lent

operands_agree : {i : ℕ} {x y x' y' : List ℕ} → SameWords 2 i x x' → SameWords 2 i y y' → OperandsAgree i x y x' y'
operands_agree a b = record { first = a; second = b }

module _ {i : ℕ} {x y x' y' : List ℕ} (h : OperandsAgree i x y x' y') where
  operands_agree_first : SameWords 2 i x x'
  operands_agree_first = h.first

  operands_agree_second : SameWords 2 i y y'
  operands_agree_second = h.second

-- acts that put words into slots: nothing is asked but that each word put is one
module _ (cs : List Act) (j k : ℕ) where
  puts_none : PutsWords []
  puts_none = tt

  puts_put : (w : ℕ) → w < 2 ^ 64 → PutsWords cs → PutsWords (Put k w ∷ cs)
  puts_put w l h = (l, h)

  puts_flip : PutsWords cs → PutsWords (Flip k ∷ cs)
  puts_flip h = h

  puts_load : PutsWords cs → PutsWords (Load k j ∷ cs)
  puts_load h = h

  puts_store : PutsWords cs → PutsWords (Store j k ∷ cs)
  puts_store h = h

  puts_call : (o : Operation) (a b : ℕ) → PutsWords cs → PutsWords (Call o k a b ∷ cs)
  puts_call o a b h = h

-- ---- any list of acts

-- a call that follows the acts `before`: the cells that its share run starts from, the tape words before its part, and its part
module _ (n : ℕ) (before : List Act) (o : Operation) where
  abbrev begun : ℕ → ℕ → Slots (List ℕ) → List ℕ → List ℕ
  begun a b s tape = placed ((run_shares n before tape s).held a) ((run_shares n before tape s).held b)

  abbrev earlier : List ℕ → List ℕ
  earlier tape = take (tape_for n before) tape

  abbrev part : List ℕ → List ℕ
  part tape = take (foretold_tape n (plan_of o)) (drop (tape_for n before) tape)

  module _ (acts : List Act) (a b step : ℕ) (s s' : Slots (List ℕ)) (h : CallHidden n acts before o a b step s s') where
    abbrev there : List ℕ → List ℕ
    there tape = h.pairing.there tape

    call_hidden_pairing : Pairing (tape_for n acts)
    call_hidden_pairing = h.pairing

    call_hidden_reached : (tape : List ℕ) → Tape (tape_for n acts) tape
        → (done_after n (plan_of o) (begun a b s tape) (earlier tape) (part tape) (told n (suc (suc step)) ∷ []) ≡ suc (suc step))
        × (done_after n (plan_of o) (begun a b s' (there tape)) (earlier (there tape)) (part (there tape)) (told n (suc (suc step)) ∷ []) ≡ suc (suc step))
    call_hidden_reached = h.reached

    call_hidden_equal : (tape : List ℕ) → Tape (tape_for n acts) tape → (runs runs' : List Run)
        → done_after n (plan_of o) (begun a b s tape) (earlier tape) (part tape) runs ≡ suc (suc step)
        → done_after n (plan_of o) (begun a b s' (there tape)) (earlier (there tape)) (part (there tape)) runs' ≡ suc (suc step)
        → word_after n (plan_of o) step (begun a b s tape) (earlier tape) (part tape) runs
        ≡ word_after n (plan_of o) step (begun a b s' (there tape)) (earlier (there tape)) (part (there tape)) runs'
    call_hidden_equal = h.equal

  -- a call in a list of acts: its answer and its result by itself, over its part of the tape
  module _ (k a b : ℕ) (s : Slots (List ℕ)) (tape result work : List ℕ) (h : AsCalled n before o k a b s tape result work) where
    as_called_answer : call_answer (plan_of o) ((run_shares n before tape s).held a) ((run_shares n before tape s).held b) result work (part tape)
        ≡ done 0 (foretold_tape n (plan_of o))
    as_called_answer = h.answer

    as_called_result : (run_shares n (before ++ (Call o k a b ∷ [])) tape s).held k
        ≡ result_after (plan_of o) ((run_shares n before tape s).held a) ((run_shares n before tape s).held b) result work (part tape)
    as_called_result = h.result_is

module _ {n : ℕ} {o : Operation} {step : ℕ} (h : StepOfCalls n o step) where
  step_of_calls_share : ℕ
  step_of_calls_share = h.share

  step_of_calls_below : h.share < n
  step_of_calls_below = h.below

  step_of_calls_hidden : (before : List Act) (k a b : ℕ) (after : List Act) → PutsWords (before ++ (Call o k a b ∷ after))
      → (s s' : Slots (List ℕ)) → Shared n s → Shared n s' → AgreeIn h.share s s'
      → CallHidden n (before ++ (Call o k a b ∷ after)) before o a b step s s'
  step_of_calls_hidden = h.hidden

-- ---- the complex product

module _ {n : ℕ} {o : Operation} {step : ℕ} (h : ComplexSecret n o step) where
  complex_secret_share : ℕ
  complex_secret_share = h.share

  complex_secret_below : h.share < n
  complex_secret_below = h.below

  complex_secret_hidden : (before : List Act) (k a b : ℕ) (after : List Act) → complex_acts ≡ before ++ (Call o k a b ∷ after)
      → (x y x' y' : List ℕ) → AllWords x → AllWords y → AllWords x' → AllWords y' → OperandsAgree h.share x y x' y'
      → CallHidden n complex_acts before o a b step (complex_start n x y) (complex_start n x' y')
  complex_secret_hidden = h.hidden

module _ (h : ComplexHolds) where
  complex_joins : (n : ℕ) (x y result work tape : List ℕ) → AllWords x → AllWords y → AllWords tape → (complex_call_answer n x y result work tape).number ≡ 0
      → let a = xor_all (number_of n 2 0 x) in let b = xor_all (number_of n 2 1 x) in let c = xor_all (number_of n 2 0 y) in let d = xor_all (number_of n 2 1 y) in
      joined_words n 2 (complex_result n x y result work tape) ≡ sum (product a c) (flipped (product b d)) ∷ sum (product a d) (product b c) ∷ []
  complex_joins = h.joins

  complex_tape_is : (n : ℕ) → 2 ≤ n → n ≤ 8 → (tape_for n complex_acts ≡ complex_tape n) × (complex_tape n ≡ 410 * (n * (n - 1)))
  complex_tape_is = h.tape

  complex_secret : (n : ℕ) → 2 ≤ n → n ≤ 8 → (o : Operation) (step : ℕ) → step < length (program n (plan_of o)) → ComplexSecret n o step
  complex_secret = h.secret

-- ---- a layer

module _ {n : ℕ} {o : Operation} {step : ℕ} (h : LayerSecret n o step) where
  layer_secret_share : ℕ
  layer_secret_share = h.share

  layer_secret_below : h.share < n
  layer_secret_below = h.below

  layer_secret_hidden : (N d : ℕ) (factors : List ℕ) → AllWords factors → (before : List Act) (k a b : ℕ) (after : List Act)
      → layer_acts N d factors ≡ before ++ (Call o k a b ∷ after) → (numbers numbers' : List ℕ) → AllWords numbers → AllWords numbers'
      → SameWords (2 * N) h.share numbers numbers'
      → CallHidden n (layer_acts N d factors) before o a b step (layer_start n N numbers) (layer_start n N numbers')
  layer_secret_hidden = h.hidden

module _ (h : LayerHolds) where
  -- the plain call on what the numbers join to is done, and the numbers join to what it leaves
  layer_plain : (n N d : ℕ) (numbers factors work tape : List ℕ) → (layer_call_answer n N d numbers factors work tape).number ≡ 0
      → plain_call_answer N d (joined_words n (2 * N) numbers) factors ≡ done 0 0
  layer_plain = h.plain

  layer_joins : (n N d : ℕ) (numbers factors work tape : List ℕ) → AllWords numbers → AllWords factors → AllWords tape
      → (layer_call_answer n N d numbers factors work tape).number ≡ 0
      → joined_words n (2 * N) (layer_numbers n N d numbers factors work tape) ≡ plain_numbers N d (joined_words n (2 * N) numbers) factors
  layer_joins = h.joins

  layer_tape_is : (n N d : ℕ) (factors : List ℕ) → 2 ≤ n → n ≤ 8
      → (tape_for n (layer_acts N d factors) ≡ layer_tape n N) × (layer_tape n N ≡ N / 2 * (622 * (n * (n - 1))))
  layer_tape_is = h.tape

  layer_secret : (n : ℕ) → 2 ≤ n → n ≤ 8 → (o : Operation) (step : ℕ) → step < length (program n (plan_of o)) → LayerSecret n o step
  layer_secret = h.secret

module _ (h : Transforms) where
  acts_join : (n : ℕ) → 2 ≤ n → n ≤ 8 → (acts : List Act) → PutsWords acts → (s : Slots (List ℕ)) → Shared n s → (tape : List ℕ) → AllWords tape
      → tape_for n acts ≤ length tape → joined_slots (run_shares n acts tape s) ≡ run_plain acts (joined_slots s)
  acts_join = h.acts_join

  acts_are_calls : (n : ℕ) → 2 ≤ n → n ≤ 8 → (before : List Act) (o : Operation) (k a b : ℕ) → PutsWords before → (s : Slots (List ℕ)) → Shared n s
      → (tape : List ℕ) → AllWords tape → tape_for n (before ++ (Call o k a b ∷ [])) ≤ length tape
      → (result work : List ℕ) → length result ≡ n → length work ≡ 512 → AsCalled n before o k a b s tape result work
  acts_are_calls = h.acts_are_calls

  acts_secret : (n : ℕ) → 2 ≤ n → n ≤ 8 → (o : Operation) (step : ℕ) → step < length (program n (plan_of o)) → StepOfCalls n o step
  acts_secret = h.acts_secret

  transforms_complex : ComplexHolds
  transforms_complex = h.complex

  transforms_layer : LayerHolds
  transforms_layer = h.layer

-- ---- what a layer makes of each pair

-- the place of u in pair k, at distance d: blocks of 2d, d pairs in each
abbrev place_at : ℕ → ℕ → ℕ
place_at d k = 2 * d * (k / d) + k % d

-- u + w·v and u − w·v, where u is at place p and v at p + d
module _ (N d : ℕ) (numbers factors after : List ℕ) (k : ℕ) where
  abbrev p : ℕ
  p = place_at d k

  abbrev re : ℕ
  re = get_or factors (k / d) 0

  abbrev im : ℕ
  im = get_or factors (N / (2 * d) + k / d) 0

  abbrev wv_re : ℕ
  wv_re = sum (product re (get_or numbers (p + d) 0)) (flipped (product im (get_or numbers (N + (p + d)) 0)))

  abbrev wv_im : ℕ
  wv_im = sum (product re (get_or numbers (N + (p + d)) 0)) (product im (get_or numbers (p + d) 0))

  module _ (h : PairBecomes N d numbers factors after k) where
    pair_becomes_plus_re : get_or after p 0 ≡ sum (get_or numbers p 0) wv_re
    pair_becomes_plus_re = h.plus_re

    pair_becomes_plus_im : get_or after (N + p) 0 ≡ sum (get_or numbers (N + p) 0) wv_im
    pair_becomes_plus_im = h.plus_im

    pair_becomes_minus_re : get_or after (p + d) 0 ≡ sum (get_or numbers p 0) (flipped wv_re)
    pair_becomes_minus_re = h.minus_re

    pair_becomes_minus_im : get_or after (N + (p + d)) 0 ≡ sum (get_or numbers (N + p) 0) (flipped wv_im)
    pair_becomes_minus_im = h.minus_im

module _ (h : LayerMeans) where
  layer_means_size : (N d : ℕ) (numbers factors : List ℕ) → length (layer_words N d numbers factors) ≡ 2 * N
  layer_means_size = h.size

  layer_means_pairs : (N d : ℕ) (numbers factors : List ℕ) → is_layer N d ≡ true → (k : ℕ) → k < N / 2
      → PairBecomes N d numbers factors (layer_words N d numbers factors) k
  layer_means_pairs = h.pairs

  layer_means_rising : (N d : ℕ) → is_layer N d ≡ true → (k k' : ℕ) → k < k' → place_at d k < place_at d k'
  layer_means_rising = h.rising

  layer_means_powers : (N d : ℕ) → is_layer N d ≡ true → (a : ℕ) × (b : ℕ) × (N ≡ 2 ^ a) × (d ≡ 2 ^ b) × (2 ≤ N) × (N ≤ 1024) × (d < N)
  layer_means_powers = h.powers

  layer_means_every : (a b : ℕ) → 2 ≤ 2 ^ a → 2 ^ a ≤ 1024 → 2 ^ b < 2 ^ a → is_layer (2 ^ a) (2 ^ b) ≡ true
  layer_means_every = h.every

  layer_means_places : (N d : ℕ) → is_layer N d ≡ true → (j : ℕ) → j < N → (k : ℕ) × (k < N / 2) × ((j ≡ place_at d k) ⊎ (j ≡ place_at d k + d))
  layer_means_places = h.places

-- ---- what complex product, pair and layer come to on shares, call by call on the tape

module _ (n : ℕ) (tape : List ℕ) where
  -- tape words of i products and j sums, and a product and a sum after so many words
  abbrev spent : ℕ → ℕ → ℕ
  spent i j = i * foretold_tape n product_plan + j * foretold_tape n sum_plan

  abbrev times : ℕ → List ℕ → List ℕ → List ℕ
  times t x y = result_shares product_plan n x y (drop t tape)

  abbrev plus : ℕ → List ℕ → List ℕ → List ℕ
  plus t x y = result_shares sum_plan n x y (drop t tape)

  abbrev re_of : List ℕ → List ℕ → List ℕ → List ℕ → List ℕ
  re_of a b c d = plus (4 * foretold_tape n product_plan) (times 0 a c) (flipped_first (times (foretold_tape n product_plan) b d))

  abbrev im_of : List ℕ → List ℕ → List ℕ → List ℕ → List ℕ
  im_of a b c d =
      plus (4 * foretold_tape n product_plan + foretold_tape n sum_plan) (times (2 * foretold_tape n product_plan) a d) (times (3 * foretold_tape n product_plan) b c)

  module _ (N d a b q : ℕ) (before after : ℕ → List ℕ) where
    abbrev wv_re_of : List ℕ
    wv_re_of = re_of (plain_shares n a) (plain_shares n b) (before (q + d)) (before (N + (q + d)))

    abbrev wv_im_of : List ℕ
    wv_im_of = im_of (plain_shares n a) (plain_shares n b) (before (q + d)) (before (N + (q + d)))

    module _ (h : PairOnShares n tape N d a b q before after) where
      pair_on_shares_plus_re : after q ≡ plus (spent 4 2) (before q) wv_re_of
      pair_on_shares_plus_re = h.plus_re

      pair_on_shares_plus_im : after (N + q) ≡ plus (spent 4 3) (before (N + q)) wv_im_of
      pair_on_shares_plus_im = h.plus_im

      pair_on_shares_minus_re : after (q + d) ≡ plus (spent 4 4) (before q) (flipped_first wv_re_of)
      pair_on_shares_minus_re = h.minus_re

      pair_on_shares_minus_im : after (N + (q + d)) ≡ plus (spent 4 5) (before (N + q)) (flipped_first wv_im_of)
      pair_on_shares_minus_im = h.minus_im

  module _ (s : Slots (List ℕ)) where
    -- a, b, c and d are in slots 0 to 3, the result's parts in 8 and 9
    module _ (h : ComplexComesTo n tape s) where
      complex_comes_to_re : (run_shares n complex_acts tape s).held 8 ≡ re_of (s.held 0) (s.held 1) (s.held 2) (s.held 3)
      complex_comes_to_re = h.re

      complex_comes_to_im : (run_shares n complex_acts tape s).held 9 ≡ im_of (s.held 0) (s.held 1) (s.held 2) (s.held 3)
      complex_comes_to_im = h.im

    module _ (N d a b q : ℕ) where
      abbrev pair_done : ℕ → List ℕ
      pair_done j = (run_shares n (pair_acts N d a b q) tape s).lent j

      module _ (h : PairComesTo n tape s N d a b q) where
        pair_comes_to_own : PairOnShares n tape N d a b q s.lent pair_done
        pair_comes_to_own = h.own

        pair_comes_to_others : (j : ℕ) → (j ≡ q → ⊥) → (j ≡ N + q → ⊥) → (j ≡ q + d → ⊥) → (j ≡ N + (q + d) → ⊥) → pair_done j ≡ s.lent j
        pair_comes_to_others = h.others

module _ (h : OnSharesMeans) where
  on_shares_means_complex : (n : ℕ) (tape : List ℕ) (s : Slots (List ℕ)) → ComplexComesTo n tape s
  on_shares_means_complex = h.complex

  on_shares_means_complex_re : (n : ℕ) (x y tape : List ℕ)
      → number_of n 2 0 (complex_shares n x y tape) ≡ re_of n tape (number_of n 2 0 x) (number_of n 2 1 x) (number_of n 2 0 y) (number_of n 2 1 y)
  on_shares_means_complex_re = h.complex_re_is

  on_shares_means_complex_im : (n : ℕ) (x y tape : List ℕ)
      → number_of n 2 1 (complex_shares n x y tape) ≡ im_of n tape (number_of n 2 0 x) (number_of n 2 1 x) (number_of n 2 0 y) (number_of n 2 1 y)
  on_shares_means_complex_im = h.complex_im_is

  on_shares_means_complex_size : (n : ℕ) (x y tape : List ℕ) → length (complex_shares n x y tape) ≡ 2 * n
  on_shares_means_complex_size = h.complex_size

  on_shares_means_pair : (n : ℕ) (tape : List ℕ) (s : Slots (List ℕ)) (N d a b q : ℕ) → 0 < d → q + d < N → PairComesTo n tape s N d a b q
  on_shares_means_pair = h.pair

  on_shares_means_layer : (n N d : ℕ) (numbers factors tape : List ℕ) → 2 ≤ n → n ≤ 8 → is_layer N d ≡ true → (k : ℕ) → k < N / 2
      → PairOnShares n (drop (k * (622 * (n * (n - 1)))) tape) N d (get_or factors (k / d) 0) (get_or factors (N / (2 * d) + k / d) 0) (place_at d k)
      (λ j. number_of n (2 * N) j numbers) (λ j. number_of n (2 * N) j (layer_shares n N d numbers factors tape))
  on_shares_means_layer = h.layer

  on_shares_means_layer_size : (n N d : ℕ) (numbers factors tape : List ℕ) → length (layer_shares n N d numbers factors tape) ≡ 2 * N * n
  on_shares_means_layer_size = h.layer_size

module _ (C : Claims) where
  transforms : Transforms
  transforms = C.transforms

  layer_means : LayerMeans
  layer_means = C.layer_means

  on_shares_means : OnSharesMeans
  on_shares_means = C.on_shares_means
