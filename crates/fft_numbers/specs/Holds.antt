-- What is proved of the complex product and of a layer, document 02, No. 5: "Joined, product and layer equal the same steps on plain words."; the
-- tape words from the plans' own counts; secrecy of each step of each call, in terms of the lent words.
use Rattle.std.specs.Prelude.{◌≡◌, List, [], ◌∷◌, ◌++◌, ℕ, ◌+◌, ◌-◌, ◌*◌, ◌/◌, ◌≤◌, ◌<◌, length, get_or}
use Rattle.checks.specs.Answers.{done}
use Rattle.masking.specs.Translation.{program}
use Rattle.masking.specs.Foretold.{foretold_tape}
use Rattle.masking.specs.Machine.{Words}
use Rattle.binary64.specs.Operations.{Operation}
use Rattle.plans.specs.BuiltIns.{plan_of}
use Rattle.masked_call.specs.Shares.{call_answer, result_after}
use Rattle.split_join.specs.SplitJoin.{xor_all}
use Rattle.fft_numbers.specs.Acts.{Act, Call, Slots, run_plain, tape_for, run_shares}
use Rattle.fft_numbers.specs.Complex.{complex_acts, complex_re, complex_im}
use Rattle.fft_numbers.specs.Layer.{layer_acts}
use Rattle.fft_numbers.specs.Layout.{number_of, joined_words}
use Rattle.fft_numbers.specs.Calls.{complex_tape, complex_start, complex_call_answer, complex_result, layer_tape, layer_start, layer_call_answer, layer_numbers, plain_call_answer, plain_numbers}
use Rattle.fft_numbers.specs.Secrecy.{Shared, PutsWords, part_of, CallHidden, ActsSecret}

-- ---- any list of acts

abbrev pub joined_slots : Slots (List ℕ) → Slots ℕ
joined_slots s = record { held = λ k. xor_all (s.held k); lent = λ j. xor_all (s.lent j) }

abbrev pub ActsJoin : Type 0
ActsJoin =
    (n : ℕ) → 2 ≤ n → n ≤ 8 → (acts : List Act) → PutsWords acts → (s : Slots (List ℕ)) → Shared n s → (tape : List ℕ) → Words tape
    → tape_for n acts ≤ length tape → joined_slots (run_shares n acts tape s) ≡ run_plain acts (joined_slots s)

-- "The shares are those of our calls on shares, one after another on the tape": a call in a list of acts gives what the call by itself gives over
-- its part of the tape, whatever its result and work slices held. Calls with one operand have zeros for the second; the lists below have none.
pub record AsCalled (n : ℕ) (before : List Act) (o : Operation) (k a b : ℕ) (s : Slots (List ℕ)) (tape result work : List ℕ) : Type 0 where
  pub answer : call_answer (plan_of o) ((run_shares n before tape s).held a) ((run_shares n before tape s).held b) result work (part_of n before o a b s tape)
      ≡ done 0 (foretold_tape n (plan_of o))
  pub result_is : (run_shares n (before ++ (Call o k a b ∷ [])) tape s).held k
      ≡ result_after (plan_of o) ((run_shares n before tape s).held a) ((run_shares n before tape s).held b) result work (part_of n before o a b s tape)

abbrev pub ActsAreCalls : Type 0
ActsAreCalls =
    (n : ℕ) → 2 ≤ n → n ≤ 8 → (before : List Act) (o : Operation) (k a b : ℕ) → PutsWords before → (s : Slots (List ℕ)) → Shared n s
    → (tape : List ℕ) → Words tape → tape_for n (before ++ (Call o k a b ∷ [])) ≤ length tape
    → (result work : List ℕ) → length result ≡ n → length work ≡ 512 → AsCalled n before o k a b s tape result work

-- ---- the complex product

-- x agrees with x' and y with y' in share i: both parts of each
pub record OperandsAgree (i : ℕ) (x y x' y' : List ℕ) : Type 0 where
  pub first : (j : ℕ) → j < 2 → get_or x (2 * i + j) 0 ≡ get_or x' (2 * i + j) 0
  pub second : (j : ℕ) → j < 2 → get_or y (2 * i + j) 0 ≡ get_or y' (2 * i + j) 0

-- one share number for a step of an operation, whichever of its calls it is a step of
pub record ComplexSecret (n : ℕ) (o : Operation) (step : ℕ) : Type 0 where
  pub share : ℕ
  pub below : share < n
  pub hidden : (before : List Act) (k a b : ℕ) (after : List Act) → complex_acts ≡ before ++ (Call o k a b ∷ after)
      → (x y x' y' : List ℕ) → Words x → Words y → Words x' → Words y' → OperandsAgree share x y x' y'
      → CallHidden n complex_acts before o a b step (complex_start n x y) (complex_start n x' y')

pub record ComplexHolds : Type 0 where
  -- where the call is done, the result's words join to the product of what the operands' words join to
  pub joins : (n : ℕ) (x y result work tape : List ℕ) → Words x → Words y → Words tape → (complex_call_answer n x y result work tape).number ≡ 0
      → let a = xor_all (number_of n 2 0 x) in let b = xor_all (number_of n 2 1 x) in let c = xor_all (number_of n 2 0 y) in let d = xor_all (number_of n 2 1 y) in
      joined_words n 2 (complex_result n x y result work tape) ≡ complex_re a b c d ∷ complex_im a b c d ∷ []
  -- its tape words are those of its calls; from the plans' own ANDs and ADDs
  pub tape : (n : ℕ) → 2 ≤ n → n ≤ 8 → (tape_for n complex_acts ≡ complex_tape n) × (complex_tape n ≡ 410 * (n * (n - 1)))
  pub secret : (n : ℕ) → 2 ≤ n → n ≤ 8 → (o : Operation) (step : ℕ) → step < length (program n (plan_of o)) → ComplexSecret n o step

-- ---- a layer

-- one share number for a step of an operation, whichever call of whichever layer it is a step of
pub record LayerSecret (n : ℕ) (o : Operation) (step : ℕ) : Type 0 where
  pub share : ℕ
  pub below : share < n
  -- numbers that agree in that share: its 2N words
  pub hidden : (N h : ℕ) (factors : List ℕ) → Words factors → (before : List Act) (k a b : ℕ) (after : List Act)
      → layer_acts N h factors ≡ before ++ (Call o k a b ∷ after) → (numbers numbers' : List ℕ) → Words numbers → Words numbers'
      → ((j : ℕ) → j < 2 * N → get_or numbers (2 * N * share + j) 0 ≡ get_or numbers' (2 * N * share + j) 0)
      → CallHidden n (layer_acts N h factors) before o a b step (layer_start n N numbers) (layer_start n N numbers')

pub record LayerHolds : Type 0 where
  -- where all is done, the plain call on what the numbers join to is done too, and the numbers join to what it leaves
  pub plain : (n N h : ℕ) (numbers factors work tape : List ℕ) → (layer_call_answer n N h numbers factors work tape).number ≡ 0
      → plain_call_answer N h (joined_words n (2 * N) numbers) factors ≡ done 0 0
  pub joins : (n N h : ℕ) (numbers factors work tape : List ℕ) → Words numbers → Words factors → Words tape
      → (layer_call_answer n N h numbers factors work tape).number ≡ 0
      → joined_words n (2 * N) (layer_numbers n N h numbers factors work tape) ≡ plain_numbers N h (joined_words n (2 * N) numbers) factors
  pub tape : (n N h : ℕ) (factors : List ℕ) → 2 ≤ n → n ≤ 8
      → (tape_for n (layer_acts N h factors) ≡ layer_tape n N) × (layer_tape n N ≡ N / 2 * (622 * (n * (n - 1))))
  pub secret : (n : ℕ) → 2 ≤ n → n ≤ 8 → (o : Operation) (step : ℕ) → step < length (program n (plan_of o)) → LayerSecret n o step

pub record Transforms : Type 0 where
  pub acts_join : ActsJoin
  pub acts_are_calls : ActsAreCalls
  pub acts_secret : ActsSecret
  pub complex : ComplexHolds
  pub layer : LayerHolds
