-- The calls of document 02's No. 5, on shares and on plain words: their answers and what they leave in the lent words. "Both calls are told n;
-- checks (1, 4, 6), work slice and count are as for the product." "Checks: new 7 ..; it comes right after 1."
use Rattle.std.specs.Prelude.{not, cond, ◌&&◌, List, map, ℕ, ◌+◌, ◌*◌, ◌/◌, ltb, eqb, length, get_or, replicate}
use Rattle.checks.specs.declared.answer.Answer.{Answer}
use Rattle.word.specs.Layout.{is_share_count}
use Rattle.checks.specs.Answers.{done, refused, given, after_call}
use Rattle.masking.specs.Translation.{up_from}
use Rattle.masking.specs.Foretold.{foretold_tape}
use Rattle.plans.specs.words.ProductPlan.{product_plan}
use Rattle.plans.specs.words.SumPlan.{sum_plan}
use Rattle.fft_numbers.specs.Acts.{Slots, run_plain, run_shares}
use Rattle.fft_numbers.specs.Complex.{operands, complex_acts, slot_of_part}
use Rattle.fft_numbers.specs.Layer.{is_layer, block_count, layer_acts}
use Rattle.fft_numbers.specs.Layout.{number_of, as_words}

-- ---- the complex product on n shares

-- "four products, then one sum each"
abbrev pub complex_tape : ℕ → ℕ
complex_tape n = 4 * foretold_tape n product_plan + 2 * foretold_tape n sum_plan

-- by lengths: the operands and the result have 2n words
unfoldable pub complex_answer : ℕ → ℕ → ℕ → ℕ → ℕ → ℕ → Answer
complex_answer n x y result work tape =
    given (not (is_share_count n)) (refused 1)
    (given (not (eqb x (2 * n) && (eqb y (2 * n) && (eqb result (2 * n) && eqb work 512)))) (refused 4)
    (given (ltb tape (complex_tape n)) (refused 6)
    (done 0 (complex_tape n))))

abbrev pub complex_start : ℕ → List ℕ → List ℕ → Slots (List ℕ)
complex_start n x y = operands (replicate n 0) (number_of n 2 0 x) (number_of n 2 1 x) (number_of n 2 0 y) (number_of n 2 1 y)

abbrev pub complex_end : ℕ → List ℕ → List ℕ → List ℕ → Slots (List ℕ)
complex_end n x y tape = run_shares n complex_acts tape (complex_start n x y)

-- the result's words: real part, imaginary part
unfoldable pub complex_shares : ℕ → List ℕ → List ℕ → List ℕ → List ℕ
complex_shares n x y tape = as_words n 2 (λ j. (complex_end n x y tape).held (slot_of_part j))

module _ (n : ℕ) (x y result work tape : List ℕ) where
  abbrev pub complex_call_answer : Answer
  complex_call_answer = complex_answer n (length x) (length y) (length result) (length work) (length tape)

  abbrev pub complex_result : List ℕ
  complex_result = after_call complex_call_answer (complex_shares n x y tape) result

  abbrev pub complex_work : List ℕ
  complex_work = after_call complex_call_answer (replicate 512 0) work

-- ---- a layer on n shares

-- for each of N/2 pairs four products and six sums
abbrev pub layer_tape : ℕ → ℕ → ℕ
layer_tape n N = N / 2 * (4 * foretold_tape n product_plan + 6 * foretold_tape n sum_plan)

unfoldable pub layer_answer : ℕ → ℕ → ℕ → ℕ → ℕ → ℕ → ℕ → Answer
layer_answer n N h numbers factors work tape =
    given (not (is_share_count n)) (refused 1)
    (given (not (is_layer N h)) (refused 7)
    (given (not (eqb numbers (2 * N * n) && (eqb factors (2 * block_count N h) && eqb work 512))) (refused 4)
    (given (ltb tape (layer_tape n N)) (refused 6)
    (done 0 (layer_tape n N)))))

-- the lent numbers are 2N
abbrev pub layer_start : ℕ → ℕ → List ℕ → Slots (List ℕ)
layer_start n N numbers =
    record {
      held = λ k. replicate n 0;
      lent = λ j. cond (ltb j (2 * N)) (number_of n (2 * N) j numbers) (replicate n 0);
    }

abbrev pub layer_end : ℕ → ℕ → ℕ → List ℕ → List ℕ → List ℕ → Slots (List ℕ)
layer_end n N h numbers factors tape = run_shares n (layer_acts N h factors) tape (layer_start n N numbers)

unfoldable pub layer_shares : ℕ → ℕ → ℕ → List ℕ → List ℕ → List ℕ → List ℕ
layer_shares n N h numbers factors tape = as_words n (2 * N) (layer_end n N h numbers factors tape).lent

module _ (n N h : ℕ) (numbers factors work tape : List ℕ) where
  abbrev pub layer_call_answer : Answer
  layer_call_answer = layer_answer n N h (length numbers) (length factors) (length work) (length tape)

  abbrev pub layer_numbers : List ℕ
  layer_numbers = after_call layer_call_answer (layer_shares n N h numbers factors tape) numbers

  abbrev pub layer_work : List ℕ
  layer_work = after_call layer_call_answer (replicate 512 0) work

-- ---- a layer on plain words: N real parts, then N imaginary parts; no tape, no counts

unfoldable pub plain_layer_answer : ℕ → ℕ → ℕ → ℕ → Answer
plain_layer_answer N h numbers factors =
    given (not (is_layer N h)) (refused 7)
    (given (not (eqb numbers (2 * N) && eqb factors (2 * block_count N h))) (refused 4)
    (done 0 0))

abbrev pub plain_start : List ℕ → Slots ℕ
plain_start numbers = record { held = λ k. 0; lent = λ j. get_or numbers j 0 }

abbrev pub plain_end : ℕ → ℕ → List ℕ → List ℕ → Slots ℕ
plain_end N h numbers factors = run_plain (layer_acts N h factors) (plain_start numbers)

unfoldable pub layer_words : ℕ → ℕ → List ℕ → List ℕ → List ℕ
layer_words N h numbers factors = map (plain_end N h numbers factors).lent (up_from 0 (2 * N))

module _ (N h : ℕ) (numbers factors : List ℕ) where
  abbrev pub plain_call_answer : Answer
  plain_call_answer = plain_layer_answer N h (length numbers) (length factors)

  abbrev pub plain_numbers : List ℕ
  plain_numbers = after_call plain_call_answer (layer_words N h numbers factors) numbers
