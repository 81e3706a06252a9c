-- The tape words that the complex product and a layer on shares report: a call that is done reports what its calls take together. Rests on Tape's
-- figures and on operations' laws of answers.
use mathlib.Core.Path.{◌≡◌, ap, ◌∙◌}
use mathlib.Core.Bool.{Bool, true, not, ◌&&◌}
use Prim.Native.Nat.{ℕ, ◌*◌, ◌≤◌}
use native.Mathlib.Nat.{le_trans, le_of_eq}
use native.Mathlib.Omega.{arith}
use lib.Dec.{ltb, eqb}
use lib.ListN.{length}
use borrow.Author.Tests.{le-leb, le-ltb, eq-eqb}
use Rattle.word.specs.Layout.{is_share_count}
use Rattle.checks.specs.declared.answer.Answer.{Answer}
use Rattle.checks.specs.Answers.{done, refused, given}
use Rattle.checks.proofs.Passed.{passed}
use Rattle.operations.proofs.Tape.{next_is, shares_are, after_three}
use Rattle.fft_numbers.specs.Calls.{complex_tape, complex_answer, layer_tape, layer_answer}
use Rattle.fft_numbers.specs.Layer.{is_layer, block_count}
use Rattle.fft_numbers.specs.RandomWords.{TransformWords}
use Rattle.fft_numbers.proofs.Tape.{complex_units, layer_units}

-- ---- an answer that is done
complex_done : (n x y result work tape : ℕ) → (complex_answer n x y result work tape).number ≡ 0
    → (complex_answer n x y result work tape ≡ done 0 (complex_tape n)) × (2 ≤ n) × (n ≤ 8)
unfolding complex_answer
complex_done n x y result work tape z =
    let b₁ : Bool = not (is_share_count n) in
    let b₄ : Bool = not (eqb x (2 * n) && (eqb y (2 * n) && (eqb result (2 * n) && eqb work 512))) in
    let b₆ : Bool = ltb tape (complex_tape n) in
    let s = shares_are n (given b₄ (refused 4) (given b₆ (refused 6) (done 0 (complex_tape n)))) z in
    (after_three b₁ b₄ b₆ 1 4 6 (complex_tape n) (λ e. omega arith) (λ e. omega arith) (λ e. omega arith) z, s.0, s.1)

layer_done : (n N h numbers factors work tape : ℕ) → (layer_answer n N h numbers factors work tape).number ≡ 0
    → (layer_answer n N h numbers factors work tape ≡ done 0 (layer_tape n N)) × (2 ≤ n) × (n ≤ 8)
unfolding layer_answer
layer_done n N h numbers factors work tape z =
    let b₁ : Bool = not (is_share_count n) in
    let b₇ : Bool = not (is_layer N h) in
    let b₄ : Bool = not (eqb numbers (2 * N * n) && (eqb factors (2 * block_count N h) && eqb work 512)) in
    let b₆ : Bool = ltb tape (layer_tape n N) in
    let rest : Answer = given b₇ (refused 7) (given b₄ (refused 4) (given b₆ (refused 6) (done 0 (layer_tape n N)))) in
    let s = shares_are n rest z in
    let p₁ = passed b₁ (refused 1) rest (λ e. omega arith) z in
    (next_is b₁ 1 rest (λ e. omega arith) z ∙ after_three b₇ b₄ b₆ 7 4 6 (layer_tape n N) (λ e. omega arith) (λ e. omega arith) (λ e. omega arith) p₁.1, s.0, s.1)

-- ---- an answer whose tests all pass
complex_passes : (n x y result work tape : ℕ) → 2 ≤ n → n ≤ 8 → x ≡ 2 * n → y ≡ 2 * n → result ≡ 2 * n → work ≡ 512 → complex_tape n ≤ tape
    → complex_answer n x y result work tape ≡ done 0 (complex_tape n)
unfolding complex_answer
complex_passes n x y result work tape least most ex ey er ew enough =
    rw
    (le-leb 2 n least, le-leb n 8 most, eq-eqb x (2 * n) ex, eq-eqb y (2 * n) ey, eq-eqb result (2 * n) er, eq-eqb work 512 ew, le-ltb tape (complex_tape n) enough)

layer_passes : (n N h numbers factors work tape : ℕ) → 2 ≤ n → n ≤ 8 → is_layer N h ≡ true → numbers ≡ 2 * N * n → factors ≡ 2 * block_count N h → work ≡ 512 → layer_tape n N ≤ tape
    → layer_answer n N h numbers factors work tape ≡ done 0 (layer_tape n N)
unfolding layer_answer
layer_passes n N h numbers factors work tape least most s en ef ew enough =
    rw
    (le-leb 2 n least, le-leb n 8 most, s, eq-eqb numbers (2 * N * n) en, eq-eqb factors (2 * block_count N h) ef, eq-eqb work 512 ew, le-ltb tape (layer_tape n N) enough)

pub transform_words : TransformWords
transform_words =
    record {
      complex =
          λ n x y result work tape z. let d = complex_done n (length x) (length y) (length result) (length work) (length tape) z in
          ap (λ (a : Answer). a.tape) d.0 ∙ complex_units n d.1 d.2;
      complex_shares = λ n x y result work tape z. let d = complex_done n (length x) (length y) (length result) (length work) (length tape) z in (d.1, d.2);
      complex_enough =
          λ n x y result work tape least most ex ey er ew fits. let u = complex_units n least most in
          complex_passes n (length x) (length y) (length result) (length work) (length tape) least most ex ey er ew (le_trans (le_of_eq u) fits) ∙ ap (done 0) u;
      layer =
          λ n N h numbers factors work tape z. let d = layer_done n N h (length numbers) (length factors) (length work) (length tape) z in
          ap (λ (a : Answer). a.tape) d.0 ∙ layer_units n d.1 d.2 N;
      layer_shares = λ n N h numbers factors work tape z. let d = layer_done n N h (length numbers) (length factors) (length work) (length tape) z in (d.1, d.2);
      layer_enough =
          λ n N h numbers factors work tape least most s en ef ew fits. let u = layer_units n least most N in
          layer_passes n N h (length numbers) (length factors) (length work) (length tape) least most s en ef ew (le_trans (le_of_eq u) fits) ∙ ap (done 0) u;
    }
