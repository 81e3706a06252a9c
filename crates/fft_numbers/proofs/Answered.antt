-- What holds where an answer is done: sizes, lengths, and tape enough; and that a call that is refused changes nothing. Rests on checks' Passed, word's Small and Powers.
use mathlib.Core.Path.{◌≡◌, refl, sym, ap, subst, ◌∙◌}
use mathlib.Core.List.{List}
use mathlib.Core.Bool.{true, not, ◌&&◌}
use Prim.Native.Nat.{ℕ, ◌*◌, ◌≤◌}
use native.Mathlib.Omega.{arith}
use lib.Dec.{ltb, eqb}
use borrow.Author.Tests.{ltb-false, eqb-true, eq-eqb, not-false}
use Rattle.checks.specs.declared.answer.Answer.{Answer}
use Rattle.word.specs.Layout.{is_share_count}
use Rattle.word.proofs.Small.{share_range}
use Rattle.checks.specs.declared.refusal.Refusal.{Refusal}
use Rattle.checks.specs.declared.refusal.Refusal.TheVariants.{ShareCount, TooLong, BadWord, Length, Place, Tape, Layer, Head}
use Rattle.checks.specs.Answers.{done, refused, refusal_of, after_call}
use Rattle.checks.proofs.Passed.{passed}
use Rattle.fft_numbers.specs.Layer.{is_layer, block_count}
use Rattle.fft_numbers.specs.Calls.{complex_tape, complex_answer, layer_tape, layer_answer, plain_layer_answer}
use Rattle.fft_numbers.proofs.Powers.{both}

-- where a layer on plain words is done
pub plain_done : (N h numbers factors : ℕ) → is_layer N h ≡ true → numbers ≡ 2 * N → factors ≡ 2 * block_count N h → plain_layer_answer N h numbers factors ≡ done 0 0
unfolding plain_layer_answer
plain_done N h numbers factors e n f = rw (e, eq-eqb numbers (2 * N) n, eq-eqb factors (2 * block_count N h) f)

pub record LayerReady (n N h numbers factors work tape : ℕ) : Type 0 where
  pub least : 2 ≤ n
  pub most : n ≤ 8
  pub layer : is_layer N h ≡ true
  pub numbers_are : numbers ≡ 2 * N * n
  pub factors_are : factors ≡ 2 * block_count N h
  pub work_is : work ≡ 512
  pub enough : layer_tape n N ≤ tape

pub layer_ready : (n N h numbers factors work tape : ℕ) (a : Answer) → a ≡ layer_answer n N h numbers factors work tape → a.number ≡ 0 → LayerReady n N h numbers factors work tape
unfolding layer_answer
layer_ready n N h numbers factors work tape a e z =
    let p₁ = passed (not (is_share_count n)) (refused 1) _ (λ e. omega arith) (sym (ap (λ (x : Answer). x.number) e) ∙ z) in
    let p₇ = passed (not (is_layer N h)) (refused 7) _ (λ e. omega arith) p₁.1 in
    let p₄ = passed (not (eqb numbers (2 * N * n) && (eqb factors (2 * block_count N h) && eqb work 512))) (refused 4) _ (λ e. omega arith) p₇.1 in
    let p₆ = passed (ltb tape (layer_tape n N)) (refused 6) _ (λ e. omega arith) p₄.1 in
    let s = share_range n (not-false (is_share_count n) p₁.0) in
    let l = both (eqb numbers (2 * N * n)) _ (not-false _ p₄.0) in
    let m = both (eqb factors (2 * block_count N h)) (eqb work 512) l.1 in
    record {
      least = s.0;
      most = s.1;
      layer = not-false (is_layer N h) p₇.0;
      numbers_are = eqb-true numbers (2 * N * n) l.0;
      factors_are = eqb-true factors (2 * block_count N h) m.0;
      work_is = eqb-true work 512 m.1;
      enough = ltb-false tape (layer_tape n N) p₆.0;
    }

pub record ComplexReady (n x y result work tape : ℕ) : Type 0 where
  pub least : 2 ≤ n
  pub most : n ≤ 8
  pub x_is : x ≡ 2 * n
  pub y_is : y ≡ 2 * n
  pub result_is : result ≡ 2 * n
  pub work_is : work ≡ 512
  pub enough : complex_tape n ≤ tape

pub complex_ready : (n x y result work tape : ℕ) (a : Answer) → a ≡ complex_answer n x y result work tape → a.number ≡ 0 → ComplexReady n x y result work tape
unfolding complex_answer
complex_ready n x y result work tape a e z =
    let p₁ = passed (not (is_share_count n)) (refused 1) _ (λ e. omega arith) (sym (ap (λ (x : Answer). x.number) e) ∙ z) in
    let p₄ = passed (not (eqb x (2 * n) && (eqb y (2 * n) && (eqb result (2 * n) && eqb work 512)))) (refused 4) _ (λ e. omega arith) p₁.1 in
    let p₆ = passed (ltb tape (complex_tape n)) (refused 6) _ (λ e. omega arith) p₄.1 in
    let s = share_range n (not-false (is_share_count n) p₁.0) in
    let k = both (eqb x (2 * n)) _ (not-false _ p₄.0) in
    let l = both (eqb y (2 * n)) _ k.1 in
    let m = both (eqb result (2 * n)) (eqb work 512) l.1 in
    record {
      least = s.0;
      most = s.1;
      x_is = eqb-true x (2 * n) k.0;
      y_is = eqb-true y (2 * n) l.0;
      result_is = eqb-true result (2 * n) m.0;
      work_is = eqb-true work 512 m.1;
      enough = ltb-false tape (complex_tape n) p₆.0;
    }

-- a call that is refused leaves what was lent as it was
pub refused_keeps : (e : Refusal) {a : Answer} → refusal_of e ≡ a → (after before : List ℕ) → before ≡ after_call a after before
refused_keeps e {a} q after before = subst (λ (x : Answer). before ≡ after_call x after before) q (by e)
  where
    by : (e : Refusal) → before ≡ after_call (refusal_of e) after before
    by ShareCount = refl
    by TooLong = refl
    by (BadWord place) = refl
    by Length = refl
    by Place = refl
    by Tape = refl
    by Layer = refl
    by Head = refl
