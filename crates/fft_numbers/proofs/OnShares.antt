-- What the complex product, a pair and a layer come to on shares (`on_shares_means`): the first two by computation, with the tape words of the calls
-- before each call added up; a layer by Places, with those of the pairs before, and Laid for reading the lent words.
use mathlib.Core.Path.{◌≡◌, refl, ap, ◌∙◌}
use mathlib.Core.List.{List}
use Prim.Native.Nat.{ℕ, suc, ◌+◌, ◌-◌, ◌*◌, ◌/◌, ◌≤◌, ◌<◌}
use native.Mathlib.Omega.{arith}
use lib.ListN.{length, get_or, drop}
use lib.Seq.{drop-drop}
use borrow.Author.Tests.{lt-ltb}
use Rattle.masking.specs.Foretold.{foretold_tape}
use Rattle.plans.specs.words.ProductPlan.{product_plan}
use Rattle.plans.specs.words.SumPlan.{sum_plan}
use Rattle.masked_call.specs.Shares.{result_shares}
use Rattle.masked_call.proofs.Beside.{result_size}
use Rattle.fft_numbers.specs.Acts.{Slots, plain_shares, flipped_first, tape_for, run_shares}
use Rattle.fft_numbers.specs.Complex.{slot_a, slot_b, slot_c, slot_d, slot_of_part}
use Rattle.fft_numbers.specs.Layer.{block_count, place_of, pair_of, first_pairs}
use Rattle.fft_numbers.specs.Layout.{number_of}
use Rattle.fft_numbers.specs.Calls.{complex_start, complex_end, complex_shares, layer_start, layer_end, layer_shares}
use Rattle.fft_numbers.specs.Means.{re_from, im_from, pair_after, PairOnShares, ComplexComesTo, PairComesTo, OnSharesMeans}
use Rattle.fft_numbers.proofs.Laws.{shares_append}
use Rattle.fft_numbers.proofs.Laid.{laid_size, read_back}
use Rattle.fft_numbers.proofs.Tape.{pairs_tape, pair_units}
use Rattle.fft_numbers.proofs.Powers.{Sizes, sizes, pair_placed}
use Rattle.fft_numbers.proofs.Places.{Four, u_re, u_im, v_re, v_im, index, among, Turned, put_own, put_others, whole}

-- k words dropped, and then m
then_dropped : (tape rest : List ℕ) (k m t : ℕ) → rest ≡ drop k tape → k + m ≡ t → drop m rest ≡ drop t tape
then_dropped tape rest k m t e f = ap (drop m) e ∙ drop-drop m k tape ∙ ap (λ (j : ℕ). drop j tape) f

-- ---- by the tape from each call on: of a complex product, and what a pair makes of its four numbers
module _ (n : ℕ) where
  abbrev times : List ℕ → List ℕ → List ℕ → List ℕ
  times t x y = result_shares product_plan n x y t

  abbrev plus : List ℕ → List ℕ → List ℕ → List ℕ
  plus t x y = result_shares sum_plan n x y t

  abbrev real : (t₀ t₁ t₄ a b c d : List ℕ) → List ℕ
  real t₀ t₁ t₄ a b c d = plus t₄ (times t₀ a c) (flipped_first (times t₁ b d))

  abbrev imaginary : (t₂ t₃ t₅ a b c d : List ℕ) → List ℕ
  imaginary t₂ t₃ t₅ a b c d = plus t₅ (times t₂ a d) (times t₃ b c)

  module _ (t₀ t₁ t₂ t₃ t₄ t₅ t₆ t₇ t₈ t₉ : List ℕ) (re im : ℕ) (f : Four → List ℕ) where
    abbrev wv_re : List ℕ
    wv_re = real t₀ t₁ t₄ (plain_shares n re) (plain_shares n im) (f v_re) (f v_im)

    abbrev wv_im : List ℕ
    wv_im = imaginary t₂ t₃ t₅ (plain_shares n re) (plain_shares n im) (f v_re) (f v_im)

    abbrev made : Four → List ℕ
    made u_re = plus t₆ (f u_re) wv_re
    made u_im = plus t₇ (f u_im) wv_im
    made v_re = plus t₈ (f u_re) (flipped_first wv_re)
    made v_im = plus t₉ (f u_im) (flipped_first wv_im)

    made_size : (x : Four) → length (made x) ≡ n
    made_size u_re = result_size n sum_plan (f u_re) wv_re t₆
    made_size u_im = result_size n sum_plan (f u_im) wv_im t₇
    made_size v_re = result_size n sum_plan (f u_re) (flipped_first wv_re) t₈
    made_size v_im = result_size n sum_plan (f u_im) (flipped_first wv_im) t₉

module _ (n : ℕ) (tape : List ℕ) where
  abbrev P : ℕ
  P = foretold_tape n product_plan

  abbrev S : ℕ
  S = foretold_tape n sum_plan

  -- the tape from each call on: four products, then the sums
  abbrev t₁ : List ℕ
  t₁ = drop P tape

  abbrev t₂ : List ℕ
  t₂ = drop P t₁

  abbrev t₃ : List ℕ
  t₃ = drop P t₂

  abbrev t₄ : List ℕ
  t₄ = drop P t₃

  abbrev t₅ : List ℕ
  t₅ = drop S t₄

  abbrev t₆ : List ℕ
  t₆ = drop S t₅

  abbrev t₇ : List ℕ
  t₇ = drop S t₆

  abbrev t₈ : List ℕ
  t₈ = drop S t₇

  abbrev t₉ : List ℕ
  t₉ = drop S t₈

  at₂ : t₂ ≡ drop (2 * P) tape
  at₂ = then_dropped tape t₁ P P (2 * P) refl (omega arith)

  at₃ : t₃ ≡ drop (3 * P) tape
  at₃ = then_dropped tape t₂ (2 * P) P (3 * P) at₂ (omega arith)

  at₄ : t₄ ≡ drop (4 * P) tape
  at₄ = then_dropped tape t₃ (3 * P) P (4 * P) at₃ (omega arith)

  at₅ : t₅ ≡ drop (4 * P + S) tape
  at₅ = then_dropped tape t₄ (4 * P) S (4 * P + S) at₄ (omega arith)

  at₆ : t₆ ≡ drop (4 * P + 2 * S) tape
  at₆ = then_dropped tape t₅ (4 * P + S) S (4 * P + 2 * S) at₅ (omega arith)

  at₇ : t₇ ≡ drop (4 * P + 3 * S) tape
  at₇ = then_dropped tape t₆ (4 * P + 2 * S) S (4 * P + 3 * S) at₆ (omega arith)

  at₈ : t₈ ≡ drop (4 * P + 4 * S) tape
  at₈ = then_dropped tape t₇ (4 * P + 3 * S) S (4 * P + 4 * S) at₇ (omega arith)

  at₉ : t₉ ≡ drop (4 * P + 5 * S) tape
  at₉ = then_dropped tape t₈ (4 * P + 4 * S) S (4 * P + 5 * S) at₈ (omega arith)

  abbrev from : ℕ → List ℕ
  from t = drop t tape

  complex_comes_to : (s : Slots (List ℕ)) → ComplexComesTo n tape s
  complex_comes_to s =
      let a = s.held slot_a in
      let b = s.held slot_b in
      let c = s.held slot_c in
      let d = s.held slot_d in
      record { re = λ i. real n tape t₁ (at₄ i) a b c d; im = λ i. imaginary n (at₂ i) (at₃ i) (at₅ i) a b c d }

  -- as the calls of a pair come, and by the words of the whole tape
  abbrev comes : ℕ → ℕ → (Four → List ℕ) → Four → List ℕ
  comes = made n tape t₁ t₂ t₃ t₄ t₅ t₆ t₇ t₈ t₉

  abbrev makes : ℕ → ℕ → (Four → List ℕ) → Four → List ℕ
  makes = made n tape t₁ (from (2 * P)) (from (3 * P)) (from (4 * P)) (from (4 * P + S)) (from (4 * P + 2 * S)) (from (4 * P + 3 * S)) (from (4 * P + 4 * S)) (from (4 * P + 5 * S))

  pair_turned : (s : Slots (List ℕ)) (N h re im p : ℕ) → 0 < h → p + h < N → Turned N h p s.lent (makes re im) (pair_after n tape s N h re im p).lent
  pair_turned s N h re im p some inside =
      let f : Four → List ℕ = λ y. s.lent (index N h p y) in
      let v = comes re im f in
      record {
        own = λ x. put_own N h p s.lent v some inside x ∙ λ i. made n tape t₁ (at₂ i) (at₃ i) (at₄ i) (at₅ i) (at₆ i) (at₇ i) (at₈ i) (at₉ i) re im f x;
        others = put_others N h p s.lent v;
      }

  makes_size : (re im : ℕ) (f : Four → List ℕ) (x : Four) → length (makes re im f x) ≡ n
  makes_size = made_size n tape t₁ (from (2 * P)) (from (3 * P)) (from (4 * P)) (from (4 * P + S)) (from (4 * P + 2 * S)) (from (4 * P + 3 * S)) (from (4 * P + 4 * S)) (from (4 * P + 5 * S))

-- the four equations as a record
on_shares : (n : ℕ) (tape : List ℕ) (N h re im p : ℕ) (before after : ℕ → List ℕ)
    → ((x : Four) → after (index N h p x) ≡ makes n tape re im (λ y. before (index N h p y)) x) → PairOnShares n tape N h re im p before after
on_shares n tape N h re im p before after is = record { plus_re = is u_re; plus_im = is u_im; minus_re = is v_re; minus_im = is v_im }

pair_comes_to : (n : ℕ) (tape : List ℕ) (s : Slots (List ℕ)) (N h re im p : ℕ) → 0 < h → p + h < N → PairComesTo n tape s N h re im p
pair_comes_to n tape s N h re im p some inside =
    let T = pair_turned n tape s N h re im p some inside in
    record {
      own = on_shares n tape N h re im p s.lent (pair_after n tape s N h re im p).lent T.own;
      others = λ j x y z w. T.others j (none j x y z w);
    }
  where
    none : (j : ℕ) → (j ≡ p → ⊥) → (j ≡ N + p → ⊥) → (j ≡ p + h → ⊥) → (j ≡ N + (p + h) → ⊥) → (x : Four) → j ≡ index N h p x → ⊥
    none j x y z w u_re = x
    none j x y z w u_im = y
    none j x y z w v_re = z
    none j x y z w v_im = w

-- ---- a layer: pair k over the tape from word k·622·n(n − 1) on
module _ (n N h : ℕ) (least : 2 ≤ n) (most : n ≤ 8) (S : Sizes N h) (numbers factors tape : List ℕ) where
  abbrev part : ℕ → List ℕ
  part k = drop (k * (622 * (n * (n - 1)))) tape

  abbrev re : ℕ → ℕ
  re k = get_or factors (k / h) 0

  abbrev im : ℕ → ℕ
  im k = get_or factors (block_count N h + k / h) 0

  -- the numbers after the first k pairs, and after one more
  abbrev after : ℕ → Slots (List ℕ)
  after k = run_shares n (first_pairs N h factors k) tape (layer_start n N numbers)

  one_more : (k : ℕ) → after (suc k) ≡ pair_after n (part k) (after k) N h (re k) (im k) (place_of h k)
  one_more k =
      let used : tape_for n (first_pairs N h factors k) ≡ k * (622 * (n * (n - 1))) = pairs_tape n N h factors k ∙ ap (λ (w : ℕ). k * w) (pair_units n least most) in
      shares_append n (first_pairs N h factors k) (pair_of N h factors k) tape (layer_start n N numbers)
      ∙ ap (λ (w : ℕ). run_shares n (pair_of N h factors k) (drop w tape) (after k)) used

  turned : (k : ℕ) → k < N / 2 → Turned N h (place_of h k) (after k).lent (makes n (part k) (re k) (im k)) (after (suc k)).lent
  turned k less = rw (one_more k) (pair_turned n (part k) (after k) N h (re k) (im k) (place_of h k) S.some (pair_placed N h k S less).inside)

  abbrev number : List ℕ → ℕ → List ℕ
  number words j = number_of n (2 * N) j words

  as_lent : (j : ℕ) → j < 2 * N → (after 0).lent j ≡ number numbers j
  as_lent j l = rw (lt-ltb j (2 * N) l)

  layer_comes_to : (k : ℕ) → k < N / 2 → PairOnShares n (part k) N h (re k) (im k) (place_of h k) (number numbers) (number (layer_shares n N h numbers factors tape))
  unfolding layer_shares
  layer_comes_to k less =
      let p = place_of h k in
      let at = index N h p in
      let own = whole N h S (λ k. makes n (part k) (re k) (im k)) (λ k. (after k).lent) (number numbers) as_lent turned k less in
      on_shares n (part k) N h (re k) (im k) p (number numbers) (number (layer_shares n N h numbers factors tape))
      (λ x. read_back n (2 * N) (after (N / 2)).lent (at x) (among N h p (pair_placed N h k S less).inside x)
      (ap length (own x) ∙ makes_size n (part k) (re k) (im k) (λ y. number numbers (at y)) x) ∙ own x)

-- ---- the complex product in the lent words
module _ (n : ℕ) (x y tape : List ℕ) where
  abbrev parts : ℕ → List ℕ
  parts j = (complex_end n x y tape).held (slot_of_part j)

  abbrev done : ComplexComesTo n tape (complex_start n x y)
  done = complex_comes_to n tape (complex_start n x y)

  complex_re_is : number_of n 2 0 (complex_shares n x y tape) ≡ re_from n tape (number_of n 2 0 x) (number_of n 2 1 x) (number_of n 2 0 y) (number_of n 2 1 y)
  unfolding complex_shares
  complex_re_is = read_back n 2 parts 0 (omega arith) (ap length done.re ∙ result_size n sum_plan _ _ _) ∙ done.re

  complex_im_is : number_of n 2 1 (complex_shares n x y tape) ≡ im_from n tape (number_of n 2 0 x) (number_of n 2 1 x) (number_of n 2 0 y) (number_of n 2 1 y)
  unfolding complex_shares
  complex_im_is = read_back n 2 parts 1 (omega arith) (ap length done.im ∙ result_size n sum_plan _ _ _) ∙ done.im

  complex_size : length (complex_shares n x y tape) ≡ 2 * n
  unfolding complex_shares
  complex_size = laid_size n 2 parts

pub on_shares_means : OnSharesMeans
unfolding layer_shares
on_shares_means =
    record {
      complex = complex_comes_to;
      complex_re_is = complex_re_is;
      complex_im_is = complex_im_is;
      complex_size = complex_size;
      pair = pair_comes_to;
      layer = λ n N h numbers factors tape least most e. layer_comes_to n N h least most (sizes N h e) numbers factors tape;
      layer_size = λ n N h numbers factors tape. laid_size n (2 * N) (layer_end n N h numbers factors tape).lent;
    }
