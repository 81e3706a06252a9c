-- A layer on plain words: one pair's stores, and the loop over pairs. Rests on Laws and Powers.
use mathlib.Core.Path.{◌≡◌, refl, sym, ap, ap₂, subst, ◌∙◌}
use mathlib.Core.List.{List, map}
use Prim.Native.Nat.{ℕ, ◌+◌, ◌*◌, ◌/◌, ◌<◌}
use native.Mathlib.Nat.{zero-add}
use native.Mathlib.Numerals.{add-one}
use native.Mathlib.Decide.{ℕ_discrete}
use native.Mathlib.Omega.{arith}
use lib.ListN.{length, get_or, set, length-set, length-map}
use lib.Seq.{ext_get_or, get_or-set_same, get_or-set_other}
use borrow.Author.Tests.{eq-eqb, ne_eqb}
use Rattle.masking.specs.Translation.{up_from}
use Rattle.masking.proofs.emitted.Rising.{length_from, get_d_from}
use Rattle.binary64.specs.Sum.{sum}
use Rattle.fft_numbers.specs.Acts.{Act, with, flipped, run_plain}
use Rattle.fft_numbers.specs.Complex.{complex_re, complex_im}
use Rattle.fft_numbers.specs.Layer.{pair_acts, pair_of, first_pairs, layer_acts}
use Rattle.fft_numbers.specs.Calls.{plain_start, layer_words}
use Rattle.fft_sizes.specs.declared.pair.Pair.{Pair}
use Rattle.fft_sizes.specs.inner.Inner.{acts_of, IsPair}
use Rattle.fft_plain.specs.inner.Inner.{PlainLent, PlainDone}
use Rattle.fft_numbers.proofs.Laws.{plain_append}

-- a word stored is a number put in place
lent_set : (S : ℕ) (l : List ℕ) (f : ℕ → ℕ) (k v w : ℕ) → length l ≡ S → k < S → v ≡ w → ((j : ℕ) → j < S → get_or l j 0 ≡ f j) → (j : ℕ) → j < S → get_or (set l k v) j 0 ≡ with f k w j
lent_set S l f k v w size inside e h j lj = by (ℕ_discrete j k)
  where
    by : Dec (j ≡ k) → get_or (set l k v) j 0 ≡ with f k w j
    by (yes q) = rw (eq-eqb j k q, q) (get_or-set_same l k v 0 (omega arith) ∙ e)
    by (no q) = rw (ne_eqb j k q) (get_or-set_other l k j v 0 q ∙ h j lj)

module _ (N h re im p : ℕ) (numbers : List ℕ) (size : length numbers ≡ 2 * N) (inside : p + h < N) where
  abbrev w_re : ℕ
  w_re = complex_re re im (get_or numbers (p + h) 0) (get_or numbers (N + (p + h)) 0)

  abbrev w_im : ℕ
  w_im = complex_im re im (get_or numbers (p + h) 0) (get_or numbers (N + (p + h)) 0)

  pub pair_done : {x y z w : ℕ} → x ≡ sum (get_or numbers p 0) w_re → y ≡ sum (get_or numbers (N + p) 0) w_im → z ≡ sum (get_or numbers p 0) (flipped w_re)
      → w ≡ sum (get_or numbers (N + p) 0) (flipped w_im)
      → PlainDone (2 * N) (pair_acts N h re im p) numbers (set (set (set (set numbers p x) (N + p) y) (p + h) z) (N + (p + h)) w)
  pair_done {x} {y} {z} {w} ex ey ez ew s L =
      let l₁ = set numbers p x in
      let l₂ = set l₁ (N + p) y in
      let l₃ = set l₂ (p + h) z in
      let s₁ : length l₁ ≡ 2 * N = length-set numbers p x ∙ size in
      let s₂ : length l₂ ≡ 2 * N = length-set l₁ (N + p) y ∙ s₁ in
      let s₃ : length l₃ ≡ 2 * N = length-set l₂ (p + h) z ∙ s₂ in
      let u = L.each p (omega arith) in
      let v = L.each (N + p) (omega arith) in
      let c = L.each (p + h) (omega arith) in
      let d = L.each (N + (p + h)) (omega arith) in
      let r = ap₂ (complex_re re im) c d in
      let i = ap₂ (complex_im re im) c d in
      record {
        size = length-set l₃ (N + (p + h)) w ∙ s₃;
        each = lent_set (2 * N) l₃ _ (N + (p + h)) w _ s₃ (omega arith) (ew ∙ ap₂ (λ (x y : ℕ). sum x (flipped y)) v i)
            (lent_set (2 * N) l₂ _ (p + h) z _ s₂ (omega arith) (ez ∙ ap₂ (λ (x y : ℕ). sum x (flipped y)) u r)
            (lent_set (2 * N) l₁ _ (N + p) y _ s₁ (omega arith) (ey ∙ ap₂ sum v i)
            (lent_set (2 * N) numbers s.lent p x _ size (omega arith) (ex ∙ ap₂ sum u r) L.each)));
      }

module _ (N h : ℕ) (numbers factors : List ℕ) where
  -- the first k pairs are done
  abbrev pub PairsDone : ℕ → List ℕ → Type 0
  PairsDone k l = PlainLent (2 * N) l (run_plain (first_pairs N h factors k) (plain_start numbers))

  pub none_done : length numbers ≡ 2 * N → PairsDone 0 numbers
  none_done e = record { size = e; each = λ j lj. refl }

  pub one_done : (k : ℕ) {l l' : List ℕ} → PairsDone k l → (p : Pair) → IsPair N h factors k p → PlainDone (2 * p.layer.count) (acts_of p) l l' → PairsDone (k + 1) l'
  one_done k {l} {l'} P p I done =
      let D : PlainDone (2 * N) (pair_of N h factors k) l l' =
      subst (λ (cs : List Act). PlainDone (2 * N) cs l l') I.acts (subst (λ (m : ℕ). PlainDone (2 * m) (acts_of p) l l') I.count done) in
      let e = ap (λ (m : ℕ). run_plain (first_pairs N h factors m) (plain_start numbers)) (add-one k) ∙ plain_append (first_pairs N h factors k) (pair_of N h factors k) (plain_start numbers) in
      rw e (D _ P)

  pub all_done : {l : List ℕ} → PairsDone (N / 2) l → l ≡ layer_words N h numbers factors
  unfolding layer_words
  all_done {l} P =
      let f = (run_plain (layer_acts N h factors) (plain_start numbers)).lent in
      ext_get_or 0 l (map f (up_from 0 (2 * N))) (P.size ∙ sym (length-map (up_from 0 (2 * N)) f ∙ length_from 0 (2 * N)))
      (λ i li. P.each i (omega (arith, P.size)) ∙ sym (get_d_from f 0 (2 * N) i (omega (arith, P.size)) ∙ ap f (zero-add i)))
