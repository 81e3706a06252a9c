-- What a layer on plain words means (`layer_means`): what one pair makes of its numbers, and by Places what all do one after another. Rests on Laws,
-- Powers and Laid.
use mathlib.Core.Path.{◌≡◌, refl, ◌∙◌}
use mathlib.Core.List.{List}
use Prim.Native.Nat.{ℕ, suc, ◌+◌, ◌*◌, ◌/◌, ◌%◌, ◌<◌}
use native.Mathlib.Decide.{dec_lt}
use lib.ListN.{get_or}
use Rattle.binary64.specs.Sum.{sum}
use Rattle.fft_numbers.specs.Acts.{Slots, flipped, run_plain}
use Rattle.fft_numbers.specs.Complex.{complex_re, complex_im}
use Rattle.fft_numbers.specs.Layer.{block_count, place_of, pair_acts, pair_of, first_pairs, layer_acts}
use Rattle.fft_numbers.specs.Calls.{plain_start, layer_words}
use Rattle.fft_numbers.specs.Means.{PairBecomes, LayerMeans}
use Rattle.fft_numbers.proofs.Laws.{plain_append}
use Rattle.fft_numbers.proofs.Powers.{Sizes, sizes, powers, every, pair_placed}
use Rattle.fft_numbers.proofs.Places.{at_pair, later_place, Four, u_re, u_im, v_re, v_im, index, among, Turned, put_own, put_others, whole}
use Rattle.fft_numbers.proofs.Laid.{mapped_at, mapped_size}

-- ---- a pair on plain words
module _ (re im : ℕ) (f : Four → ℕ) where
  abbrev wv_re : ℕ
  wv_re = complex_re re im (f v_re) (f v_im)

  abbrev wv_im : ℕ
  wv_im = complex_im re im (f v_re) (f v_im)

  abbrev made : Four → ℕ
  made u_re = sum (f u_re) wv_re
  made u_im = sum (f u_im) wv_im
  made v_re = sum (f u_re) (flipped wv_re)
  made v_im = sum (f u_im) (flipped wv_im)

pair_turned : (N h re im p : ℕ) → 0 < h → p + h < N → (s : Slots ℕ) → Turned N h p s.lent (made re im) (run_plain (pair_acts N h re im p) s).lent
pair_turned N h re im p some inside s =
    let v = made re im (λ y. s.lent (index N h p y)) in
    record { own = put_own N h p s.lent v some inside; others = put_others N h p s.lent v }

-- ---- the pairs one after another
module _ (N h : ℕ) (S : Sizes N h) (numbers factors : List ℕ) where
  -- the numbers after the first k pairs
  abbrev after : ℕ → Slots ℕ
  after k = run_plain (first_pairs N h factors k) (plain_start numbers)

  abbrev makes : ℕ → (Four → ℕ) → Four → ℕ
  makes k = made (get_or factors (k / h) 0) (get_or factors (block_count N h + k / h) 0)

  turned : (k : ℕ) → k < N / 2 → Turned N h (place_of h k) (after k).lent (makes k) (after (suc k)).lent
  turned k less =
      rw (plain_append (first_pairs N h factors k) (pair_of N h factors k) (plain_start numbers))
      (pair_turned N h (get_or factors (k / h) 0) (get_or factors (block_count N h + k / h) 0) (place_of h k) S.some (pair_placed N h k S less).inside (after k))

  becomes : (k : ℕ) → k < N / 2 → PairBecomes N h numbers factors (layer_words N h numbers factors) k
  unfolding layer_words
  becomes k less =
      let at = index N h (place_of h k) in
      let is : (x : Four) → get_or (layer_words N h numbers factors) (at x) 0 ≡ makes k (λ y. get_or numbers (at y) 0) x =
      λ x. mapped_at (after (N / 2)).lent (2 * N) (at x) (among N h (place_of h k) (pair_placed N h k S less).inside x)
      ∙ whole N h S makes (λ k. (after k).lent) (λ j. get_or numbers j 0) (λ j l. refl) turned k less x in
      record { plus_re = is u_re; plus_im = is u_im; minus_re = is v_re; minus_im = is v_im }

pub layer_means : LayerMeans
unfolding layer_words
layer_means =
    record {
      size = λ N h numbers factors. mapped_size (run_plain (layer_acts N h factors) (plain_start numbers)).lent (2 * N);
      pairs = λ N h numbers factors e. becomes N h (sizes N h e) numbers factors;
      rising = λ N h e. later_place h (sizes N h e).some;
      powers = powers;
      every = every;
      places = λ N h e j inside. at_pair N h (sizes N h e) j inside (dec_lt (j % (2 * h)) h);
    }
