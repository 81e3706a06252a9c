-- All that is proved of the complex product and of a layer (`transforms`), in terms of the lent words: what holds of any list of acts (Joined,
-- Called, Secret), at the slots that these calls start from (Starts), with their tape words (Tape). Rests on Answered for what a done call was given,
-- and on Laid for reading results.
use mathlib.Core.Path.{◌≡◌, refl, sym, ap, ap₂, subst, ◌∙◌}
use mathlib.Core.List.{List, [], ◌∷◌}
use Prim.Native.Nat.{ℕ, ◌*◌, ◌≤◌, ◌<◌}
use native.Mathlib.Omega.{arith}
use lib.ListN.{length}
use borrow.Author.Tests.{eq-eqb}
use Rattle.checks.specs.declared.answer.Answer.{Answer}
use Rattle.checks.specs.Answers.{done, after_call}
use Rattle.masking.specs.Translation.{program}
use Rattle.masking.specs.Machine.{Words}
use Rattle.binary64.specs.Operations.{Operation}
use Rattle.plans.specs.BuiltIns.{plan_of}
use Rattle.split_join.specs.SplitJoin.{xor_all}
use Rattle.fft_numbers.specs.Acts.{Act, Slots, run_plain, tape_for}
use Rattle.fft_numbers.specs.Complex.{complex_acts, complex_re, complex_im, slot_of_part}
use Rattle.fft_numbers.specs.Layer.{layer_acts}
use Rattle.fft_numbers.specs.Layout.{number_of, as_words, joined_words}
use Rattle.fft_numbers.specs.Calls.{complex_tape, complex_start, complex_end, complex_shares, layer_tape, layer_start, layer_end, layer_shares, layer_call_answer, layer_numbers, plain_start, layer_words, plain_call_answer}
use Rattle.fft_numbers.specs.Secrecy.{PutsWords, CallHidden}
use Rattle.fft_numbers.specs.Holds.{joined_slots, ComplexSecret, ComplexHolds, LayerSecret, LayerHolds, Transforms}
use Rattle.fft_numbers.proofs.Laid.{mapped_size, mapped_same, read_back}
use Rattle.fft_numbers.proofs.Answered.{complex_ready, layer_ready, plain_done}
use Rattle.fft_numbers.proofs.Slots.{acts_shared}
use Rattle.fft_numbers.proofs.Joined.{acts_join}
use Rattle.fft_numbers.proofs.Called.{acts_are_calls}
use Rattle.fft_numbers.proofs.Secret.{acts_secret}
use Rattle.fft_numbers.proofs.Tape.{four_two, complex_units, layer_calls, layer_units}
use Rattle.fft_numbers.proofs.Starts.{complex_shared, complex_agree, layer_shared, layer_agree, layer_joined, layer_puts}

-- ---- the complex product
module _ (n : ℕ) (least : 2 ≤ n) (most : n ≤ 8) (x y tape : List ℕ) (wx : Words x) (wy : Words y) (wt : Words tape) (enough : complex_tape n ≤ length tape) where
  -- the result's numbers
  abbrev parts : ℕ → List ℕ
  parts j = (complex_end n x y tape).held (slot_of_part j)

  complex_joins : let a = xor_all (number_of n 2 0 x) in let b = xor_all (number_of n 2 1 x) in let c = xor_all (number_of n 2 0 y) in let d = xor_all (number_of n 2 1 y) in
      joined_words n 2 (complex_shares n x y tape) ≡ complex_re a b c d ∷ complex_im a b c d ∷ []
  unfolding complex_shares
  complex_joins =
      let begun = complex_start n x y in
      let all : tape_for n complex_acts ≤ length tape = omega (arith, four_two n) in
      let S = complex_shared n x y wx wy in
      let E = acts_shared n least most complex_acts begun tape tt S wt all in
      let joined = acts_join n least most complex_acts tt begun S tape wt all in
      let at : (j : ℕ) → j < 2 → xor_all (number_of n 2 j (as_words n 2 parts)) ≡ (run_plain complex_acts (joined_slots begun)).held (slot_of_part j) =
      λ j lj. ap xor_all (read_back n 2 parts j lj (E.held (slot_of_part j)).size) ∙ ap (λ (s : Slots ℕ). s.held (slot_of_part j)) joined in
      ap₂ (λ (r i : ℕ). r ∷ i ∷ []) (at 0 (omega arith)) (at 1 (omega arith))

complex_secret : (n : ℕ) → 2 ≤ n → n ≤ 8 → (o : Operation) (step : ℕ) → step < length (program n (plan_of o)) → ComplexSecret n o step
complex_secret n least most o step inside =
    let H = acts_secret n least most o step inside in
    record {
      share = H.share;
      below = H.below;
      hidden = λ before k a b after e x y x' y' wx wy wx' wy' g.
          subst (λ (acts : List Act). CallHidden n acts before o a b step (complex_start n x y) (complex_start n x' y')) (sym e)
          (H.hidden before k a b after (subst PutsWords e tt) (complex_start n x y) (complex_start n x' y') (complex_shared n x y wx wy) (complex_shared n x' y' wx' wy')
          (complex_agree n x y H.share H.below x' y' g));
    }

complex_holds : ComplexHolds
complex_holds =
    record {
      joins = λ n x y result work tape wx wy wt z.
          let R = complex_ready n (length x) (length y) (length result) (length work) (length tape) _ refl z in
          rw (eq-eqb _ 0 z) (complex_joins n R.least R.most x y tape wx wy wt R.enough);
      tape = λ n least most. (four_two n, complex_units n least most);
      secret = complex_secret;
    }

-- ---- a layer
module _ (n N h : ℕ) (least : 2 ≤ n) (most : n ≤ 8) (numbers factors tape : List ℕ) (wn : Words numbers) (wf : Words factors) (wt : Words tape)
    (enough : layer_tape n N ≤ length tape) where
  layer_joins : joined_words n (2 * N) (layer_shares n N h numbers factors tape) ≡ layer_words N h (joined_words n (2 * N) numbers) factors
  unfolding layer_shares layer_words
  layer_joins =
      let acts = layer_acts N h factors in
      let puts = layer_puts N h factors wf in
      let begun = layer_start n N numbers in
      let all : tape_for n acts ≤ length tape = omega (arith, layer_calls n N h factors) in
      let S = layer_shared n N numbers wn in
      let E = acts_shared n least most acts begun tape puts S wt all in
      let joined = acts_join n least most acts puts begun S tape wt all ∙ ap (run_plain acts) (layer_joined n N numbers) in
      let lent = (layer_end n N h numbers factors tape).lent in
      mapped_same (λ j. xor_all (number_of n (2 * N) j (as_words n (2 * N) lent))) (run_plain acts (plain_start (joined_words n (2 * N) numbers))).lent (2 * N)
      (λ j lj. ap xor_all (read_back n (2 * N) lent j lj (E.lent j).size) ∙ ap (λ (s : Slots ℕ). s.lent j) joined)

layer_secret : (n : ℕ) → 2 ≤ n → n ≤ 8 → (o : Operation) (step : ℕ) → step < length (program n (plan_of o)) → LayerSecret n o step
layer_secret n least most o step inside =
    let H = acts_secret n least most o step inside in
    record {
      share = H.share;
      below = H.below;
      hidden = λ N h factors wf before k a b after e numbers numbers' w w' g.
          subst (λ (acts : List Act). CallHidden n acts before o a b step (layer_start n N numbers) (layer_start n N numbers')) (sym e)
          (H.hidden before k a b after (subst PutsWords e (layer_puts N h factors wf)) (layer_start n N numbers) (layer_start n N numbers') (layer_shared n N numbers w) (layer_shared n N numbers' w')
          (layer_agree n N numbers H.share H.below numbers' g));
    }

-- the plain call, where the layer is done
layer_plain : (n N h : ℕ) (numbers factors work tape : List ℕ) → (layer_call_answer n N h numbers factors work tape).number ≡ 0
    → plain_call_answer N h (joined_words n (2 * N) numbers) factors ≡ done 0 0
layer_plain n N h numbers factors work tape z =
    let R = layer_ready n N h (length numbers) (length factors) (length work) (length tape) _ refl z in
    plain_done N h (length (joined_words n (2 * N) numbers)) (length factors) R.layer (mapped_size (λ j. xor_all (number_of n (2 * N) j numbers)) (2 * N)) R.factors_are

layer_holds : LayerHolds
layer_holds =
    record {
      plain = layer_plain;
      joins = λ n N h numbers factors work tape wn wf wt z.
          let R = layer_ready n N h (length numbers) (length factors) (length work) (length tape) _ refl z in
          let joined = joined_words n (2 * N) numbers in
          let e : joined_words n (2 * N) (layer_numbers n N h numbers factors work tape) ≡ layer_words N h joined factors =
          rw (eq-eqb _ 0 z) (layer_joins n N h R.least R.most numbers factors tape wn wf wt R.enough) in
          e ∙ sym (ap (λ (a : Answer). after_call a (layer_words N h joined factors) joined) (layer_plain n N h numbers factors work tape z));
      tape = λ n N h factors least most. (layer_calls n N h factors, layer_units n least most N);
      secret = layer_secret;
    }

pub transforms : Transforms
transforms = record { acts_join = acts_join; acts_are_calls = acts_are_calls; acts_secret = acts_secret; complex = complex_holds; layer = layer_holds }
