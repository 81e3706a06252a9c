-- The pairs of a layer on shares: what the loop over them keeps. Rests on fft_numbers's Laws, Tape and Laid, and on fft_slots' Holding.
use mathlib.Core.Path.{◌≡◌, refl, sym, ap, subst, ◌∙◌}
use mathlib.Core.List.{List}
use Prim.Native.Nat.{ℕ, suc, ◌+◌, ◌*◌, ◌/◌, ◌≤◌, ◌<◌}
use native.Mathlib.Nat.{mul-le-mul_right}
use native.Mathlib.Numerals.{add-one}
use native.Mathlib.Omega.{arith}
use lib.ListN.{length, drop, replicate, length-replicate}
use borrow.Author.Tests.{lt-ltb}
use Rattle.masking.specs.Foretold.{foretold_tape}
use Rattle.plans.specs.words.ProductPlan.{product_plan}
use Rattle.plans.specs.words.SumPlan.{sum_plan}
use Rattle.fft_numbers.specs.Acts.{Act, Slots, tape_for, run_shares}
use Rattle.fft_numbers.specs.Layer.{pair_of, first_pairs}
use Rattle.fft_numbers.specs.Calls.{layer_tape, layer_start, layer_end, layer_shares}
use Rattle.fft_numbers.proofs.Laws.{tape_append, shares_append}
use Rattle.fft_numbers.proofs.Tape.{pairs_tape}
use Rattle.fft_numbers.proofs.Laid.{laid_out_is}
use Rattle.fft_sizes.specs.declared.pair.Pair.{Pair}
use Rattle.fft_sizes.specs.inner.Inner.{acts_of, IsPair}
use Rattle.fft_slots.specs.inner.Inner.{held_of, HeldIn, LentIn, Done}
use Rattle.fft_slots.proofs.Holding.{zeros_held}

module _ (n N h : ℕ) (numbers factors tape : List ℕ) where
  -- the slots after the first k pairs
  abbrev after : ℕ → Slots (List ℕ)
  after k = run_shares n (first_pairs N h factors k) tape (layer_start n N numbers)

  pub record PairsDone (k t : ℕ) (l w : List ℕ) : Type 0 where
    pub place : t ≡ tape_for n (first_pairs N h factors k)
    pub lent : LentIn n (2 * N) l (after k)
    pub held : HeldIn n w (after k)

  pub none_done : n ≤ 8 → length numbers ≡ 2 * N * n → {w : List ℕ} → w ≡ replicate 512 0 → PairsDone 0 0 numbers w
  none_done few size {w} e =
      record {
        place = refl;
        lent = record { size = size; each = λ j lj. rw (lt-ltb j (2 * N) lj) };
        held = record { size = ap length e ∙ length-replicate {A = ℕ} 512 0; each = λ k lk. ap (held_of n k) e ∙ zeros_held n k few lk };
      }

  pub one_done : (k t : ℕ) {l w : List ℕ} → PairsDone k t l w → (p : Pair) → IsPair N h factors k p → {t' : ℕ} {l' w' : List ℕ} → t' ≡ t + tape_for n (acts_of p)
      → Done n (2 * p.layer.count) (acts_of p) (drop t tape) l w l' w' → PairsDone (k + 1) t' l' w'
  one_done k t {l} {w} P p I {t'} {l'} {w'} moved done =
      let e : t' ≡ t + tape_for n (pair_of N h factors k) = subst (λ (cs : List Act). t' ≡ t + tape_for n cs) I.acts moved in
      let D : Done n (2 * N) (pair_of N h factors k) (drop t tape) l w l' w' =
      subst (λ (cs : List Act). Done n (2 * N) cs (drop t tape) l w l' w') I.acts (subst (λ (m : ℕ). Done n (2 * m) (acts_of p) (drop t tape) l w l' w') I.count done) in
      let more = ap (first_pairs N h factors) (add-one k) in
      let q = ap (λ cs. run_shares n cs tape (layer_start n N numbers)) more
      ∙ shares_append n (first_pairs N h factors k) (pair_of N h factors k) tape (layer_start n N numbers)
      ∙ ap (λ (i : ℕ). run_shares n (pair_of N h factors k) (drop i tape) (after k)) (sym P.place) in
      let r = D (after k) P.lent P.held in
      record {
        place = e ∙ ap (λ (i : ℕ). i + tape_for n (pair_of N h factors k)) P.place ∙ sym (ap (tape_for n) more ∙ tape_append n (first_pairs N h factors k) (pair_of N h factors k));
        lent = rw q r.0;
        held = rw q r.1;
      }

  -- the tape is long enough for pair k
  pub pair_enough : (k t : ℕ) {l w : List ℕ} → PairsDone k t l w → (p : Pair) → IsPair N h factors k p → k < N / 2 → layer_tape n N ≤ length tape
      → t + tape_for n (acts_of p) ≤ length tape
  pair_enough k t P p I lk enough =
      subst (λ (cs : List Act). t + tape_for n cs ≤ length tape) (sym I.acts)
      (let up = mul-le-mul_right {m = suc k} {n = N / 2} (4 * foretold_tape n product_plan + 6 * foretold_tape n sum_plan) lk in
      omega (arith, P.place, tape_append n (first_pairs N h factors k) (pair_of N h factors k), pairs_tape n N h factors (suc k), up))

  pub all_done : {t : ℕ} {l w : List ℕ} → PairsDone (N / 2) t l w → l ≡ layer_shares n N h numbers factors tape
  unfolding layer_shares
  all_done {t} {l} P = laid_out_is n (2 * N) l (layer_end n N h numbers factors tape).lent P.lent.size P.lent.each
