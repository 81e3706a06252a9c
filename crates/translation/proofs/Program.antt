-- A plan's share program word by word: the words of each plan word stand where the last one's ended, all of them behind the head. Rests on
-- masking's counts.
use mathlib.Core.Path.{◌≡◌, refl, sym, ap, ap₂, ◌∙◌}
use mathlib.Core.List.{List, ◌∷◌, ◌++◌}
use Prim.Native.Nat.{ℕ, ◌+◌, ◌≤◌, ◌<◌}
use native.Mathlib.Nat.{zero-add}
use native.Mathlib.Numerals.{add-one}
use native.Mathlib.Omega.{arith}
use lib.ListN.{length, drop, set, get_or, length-append, length-set, drop_of_length-le}
use lib.Seq.{sets, sets-eq, length-sets, drop-cons}
use Rattle.word.specs.Encoding.{plan_step}
use Rattle.masking.specs.Translation.{words_for, program}
use Rattle.masking.specs.Foretold.{Accepted, foretold_words}
use Rattle.masking.proofs.emitted.Counts.{plan_counts}
use Rattle.checks.proofs.Slices.{sets_append}

-- ---- a plan's words in turn

-- words are written up to `at`, behind the head those of the plan's first i words
pub record Going (n : ℕ) (plan out₀ out : List ℕ) (at i : ℕ) : Type 0 where
  pub same : sets out₀ 1 (program n plan) ≡ sets out at (program n (drop i plan))
  pub ends : at + length (program n (drop i plan)) ≡ 1 + length (program n plan)
  pub long : length out ≡ length out₀

module _ (n : ℕ) (plan : List ℕ) (A : Accepted n plan) where
  module _ (out₀ out : List ℕ) (at i : ℕ) (g : Going n plan out₀ out at i) (l : i < length plan) where
    next_word : program n (drop i plan) ≡ words_for n (plan_step (get_or plan i 0)) ++ program n (drop (i + 1) plan)
    next_word = ap (program n) (drop-cons plan i 0 l) ∙ ap (λ (k : ℕ). words_for n (plan_step (get_or plan i 0)) ++ program n (drop k plan)) (sym (add-one i))

    -- there is room for the next word's words
    next_fits : 1 + foretold_words n plan ≤ length out₀ → at + length (words_for n (plan_step (get_or plan i 0))) ≤ length out
    next_fits r =
        omega (
          arith,
          g.ends,
          g.long,
          (plan_counts n plan A).words,
          ap length next_word,
          length-append (words_for n (plan_step (get_or plan i 0))) (program n (drop (i + 1) plan)),
        )

    -- they are written
    pub going_on : {out' : List ℕ} {at' : ℕ} → out' ≡ sets out at (words_for n (plan_step (get_or plan i 0)))
        → at' ≡ at + length (words_for n (plan_step (get_or plan i 0))) → Going n plan out₀ out' at' (i + 1)
    going_on {out'} {at'} e a =
        let ws = words_for n (plan_step (get_or plan i 0)) in
        record {
          same =
              g.same ∙ ap (sets out at) next_word ∙ sets_append out at ws (program n (drop (i + 1) plan))
              ∙ ap₂ (λ (o : List ℕ) (k : ℕ). sets o k (program n (drop (i + 1) plan))) (sym e) (sym a);
          ends = omega (arith, g.ends, ap length next_word, length-append ws (program n (drop (i + 1) plan)));
          long = ap length e ∙ length-sets out at ws ∙ g.long;
        }

  -- there is room where d had it and the head is its first word
  pub next_room : (h : ℕ) (d : List ℕ) {out : List ℕ} {at i : ℕ} → Going n plan (set d 0 h) out at i → i < length plan → 1 + foretold_words n plan ≤ length d
      → at + length (words_for n (plan_step (get_or plan i 0))) ≤ length out
  next_room h d {out} {at} {i} g l r = next_fits (set d 0 h) out at i g l (omega (arith, length-set d 0 h))

  -- all are written, behind a head in what was d
  pub gone : (h : ℕ) (d out : List ℕ) (at i : ℕ) → Going n plan (set d 0 h) out at i → length plan ≤ i → 1 + foretold_words n plan ≤ length d
      → out ≡ (h ∷ program n plan) ++ drop (length (h ∷ program n plan)) d
  gone h d out at i g l r =
      ap (λ (p : List ℕ). sets out at (program n p)) (sym (drop_of_length-le plan l)) ∙ sym g.same
      ∙ sets-eq (h ∷ program n plan) d 0 (omega (arith, (plan_counts n plan A).words))
      ∙ ap (λ (k : ℕ). (h ∷ program n plan) ++ drop k d) (zero-add (length (h ∷ program n plan)))

pub going : (n : ℕ) (plan out : List ℕ) → Going n plan out out 1 0
going n plan out = record { same = refl; ends = refl; long = refl }
